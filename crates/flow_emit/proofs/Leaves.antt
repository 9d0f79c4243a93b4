-- An array that has left the sort list of its node, and is offered then.
use Rattle.std.proofs.Common.{◌≡◌, ◌∙◌, ℕ, true, List, ◌∷◌, Some, length, map, drop, sym, ap, subst, refl, arith}
use Rattle.std.specs.Prelude.{slice_get}
use Rattle.nd_base.specs.declared.frame.FrameName.{FrameName}
use Rattle.flow_journal.specs.declared.entry.Entry.{Entry}
use Rattle.flow_journal.specs.Setting.{Setting}
use Rattle.flow_journal.specs.Pasts.{Past}
use Rattle.flow_journal.specs.Turns.{offered_to}
use Rattle.flow_journal.specs.Following.{offer, emit}
use Rattle.flow_journal.specs.Histories.{is_legal}
use Rattle.board_rules.specs.States.{BoardState, past, plain}
use Rattle.board_rules.specs.Moving.{with_all}
use Rattle.run_course.specs.Courses.{Coursed}
use Rattle.run_course.specs.Leaving.{LeavesList}
use Rattle.run_course.proofs.Looking.{first-legal}
use Rattle.flow_emit.specs.Emissions.{HasEmitted, before_emission}
use Rattle.flow_emit.specs.Outs.{OneOut}
use Rattle.flow_emit.proofs.Waits.{waits-offers}

pub left-emitted : (s : Setting) (v : ℕ) (outs : Past → List Entry) (a : FrameName) (old mid : Coursed) → LeavesList s v outs a old mid → HasEmitted v a mid.told
left-emitted s v outs a old mid l = (l.why, old.told, ap (λ (w : Coursed). w.told) l.moves)

pub left-next : (s : Setting) (v : ℕ) (outs : Past → List Entry) (a : FrameName) (old mid : Coursed) → LeavesList s v outs a old mid
    → slice_get mid.transit 0 ≡ Some a
left-next s v outs a old mid l = subst (λ (w : Coursed). slice_get w.transit 0 ≡ Some a) (sym l.moves) refl

pub left-legal : (s : Setting) (v : ℕ) (outs : Past → List Entry) (a : FrameName) (old mid : Coursed) → LeavesList s v outs a old mid
    → is_legal s (past (with_all s 0 2 (outs (past old.told)) old.told)) ≡ true
    → is_legal s (past (with_all s 0 1 (map (offer a) (offered_to s (before_emission mid.told) v)) mid.told)) ≡ true
left-legal s v outs a old mid l legal =
    subst (λ (w : Coursed). is_legal s (past (with_all s 0 1 (map (offer a) (offered_to s (before_emission w.told) v)) w.told)) ≡ true) (sym l.moves)
    (first-legal s v a l.why (outs (past old.told)) (outs (emit v l.why a ∷ past old.told)) old.told l.first legal).0

-- where offers leave what is to go out as it is
pub left-out : (s : Setting) (v : ℕ) (outs : Past → List Entry) (a : FrameName) (old mid new : Coursed)
    → ((cs : List ℕ) (b : BoardState) → outs (past (with_all s 0 1 (map (offer a) cs) b)) ≡ outs (past b)) → LeavesList s v outs a old mid
    → new ≡ record mid { told = with_all s 0 1 (map (offer a) (offered_to s (before_emission mid.told) v)) mid.told; transit = drop 1 mid.transit }
    → OneOut s v outs old.told new.told
left-out s v outs a old mid new keeps l is =
    let b = old.told in
    let e : Entry = emit v l.why a in
    let cs = offered_to s (past b) v in
    let after : BoardState = with_all s 0 1 (map (offer a) cs) (plain e ∷ b) in
    let made : new.told ≡ after =
    ap (λ (w : Coursed). w.told) is
    ∙ ap (λ (w : Coursed). with_all s 0 1 (map (offer a) (offered_to s (before_emission w.told) v)) w.told) l.moves in
    let one : OneOut s v outs b after = record {
      first = e;
      goes = l.first ∙ ap (λ ds. e ∷ ds) (sym (keeps cs (plain e ∷ b)));
      told = refl;
      fewer = omega (arith, l.fewer, ap length (waits-offers s v a cs (plain e ∷ b)));
    } in
    subst (OneOut s v outs b) (sym made) one
