use Rattle.std.proofs.Common.{◌≡◌, ◌∙◌, ◌∷◌, true, ap, sym, subst, map}
use Rattle.std.proofs.lemmas.Bool.{and_parts}
use Rattle.nd_base.specs.declared.frame.FrameName.{FrameName}
use Rattle.flow_journal.specs.ResultNames.{result_name}
use Rattle.board_rules.specs.Moving.{moved, with_all}
use Rattle.board_rules.specs.RunMeasures.{run_setting}
use Rattle.board_rules.specs.States.{BoardState, past, plain}
use Rattle.flow_journal.specs.declared.entry.Entry.TheVariants.{Emit}
use Rattle.flow_journal.specs.declared.entry.Why.TheVariants.{Step}
use Rattle.flow_journal.specs.Following.{offer, look}
use Rattle.flow_journal.specs.Histories.{is_legal}
use Rattle.flow_journal.specs.Turns.{offered_to}
use Rattle.run_course.specs.Courses.{Coursed}
use Rattle.flow_emit.specs.Emissions.{before_emission}
use Rattle.run_course.specs.Placing.{IsPlaced}
use Rattle.run_course.specs.Puts.{put_of}
use Rattle.course_parts.specs.declared.results.Placement.{Placement}
use Rattle.course_parts.specs.declared.results.Placement.TheVariants.{Out, Waits, Full}
use Rattle.run_course.proofs.Handed.{job-on}
use Rattle.run_course.proofs.Before.{legal-before}
use Rattle.run_course.proofs.PutMoves.{put-legal, whole-name}
use Rattle.flow_emit.proofs.MovedPuts.{put-whole}
use Rattle.flow_emit.proofs.PutSorted.{LookLeft, left-out, left-waits, left-full, left-legal, left-looked, moved-out}
use Rattle.flow_emit.proofs.sorting.put_sorted.Goals as goal
use Rattle.flow_emit.proofs.sorting.put_sorted.Goals.{in-Out, in-Waits, in-Full}

pub pass_on-requires-clause-from : goal.pass_on-requires-clause-from
pass_on-requires-clause-from g c =
    let s = run_setting g.F.Of.Run.graph g.F.Of.Run.stack in
    let v = c.args.node in
    let r = c.args.role in
    let a = c.args.name in
    let f = c.args.fired in
    let b = c.args.course.now.told in
    let w : Coursed = c.put_placed.new.self in
    let put : BoardState = plain (put_of s r v a f) ∷ b in
    let q : IsPlaced s r v a f c.args.course.now w Out = subst (λ (x : Placement). IsPlaced s r v a f c.args.course.now w x) c.in-Out.is c.put_placed.ensures in (
      Step,
      put,
      ap (λ (x : Coursed). x.told) q.1 ∙ ap (λ (n : FrameName). plain (Emit v n.maker n.index Step) ∷ put) (whole-name s v a ∙ sym c.result_name-made.ensures),
    )

pub pass_on-requires-clause-legal : goal.pass_on-requires-clause-legal
pass_on-requires-clause-legal g c =
    let s = run_setting g.F.Of.Run.graph g.F.Of.Run.stack in
    let v = c.args.node in
    let r = c.args.role in
    let a = c.args.name in
    let f = c.args.fired in
    let b = c.args.course.now.told in
    let w : Coursed = c.put_placed.new.self in
    let put : BoardState = plain (put_of s r v a f) ∷ b in
    let q : IsPlaced s r v a f c.args.course.now w Out = subst (λ (x : Placement). IsPlaced s r v a f c.args.course.now w x) c.in-Out.is c.put_placed.ensures in
    let job = job-on s v r a (past b) (and_parts _ _ c.requires.history).0 c.requires.hand in
    let first = put-legal s v r a f b c.requires.history job c.requires.fired in
    let all : is_legal s (past (moved s (plain (put_of s r v a f)) b)) ≡ true =
    (and_parts _ _ (put-whole s v r a f b c.requires.history job c.requires.fired)).0 in
    let made : FrameName = c.result_name-made.result in
    let e : BoardState = plain (Emit v (result_name s v a).maker a.index Step) ∷ put in
    let told : w.told ≡ e = ap (λ (x : Coursed). x.told) q.1 in
    let after : BoardState → BoardState = λ d. with_all s 0 1 (map (offer made) (offered_to s (before_emission d) v)) d in
    let whole = moved-out s v r a made f b c.requires.sorted first q.0 c.result_name-made.ensures in
    let last : is_legal s (past (with_all s 0 2 (look s v (past (after e))) (after e))) ≡ true =
    subst (λ (d : BoardState). is_legal s (past d) ≡ true) whole all in
    subst (λ (d : BoardState). is_legal s (past (after d)) ≡ true) (sym told) (legal-before s 0 2 (look s v (past (after e))) (after e) last)

pub release_input-requires-clause-input : goal.release_input-requires-clause-input
release_input-requires-clause-input g c =
    let s = run_setting g.F.Of.Run.graph g.F.Of.Run.stack in
    let v = c.args.node in
    let r = c.args.role in
    let a = c.args.name in
    let f = c.args.fired in
    let old : Coursed = c.args.course.now in
    let w : Coursed = c.put_placed.new.self in
    let job = job-on s v r a (past old.told) (and_parts _ _ c.requires.history).0 c.requires.hand in
    let first = put-legal s v r a f old.told c.requires.history job c.requires.fired in
    let placed : (x : Placement) → c.put_placed.result ≡ x → IsPlaced s r v a f old w x =
    λ x is. subst (λ (y : Placement). IsPlaced s r v a f old w y) is c.put_placed.ensures in
    let left : LookLeft s v r a f old c.match-put_placed.course = elim c.match-put_placed.branch [
      | in-Out x ↦
          left-out s v r a c.result_name-made.result f old w _ c.requires.sorted first c.result_name-made.ensures
          (placed Out x.in-Out.is) (x.course-is ∙ x.pass_on.ensures)
      | in-Waits x ↦ subst (LookLeft s v r a f old) (sym x.course-is) (left-waits s v r a f old w c.requires.sorted first (placed Waits x.in-Waits.is))
      | in-Full x ↦ left-full s v r a f old w _ c.requires.sorted first (placed Full x.in-Full.is) (x.course-is ∙ x.release.ensures)
    ] in
    left.carried

pub look-requires-clause-legal : goal.look-requires-clause-legal
look-requires-clause-legal g c =
    let s = run_setting g.F.Of.Run.graph g.F.Of.Run.stack in
    let v = c.args.node in
    let r = c.args.role in
    let a = c.args.name in
    let f = c.args.fired in
    let old : Coursed = c.args.course.now in
    let w : Coursed = c.put_placed.new.self in
    let job = job-on s v r a (past old.told) (and_parts _ _ c.requires.history).0 c.requires.hand in
    let first = put-legal s v r a f old.told c.requires.history job c.requires.fired in
    let placed : (x : Placement) → c.put_placed.result ≡ x → IsPlaced s r v a f old w x =
    λ x is. subst (λ (y : Placement). IsPlaced s r v a f old w y) is c.put_placed.ensures in
    let left : LookLeft s v r a f old c.match-put_placed.course = elim c.match-put_placed.branch [
      | in-Out x ↦
          left-out s v r a c.result_name-made.result f old w _ c.requires.sorted first c.result_name-made.ensures
          (placed Out x.in-Out.is) (x.course-is ∙ x.pass_on.ensures)
      | in-Waits x ↦ subst (LookLeft s v r a f old) (sym x.course-is) (left-waits s v r a f old w c.requires.sorted first (placed Waits x.in-Waits.is))
      | in-Full x ↦ left-full s v r a f old w _ c.requires.sorted first (placed Full x.in-Full.is) (x.course-is ∙ x.release.ensures)
    ] in
    left-legal s v r a f old c.match-put_placed.course c.release_input.new.course left c.release_input.ensures
    (and_parts _ _ (put-whole s v r a f old.told c.requires.history job c.requires.fired)).0

pub returns : goal.returns
returns g c =
    let s = run_setting g.F.Of.Run.graph g.F.Of.Run.stack in
    let v = c.args.node in
    let r = c.args.role in
    let a = c.args.name in
    let f = c.args.fired in
    let old : Coursed = c.args.course.now in
    let w : Coursed = c.put_placed.new.self in
    let job = job-on s v r a (past old.told) (and_parts _ _ c.requires.history).0 c.requires.hand in
    let first = put-legal s v r a f old.told c.requires.history job c.requires.fired in
    let placed : (x : Placement) → c.put_placed.result ≡ x → IsPlaced s r v a f old w x =
    λ x is. subst (λ (y : Placement). IsPlaced s r v a f old w y) is c.put_placed.ensures in
    let left : LookLeft s v r a f old c.match-put_placed.course = elim c.match-put_placed.branch [
      | in-Out x ↦
          left-out s v r a c.result_name-made.result f old w _ c.requires.sorted first c.result_name-made.ensures
          (placed Out x.in-Out.is) (x.course-is ∙ x.pass_on.ensures)
      | in-Waits x ↦ subst (LookLeft s v r a f old) (sym x.course-is) (left-waits s v r a f old w c.requires.sorted first (placed Waits x.in-Waits.is))
      | in-Full x ↦ left-full s v r a f old w _ c.requires.sorted first (placed Full x.in-Full.is) (x.course-is ∙ x.release.ensures)
    ] in
    left-looked s v r a f old c.match-put_placed.course c.release_input.new.course c.look.new.course left c.release_input.ensures c.look.ensures c.requires.still
