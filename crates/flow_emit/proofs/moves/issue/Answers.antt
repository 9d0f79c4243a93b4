use Rattle.std.proofs.Common.{◌≡◌, ◌∷◌, ◌∙◌, [], refl, sym, ap, subst, true, drop}
use Rattle.board_rules.specs.RunMeasures.{run_setting}
use Rattle.board_rules.specs.States.{BoardState, past, plain}
use Rattle.board_rules.specs.Moving.{with_all}
use Rattle.flow_journal.specs.declared.entry.Entry.TheVariants.{Issue}
use Rattle.flow_journal.specs.declared.entry.Why.TheVariants.{Plain}
use Rattle.flow_journal.specs.Pasts.{frame}
use Rattle.flow_journal.specs.Following.{emit}
use Rattle.flow_journal.specs.Histories.{is_legal}
use Rattle.run_course.specs.Courses.{Coursed}
use Rattle.std.proofs.lemmas.Bool.{and_parts}
use Rattle.run_course.proofs.Finding.{coursed-as}
use Rattle.run_course.proofs.Begins.{issue-legal}
use Rattle.flow_emit.proofs.Depth.{outs-flat}
use Rattle.flow_emit.proofs.moves.issue.Goals as goal

pub emit-requires-clause-legal : goal.emit-requires-clause-legal
emit-requires-clause-legal g c =
    let s = run_setting g.F.Of.Run.graph g.F.Of.Run.stack in
    let h = c.requires in
    let r = c.args.role in
    let j = c.args.index in
    let old = c.args.course.now in
    let ds = emit 0 Plain (frame 0 j) ∷ [] in
    let b : BoardState = plain (Issue r j) ∷ old.told in
    subst (λ (w : Coursed). is_legal s (past (with_all s 0 2 ds w.told)) ≡ true) (sym c.note_issue.ensures)
    (subst (λ (new : BoardState). is_legal s (past new) ≡ true) (outs-flat s 0 1 ds b refl) (and_parts _ _ (issue-legal s old.told r j h.history h.hand)).0)

pub returns : goal.returns
returns g c =
    let s = run_setting g.F.Of.Run.graph g.F.Of.Run.stack in
    let h = c.requires in
    let r = c.args.role in
    let j = c.args.index in
    let old = c.args.course.now in
    let ds = emit 0 Plain (frame 0 j) ∷ [] in
    let b : BoardState = plain (Issue r j) ∷ old.told in
    c.emit.ensures
    ∙ (ap (λ (w : Coursed). record w { told = with_all s 0 2 ds w.told; transit = drop 1 w.transit }) c.note_issue.ensures
    ∙ coursed-as (sym (outs-flat s 0 1 ds b refl)) (sym h.still))
