use Rattle.std.proofs.Common.{◌≡◌, ◌∷◌, ◌∙◌, true, ap, sym, subst, ℕ}
use Rattle.flow_journal.specs.declared.entry.Entry.TheVariants.{Emit}
use Rattle.flow_journal.specs.Histories.{is_legal}
use Rattle.board_rules.specs.RunMeasures.{run_setting}
use Rattle.board_rules.specs.States.{past, plain}
use Rattle.run_course.specs.Courses.{Coursed}
use Rattle.flow_emit.proofs.Offering.{emission-legal}
use Rattle.flow_emit.proofs.emission.emit.Goals.{then-from-eq0, else-from-eq0}
use Rattle.flow_emit.proofs.emission.emit.Goals as goal

pub leave_driver-requires-clause-legal : goal.leave_driver-requires-clause-legal
leave_driver-requires-clause-legal g c =
    let s = run_setting g.F.Of.Run.graph g.F.Of.Run.stack in
    subst (λ (v : ℕ). is_legal s (Emit v c.args.name.maker c.args.name.index c.args.why ∷ past c.args.course.now.told) ≡ true) c.if-from-eq0.true
    (emission-legal s c.args.from c.args.why c.args.name c.args.course.now.told c.requires.legal)

pub leave_node-requires-clause-legal : goal.leave_node-requires-clause-legal
leave_node-requires-clause-legal g c =
    let s = run_setting g.F.Of.Run.graph g.F.Of.Run.stack in
    emission-legal s c.args.from c.args.why c.args.name c.args.course.now.told c.requires.legal

pub pass_on-requires-clause-from : goal.pass_on-requires-clause-from
pass_on-requires-clause-from g c =
    elim c.if-from-eq0.branch [
      | then-from-eq0 w ↦ (
        c.args.why,
        c.args.course.now.told,
        ap (λ (v : Coursed). v.told) (w.course-is ∙ w.leave_driver.ensures)
            ∙ ap (λ (u : ℕ). plain (Emit u c.args.name.maker c.args.name.index c.args.why) ∷ c.args.course.now.told) (sym w.if-from-eq0.true),
      )
      | else-from-eq0 w ↦ (c.args.why, c.args.course.now.told, ap (λ (v : Coursed). v.told) (w.course-is ∙ w.leave_node.ensures))
    ]
