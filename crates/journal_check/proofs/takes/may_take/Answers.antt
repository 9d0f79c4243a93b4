use Rattle.std.proofs.Common.{◌≡◌, false, not, sym, ap, ◌∙◌}
use Rattle.flow_journal.specs.FirstEntries.{may_take}
use Rattle.board_rules.specs.States.{past}
use Rattle.board_rules.specs.RunMeasures.{run_setting}
use Rattle.journal_check.proofs.Refusals.{take_none, take_nowhere, take_stranger}
use Rattle.journal_check.proofs.takes.may_take.Goals.{then-is_role, else-is_role, then-is_node, else-is_node}
use Rattle.journal_check.proofs.takes.may_take.Goals as goal

pub returns-else-is_none-clause-answer : goal.returns-else-is_none-clause-answer
returns-else-is_none-clause-answer g c =
    let s = run_setting g.R.Run.graph g.R.Run.stack in
    let P = past c.args.course.now.told in
    let no_ : may_take s c.args.act.role c.args.act.node c.args.act.name P ≡ false =
    elim c.if-is_node.branch [
      | then-is_node w ↦
          take_none s c.args.act.role c.args.act.node c.args.act.name P w.take_refusal.result w.take_refusal.ensures
          (w.is_none.ensures ∙ ap not (sym w.value-is ∙ c.if-is_none.false))
      | else-is_node w ↦ elim c.if-is_role.branch [
        | then-is_role u ↦
            take_nowhere s c.args.act.role c.args.act.node c.args.act.name P (sym u.is_node.ensures ∙ (sym u.value-is ∙ w.if-is_node.false))
        | else-is_role u ↦ take_stranger s c.args.act.role c.args.act.node c.args.act.name P (sym c.is_role.ensures ∙ u.if-is_role.false)
      ]
    ] in
    c.if-is_none.false ∙ sym no_
