use Rattle.std.proofs.Common.{sym, refl, ◌∙◌}
use Rattle.board_rules.specs.States.{past}
use Rattle.board_rules.specs.RunMeasures.{run_setting}
use Rattle.journal_check.proofs.Refusals.{no_reclaim, reclaim_no}
use Rattle.journal_check.proofs.endings.try_reclaim.Goals.{then-not-is_role-via-then-not-is_role, then-not-is_role-via-else-not-is_role+then-is_some}
use Rattle.journal_check.proofs.endings.try_reclaim.Goals as goal

pub returns-then-not-is_role-clause-tries : goal.returns-then-not-is_role-clause-tries
returns-then-not-is_role-clause-tries g c =
    let s = run_setting g.R.Run.graph g.R.Run.stack in
    let P = past c.args.course.now.told in
    elim c.then-not-is_role.branch [
      | then-not-is_role-via-then-not-is_role w ↦ (no_reclaim s c.args.role P c.requires.history (sym c.is_role.ensures ∙ w.if-not-is_role.true), refl)
      | then-not-is_role-via-else-not-is_role+then-is_some w ↦
          (reclaim_no s c.args.role P w.reclaim_refusal.result w.reclaim_refusal.ensures (sym w.is_some.ensures ∙ w.if-is_some.true), refl)
    ]
