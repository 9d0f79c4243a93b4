use Rattle.std.proofs.Common.{sym, refl, ◌∙◌}
use Rattle.board_rules.specs.States.{past}
use Rattle.board_rules.specs.RunMeasures.{run_setting}
use Rattle.flow_journal.specs.Hands.{hand}
use Rattle.journal_check.proofs.Refusals.{no_load, other_load}
use Rattle.journal_check.proofs.loads.try_issue.Goals.{then-not-is_role-via-then-not-is_role}
use Rattle.journal_check.proofs.loads.try_issue.Goals.{then-not-is_role-via-else-not-is_role+then-not-is_load_of}
use Rattle.journal_check.proofs.loads.try_issue.Goals as goal

pub returns-then-not-is_role-clause-tries : goal.returns-then-not-is_role-clause-tries
returns-then-not-is_role-clause-tries g c =
    let s = run_setting g.R.Run.graph g.R.Run.stack in
    let P = past c.args.course.now.told in
    elim c.then-not-is_role.branch [
      | then-not-is_role-via-then-not-is_role w ↦
          (no_load s c.args.role c.args.index P c.requires.history (sym c.is_role.ensures ∙ w.if-not-is_role.true), refl)
      | then-not-is_role-via-else-not-is_role+then-not-is_load_of w ↦
          (other_load c.args.index (hand c.args.role P) (sym w.is_load_of.ensures ∙ w.if-not-is_load_of.true), refl)
    ]
