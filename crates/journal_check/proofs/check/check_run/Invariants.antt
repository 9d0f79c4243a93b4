use Rattle.std.proofs.Common.{◌≡◌, ◌-◌, [], length}
use Rattle.board_rules.specs.RunMeasures.{run_setting}
use Rattle.board_rules.specs.States.{past}
use Rattle.journal_check.proofs.Runs.{IsAt}
use Rattle.journal_check.proofs.check.check_run.Given as goal

-- so many entries are the history of the course
abbrev pub invariant-loop-at : goal.invariant-loop-at
invariant-loop-at g l = (l.course.transit ≡ []) × IsAt (run_setting g.R.Run.graph g.R.Run.stack) l.entries l.at (past l.course.told)

abbrev pub decreases-loop-at : goal.decreases-loop-at
decreases-loop-at g l = length l.entries - l.at
