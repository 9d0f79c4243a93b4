use Rattle.std.proofs.Common.{length}
use Rattle.flow_journal.specs.Waiting.{waiting}
use Rattle.board_rules.specs.RunMeasures.{run_setting}
use Rattle.board_rules.specs.States.{past}
use Rattle.flow_emit.specs.Outs.{GoesOn}
use Rattle.run_course.specs.Leaving.{flush}
use Rattle.flow_emit.proofs.settling.flush.Given as goal

abbrev pub invariant-loop : goal.invariant-loop
invariant-loop g l = GoesOn (run_setting g.F.Of.Run.graph g.F.Of.Run.stack) (flush (run_setting g.F.Of.Run.graph g.F.Of.Run.stack) l.node) l.initial.course l.course

-- fewer and fewer wait
abbrev pub decreases-loop : goal.decreases-loop
decreases-loop g l = length (waiting (run_setting g.F.Of.Run.graph g.F.Of.Run.stack) l.node (past l.course.told))
