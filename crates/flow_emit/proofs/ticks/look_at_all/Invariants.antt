use Rattle.board_rules.specs.RunMeasures.{run_setting}
use Rattle.flow_emit.specs.Ticks.{LooksMade}
use Rattle.flow_emit.proofs.ticks.look_at_all.Given as goal

abbrev pub invariant-loop-place : goal.invariant-loop-place
invariant-loop-place g l = LooksMade (run_setting g.F.Of.Run.graph g.F.Of.Run.stack) l.place l.initial.course l.course
