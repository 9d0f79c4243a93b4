use Rattle.std.proofs.Common.{◌≡◌, length}
use Rattle.board_rules.specs.Moving.{with_all}
use Rattle.board_rules.specs.RunMeasures.{run_setting}
use Rattle.run_course.specs.Watched.{ring_outs}
use Rattle.flow_emit.proofs.watching.let_ring_out.Given as goal

-- what is left to go out makes the rest
abbrev pub invariant-loop-course : goal.invariant-loop-course
invariant-loop-course g l =
    with_all (run_setting g.F.Of.Run.graph g.F.Of.Run.stack) 0 2 (ring_outs l.node l.course.transit) l.course.told
    ≡ with_all (run_setting g.F.Of.Run.graph g.F.Of.Run.stack) 0 2 (ring_outs l.node l.initial.course.transit) l.initial.course.told

abbrev pub decreases-loop-course : goal.decreases-loop-course
decreases-loop-course g l = length l.course.transit
