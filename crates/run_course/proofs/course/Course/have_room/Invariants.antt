use Rattle.std.proofs.Common.{◌≡◌, drop}
use Rattle.std.specs.List.{list_all}
use Rattle.flow_journal.specs.Queued.{has_room}
use Rattle.board_rules.specs.RunMeasures.{run_setting}
use Rattle.board_rules.specs.States.{past}
use Rattle.run_course.proofs.course.Course.have_room.Given as goal

-- all of those before have room
abbrev pub invariant-loop-node : goal.invariant-loop-node
invariant-loop-node g l =
    list_all (has_room (run_setting g.F.Of.Run.graph g.F.Of.Run.stack) (past l.self.told)) (drop l.node-index l.nodes)
    ≡ list_all (has_room (run_setting g.F.Of.Run.graph g.F.Of.Run.stack) (past l.self.told)) l.nodes
