use Rattle.std.proofs.Common.{◌≡◌, ◌+◌, ◌++◌, drop, map}
use Rattle.flow_journal.specs.RunSetting.{node_of}
use Rattle.board_rules.specs.RunMeasures.{run_setting}
use Rattle.flow_roles.specs.Workers.{workers_from, workers}
use Rattle.flow_roles.proofs.nodes.worker_nodes.Given as goal

abbrev pub invariant-loop-place : goal.invariant-loop-place
invariant-loop-place g l =
    l.nodes.items ++ workers_from (l.place + 1) (map node_of (drop l.place l.plan.graph.nodes)) ≡ workers (run_setting g.R.Run.graph g.R.Run.stack)
