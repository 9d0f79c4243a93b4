use Rattle.std.proofs.Common.{◌≡◌, ◌+◌, ◌++◌, drop}
use Rattle.graph_files.specs.OpenFiles.{nodes_from, file_nodes}
use Rattle.graph_files.proofs.open_files.OpenFiles.new.Given as goal

abbrev pub invariant-loop-place : goal.invariant-loop-place
invariant-loop-place l =
    l.nodes.items ++ nodes_from l.plan.graph l.stack l.prefix (l.place + 1) (drop l.place l.plan.graph.nodes) ≡ file_nodes l.plan.graph l.stack l.prefix
