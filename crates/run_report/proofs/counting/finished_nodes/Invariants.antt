-- The counts so far are those of the tallies so far.
use Rattle.std.proofs.Common.{◌≡◌, map, take}
use Rattle.run_report.specs.Tallies.{finished}
use Rattle.run_report.proofs.counting.finished_nodes.Given as goal

abbrev pub invariant-loop-node : goal.invariant-loop-node
invariant-loop-node l = l.counts.items ≡ map (finished l.first_prev) (take l.node-index l.nodes)
