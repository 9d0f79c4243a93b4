-- The tallies so far are those of the driver and of the nodes so far.
use Rattle.std.proofs.Common.{◌≡◌, take}
use Rattle.run_report.specs.Tallies.{fresh_nodes}
use Rattle.run_report.proofs.counting.fresh_nodes.Given as goal

abbrev pub invariant-loop-rule : goal.invariant-loop-rule
invariant-loop-rule l = l.nodes.items ≡ fresh_nodes (take l.rule-index l.rules)
