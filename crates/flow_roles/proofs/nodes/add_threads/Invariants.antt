use Rattle.std.proofs.Common.{◌≡◌, ◌++◌, replicate}
use Rattle.flow_roles.proofs.nodes.add_threads.Given as goal

abbrev pub invariant-loop : goal.invariant-loop
invariant-loop l = l.nodes.items ≡ l.fn.nodes.items ++ replicate l.counter l.node
