use Rattle.std.proofs.Common.{◌≡◌, ◌≤◌, map, vec_capacity}
use Rattle.course_parts.specs.declared.node.NodeState.{NodeState}
use Rattle.course_parts.proofs.ending.all_measures.Given as goal

abbrev pub invariant-loop-node : goal.invariant-loop-node
invariant-loop-node l = (l.lists.items ≡ map (λ (n : NodeState). n.measures.items) l.yielded) × (32 ≤ vec_capacity l.lists)
