use Rattle.std.proofs.Common.{◌≡◌, ◌+◌, ◌++◌, length, drop}
use Rattle.std.specs.Vec.Iter.{into_iter_items}
use Rattle.graph_conf.specs.Graphs.{with_inputs}
use Rattle.graph_conf.proofs.links.with_inputs.Given as goal

-- the rules so far, and then those of what is left
abbrev pub invariant-loop-node : goal.invariant-loop-node
invariant-loop-node l = record {
  can : (goal.iterator-loop-node).can_next l.node-iterator;
  finite : (goal.iterator-loop-node).is_finite l.node-iterator;
  told : l.rules.items ++ with_inputs (into_iter_items l.node-iterator) (drop (length l.rules.items) l.inputs) ≡ with_inputs l.fn.nodes.items l.inputs;
  len : length l.rules.items + length (into_iter_items l.node-iterator) ≡ length l.inputs;
}
