use Rattle.std.proofs.Common.{◌≡◌, ◌+◌, length, drop}
use Rattle.graph_conf.specs.Graphs.{input_numbers}
use Rattle.graph_conf.proofs.Joined.{in_front}
use Rattle.graph_conf.proofs.links.input_numbers.Given as goal

-- the numbers so far, and then those of what is left
abbrev pub invariant-loop-node : goal.invariant-loop-node
invariant-loop-node l =
    let all = l.nodes in
    record {
      told : in_front l.inputs.items (input_numbers all (l.node-index + 1) (drop l.node-index l.nodes)) ≡ input_numbers all 1 all;
      len : length l.inputs.items ≡ l.node-index;
    }
