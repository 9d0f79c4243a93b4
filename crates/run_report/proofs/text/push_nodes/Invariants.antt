-- The text so far has the lines of the nodes so far.
use Rattle.std.proofs.Common.{◌≡◌, ◌++◌, string_bytes}
use Rattle.std.specs.List.{flat_map}
use Rattle.run_report.specs.Text.{node_line}
use Rattle.run_report.proofs.text.push_nodes.Given as goal

abbrev pub invariant-loop-rule : goal.invariant-loop-rule
invariant-loop-rule l = string_bytes l.text ≡ string_bytes l.initial.text ++ flat_map (λ n. node_line n.0.now.name n.1.now) l.yielded
