-- What a plain run prints.
use Rattle.std.specs.Prelude.{ℕ, List, [], ◌∷◌, ◌++◌, length, codes}
use Rattle.std.specs.Fmt.{decimal}
use Rattle.std.specs.List.{flat_map, range_with_len}
use Rattle.std.specs.Option.{option_map_or}
use Rattle.nd_base.specs.Array.{StackValue}
use Rattle.nd_base.specs.declared.graph.Graph.{Graph}
use Rattle.nd_base.specs.GraphRules.{rule_at}
use Rattle.chain_plain.specs.PlainRun.{passed}
use Rattle.tool_commands.specs.Printed.{frames_line}

-- the name of a node, how many arrays go out of it, and a newline
abbrev pub out_line : (name : List ℕ) → (count : ℕ) → List ℕ
out_line name count = codes "node " ++ name ++ codes " out " ++ decimal count ++ 10 ∷ []

abbrev pub node_line : Graph → StackValue → ℕ → List ℕ
node_line g s v = option_map_or (λ n. out_line n.name (length (passed g s v))) (rule_at g.nodes v) []

-- the number of frames, and a line for each node in the graph's order
abbrev pub plain_text : Graph → StackValue → List ℕ
plain_text g s = frames_line (length s.arrays) ++ flat_map (node_line g s) (range_with_len 1 (length g.nodes))
