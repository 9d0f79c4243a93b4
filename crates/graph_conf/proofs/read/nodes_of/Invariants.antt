use Rattle.std.proofs.Common.{◌≡◌, ◌+◌, length, map, drop}
use Rattle.std.specs.Prelude.{All}
use Rattle.toml.specs.View.{table_view}
use Rattle.nd_base.specs.GraphRules.{IsNode}
use Rattle.graph_conf.specs.Graphs.{nodes_from}
use Rattle.graph_conf.proofs.Joined.{in_front}
use Rattle.graph_conf.proofs.read.nodes_of.Given as goal

-- the nodes so far, and then those of what is left
abbrev pub invariant-loop-table : goal.invariant-loop-table
invariant-loop-table l = record {
  told : in_front l.nodes.items (nodes_from (l.table-index + 1) (map (λ t. table_view t.now) (drop l.table-index l.tables)))
      ≡ nodes_from 1 (map (λ t. table_view t.now) l.tables);
  len : length l.nodes.items ≡ l.table-index;
  sound : All (λ n. IsNode n.rule) l.nodes.items;
}
