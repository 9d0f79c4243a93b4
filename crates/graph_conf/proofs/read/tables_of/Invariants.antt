use Rattle.std.proofs.Common.{◌≡◌, drop, map}
use Rattle.toml.specs.Data.{as_table}
use Rattle.toml.specs.View.{items_view, table_view}
use Rattle.graph_conf.specs.Keys.{all_of}
use Rattle.graph_conf.proofs.Items.{behind}
use Rattle.graph_conf.proofs.read.tables_of.Given as goal

abbrev pub invariant-loop-item : goal.invariant-loop-item
invariant-loop-item l =
    behind (map (λ t. table_view t.now) l.list.items) (all_of as_table (items_view (drop l.item-index l.items.items)))
    ≡ all_of as_table (items_view l.items.items)
