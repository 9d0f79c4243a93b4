use Rattle.std.proofs.Common.{◌≡◌, drop}
use Rattle.toml.specs.Data.{as_bool}
use Rattle.toml.specs.View.{items_view}
use Rattle.graph_conf.specs.Keys.{all_of}
use Rattle.graph_conf.proofs.Items.{behind}
use Rattle.graph_conf.proofs.keys.truths_of.Given as goal

abbrev pub invariant-loop-item : goal.invariant-loop-item
invariant-loop-item l = behind l.list.items (all_of as_bool (items_view (drop l.item-index l.items.items))) ≡ all_of as_bool (items_view l.items.items)
