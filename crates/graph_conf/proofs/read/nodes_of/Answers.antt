use Rattle.std.proofs.Common.{◌≡◌, ◌+◌, ◌∷◌, [], Ok, length, map, drop, length-append, ap, sym, subst, ◌∙◌, arith}
use Rattle.std.specs.Prelude.{All}
use Rattle.std.proofs.lemmas.List.Elements.{All-push}
use Rattle.nd_base.specs.GraphRules.{IsNode}
use Rattle.std.proofs.lemmas.List.{at_drop_more}
use Rattle.toml.specs.View.{table_view}
use Rattle.graph_conf.specs.Nodes.{node_of}
use Rattle.graph_conf.specs.Graphs.{nodes_from}
use Rattle.graph_conf.proofs.Joined.{in_front, nodes_more}
use Rattle.graph_conf.proofs.read.nodes_of.Goals as goal

pub loop-table-preserved : goal.loop-table-preserved
loop-table-preserved c =
    let ts = c.args.tables.now in
    let i = c.loop-table.table-index in
    let d = c.table-item.result in
    let n = c.in_ok-node_of.field-0 in
    let left = map (λ t. table_view t.now) (drop (i + 1) ts) in
    let front = c.loop-table.nodes.items in
    let number : i + 1 ≡ c.len.result + 1 = omega (arith, c.loop-table.invariant.len, c.len.ensures) in
    let is : node_of (i + 1) (table_view d.now) ≡ Ok n = ap (λ v. node_of v (table_view d.now)) number ∙ c.in_ok-node_of.ensures.gives in
    record {
      told =
          ap (λ ns. in_front ns (nodes_from (i + 1 + 1) left)) c.in_ok-push.ensures.items
          ∙ sym (nodes_more front (i + 1) (table_view d.now) left n is)
          ∙ ap (λ t. in_front front (nodes_from (i + 1) (table_view t.now ∷ left))) c.table-item.is
          ∙ sym (at_drop_more (λ us. in_front front (nodes_from (i + 1) (map (λ t. table_view t.now) us))) ts i d c.loop-table-test.true)
          ∙ c.loop-table.invariant.told;
      len = ap length c.in_ok-push.ensures.items ∙ length-append c.loop-table.nodes.items (n ∷ []) ∙ ap (λ k. k + 1) c.loop-table.invariant.len;
      sound =
          subst (All (λ m. IsNode m.rule)) (sym c.in_ok-push.ensures.items)
          (All-push (λ m. IsNode m.rule) c.loop-table.nodes.items n c.loop-table.invariant.sound c.in_ok-node_of.ensures.sound);
    }
