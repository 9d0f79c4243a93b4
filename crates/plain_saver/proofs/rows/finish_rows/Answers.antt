use Rattle.std.proofs.Common.{◌+◌, sym, subst}
use Rattle.std.specs.Prelude.{Option}
use Rattle.edge_traits.specs.Files.{Files, Stands}
use Rattle.graph_files.specs.OutFiles.{stats_name}
use Rattle.plain_saver.proofs.Pushed.{rule-here, rule-next}
use Rattle.plain_saver.proofs.rows.finish_rows.Goals as goal

pub finish_node-requires : goal.finish_node-requires
finish_node-requires g c = λ r kind.
    let nodes = c.args.source.now.graph.nodes in
    let at = c.loop-place.place in
    let rule = c.index-rules-place.result in
    let here = rule-here nodes c.rules-rules.result.now at rule c.rules-rules.ensures.value c.loop-place-test.true c.index-rules-place.is in
    subst (λ (w : Option Files). Stands w (stats_name c.args.prefix.now rule.name)) (sym c.loop-place.invariant.files)
    (c.requires (at + 1) rule r (rule-next nodes at rule here) kind)
