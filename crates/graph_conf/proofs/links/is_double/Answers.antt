use Rattle.std.proofs.Common.{ap, sym, ◌∙◌, take}
use Rattle.std.specs.List.{list_any}
use Rattle.std.specs.Str.{bytes_eq}
use Rattle.graph_conf.specs.Named.{Named}
use Rattle.graph_conf.proofs.Joined.{is_double-at}
use Rattle.graph_conf.proofs.links.is_double.Goals as goal

pub returns : goal.returns
returns c =
    let d = c.index-nodes-place.result in
    c.is_named.ensures ∙ ap (λ name. list_any (λ n. bytes_eq n.rule.name name) (take c.args.place c.args.nodes.now))
    (c.name.ensures ∙ ap (λ (n : Named). n.rule.name) c.index-nodes-place.is)
    ∙ sym (is_double-at c.args.nodes.now c.args.place d c.requires)
