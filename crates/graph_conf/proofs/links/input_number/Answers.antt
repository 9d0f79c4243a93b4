use Rattle.std.proofs.Common.{◌+◌, ap, sym, ◌∙◌}
use Rattle.std.specs.Option.{option_map}
use Rattle.graph_conf.proofs.Joined.{input_number-node}
use Rattle.graph_conf.proofs.links.input_number.Goals as goal

pub returns-in-Some : goal.returns-in-Some
returns-in-Some c =
    sym (input_number-node c.args.nodes.now c.args.input.now (sym c.eq.ensures ∙ c.if-eq.false)
    ∙ ap (option_map (λ k. k + 1)) (sym c.place_of.ensures.place ∙ c.in-Some.is))

pub returns-in-None : goal.returns-in-None
returns-in-None c =
    sym (input_number-node c.args.nodes.now c.args.input.now (sym c.eq.ensures ∙ c.if-eq.false)
    ∙ ap (option_map (λ k. k + 1)) (sym c.place_of.ensures.place ∙ c.in-None.is))
