use Rattle.std.proofs.Common.{◌≡◌, ◌++◌, ◌∷◌, [], length, vec_len, ap, ◌∙◌, rules}
use Rattle.flow_run.proofs.Parting.{gathered}
use Rattle.flow_run.proofs.seats.gather.Goals as goal

pub returns-clause-passes : goal.returns-clause-passes
returns-clause-passes g c =
    let few : length c.args.passes.items ≡ vec_len c.args.passes = search rules in
    c.push_reserved.ensures.items
    ∙ ap (λ ps. ps ++ c.args.last ∷ []) (gathered (λ e. e.pass) c.args.feeder c.args.seats.items c.args.passes.items c.part_one.new.passes.items
    c.part_all.new.passes.items (few ∙ c.requires.empty.0) c.part_one.ensures.passes c.part_all.ensures.passes)

pub returns-clause-lefts : goal.returns-clause-lefts
returns-clause-lefts g c =
    let few : length c.args.lefts.items ≡ vec_len c.args.lefts = search rules in
    gathered (λ e. e.left) c.args.feeder c.args.seats.items c.args.lefts.items c.part_one.new.lefts.items c.part_all.new.lefts.items
    (few ∙ c.requires.empty.1) c.part_one.ensures.lefts c.part_all.ensures.lefts
