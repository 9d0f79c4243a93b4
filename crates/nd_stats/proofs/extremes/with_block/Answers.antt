use Rattle.std.proofs.Common.{rules, ◌/◌, ◌∙◌, ℕ, length, w64, FitsSigned}
use Rattle.std.proofs.lemmas.Int.{to_z-of_z}
use Rattle.nd_base.specs.Samples.{width}
use Rattle.nd_stats.specs.declared.tally.Extremes.{Extremes}
use Rattle.nd_stats.proofs.Firsts.{extremes_block, least_block, greatest_block}
use Rattle.nd_stats.proofs.extremes.with_block.Goals as goal

pub lesser-min-requires-clause-min : goal.lesser-min-requires-clause-min
lesser-min-requires-clause-min c =
    let fits : FitsSigned w64 c.in-Some.field-0.min = search rules in
    to_z-of_z w64 c.in-Some.field-0.min fits
    ∙ least_block c.args.kind c.args.place (length c.args.block.now / width c.args.kind) c.args.block.now c.in-Some.field-0 c.requires.some c.in-Some.ensures

pub greater-max-requires-clause-max : goal.greater-max-requires-clause-max
greater-max-requires-clause-max c =
    let fits : FitsSigned w64 c.in-Some.field-0.max = search rules in
    to_z-of_z w64 c.in-Some.field-0.max fits
    ∙ greatest_block c.args.kind c.args.place (length c.args.block.now / width c.args.kind) c.args.block.now c.in-Some.field-0 c.requires.some c.in-Some.ensures

pub returns : goal.returns
returns c = λ first xs are.
    let n : ℕ = length c.args.block.now / width c.args.kind in
    let after : Extremes =
    record { min = c.lesser-min.result.0; min_at = c.lesser-min.result.1; max = c.greater-max.result.0; max_at = c.greater-max.result.1 } in
    let f0 : FitsSigned w64 c.lesser-min.result.0 = search rules in
    let f1 : FitsSigned w64 c.greater-max.result.0 = search rules in
    let f2 : FitsSigned w64 c.args.extremes.now.min = search rules in
    let f3 : FitsSigned w64 c.args.extremes.now.max = search rules in
    simp to_z-of_z
    (extremes_block first xs c.args.place n c.args.kind c.args.block.now c.args.extremes.now after c.requires.some are
    (simp to_z-of_z at c.lesser-min.ensures.value) (simp to_z-of_z at c.lesser-min.ensures.at)
    (simp to_z-of_z at c.greater-max.ensures.value) (simp to_z-of_z at c.greater-max.ensures.at))
