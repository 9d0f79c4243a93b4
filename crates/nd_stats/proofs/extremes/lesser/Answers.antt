use Rattle.std.proofs.Common.{rules, true, false, ◌/◌, ℤ, ℕ, length, refl, ◌+◌, ◌∙◌, w64, FitsSigned}
use Rattle.std.proofs.lemmas.Int.{to_z-of_z}
use Rattle.nd_base.specs.Samples.{width, numbers}
use Rattle.nd_stats.specs.Samples.{placed, least}
use Rattle.nd_stats.proofs.Firsts.{taken, left_out, test_left, least_block_place}
use Rattle.nd_stats.proofs.extremes.lesser.Goals as goal

pub returns-then-min-value-clause-value : goal.returns-then-min-value-clause-value
returns-then-min-value-clause-value c =
    let kind = c.args.kind in
    let bytes = c.args.block.now in
    let n : ℕ = length bytes / width kind in
    let v : ℤ = c.args.min in
    let fv : FitsSigned w64 v = search rules in
    let fw : FitsSigned w64 c.args.value = search rules in
    let e = c.requires.min in
    let x = (least (placed c.args.place (numbers kind n bytes))).value in
    to_z-of_z w64 v fv ∙ taken _ x c.args.value v (test_left v c.args.value x true (simp to_z-of_z at c.if-min-value.true) e) e

pub returns-then-min-value-clause-at : goal.returns-then-min-value-clause-at
returns-then-min-value-clause-at c =
    let kind = c.args.kind in
    let bytes = c.args.block.now in
    let n : ℕ = length bytes / width kind in
    let v : ℤ = c.args.min in
    let fv : FitsSigned w64 v = search rules in
    let fw : FitsSigned w64 c.args.value = search rules in
    let e = c.requires.min in
    let s = least (placed c.args.place (numbers kind n bytes)) in
    let here = simp to_z-of_z at c.first_place.ensures.here in
    let first = simp to_z-of_z at c.first_place.ensures.first in
    let place = least_block_place kind c.args.place n c.first_place.result bytes v c.requires.some e here first c.first_place.ensures.within in
    taken _ s.place c.args.at (c.args.place + c.first_place.result) (test_left v c.args.value s.value true (simp to_z-of_z at c.if-min-value.true) e) place

pub returns-else-min-value-clause-value : goal.returns-else-min-value-clause-value
returns-else-min-value-clause-value c =
    let kind = c.args.kind in
    let bytes = c.args.block.now in
    let n : ℕ = length bytes / width kind in
    let v : ℤ = c.args.min in
    let fv : FitsSigned w64 v = search rules in
    let fw : FitsSigned w64 c.args.value = search rules in
    let e = c.requires.min in
    let x = (least (placed c.args.place (numbers kind n bytes))).value in
    left_out _ x c.args.value _ (test_left v c.args.value x false (simp to_z-of_z at c.if-min-value.false) e) (to_z-of_z w64 c.args.value fw)

pub returns-else-min-value-clause-at : goal.returns-else-min-value-clause-at
returns-else-min-value-clause-at c =
    let kind = c.args.kind in
    let bytes = c.args.block.now in
    let n : ℕ = length bytes / width kind in
    let v : ℤ = c.args.min in
    let fv : FitsSigned w64 v = search rules in
    let fw : FitsSigned w64 c.args.value = search rules in
    let e = c.requires.min in
    let s = least (placed c.args.place (numbers kind n bytes)) in
    left_out _ s.place c.args.at c.args.at (test_left v c.args.value s.value false (simp to_z-of_z at c.if-min-value.false) e) refl
