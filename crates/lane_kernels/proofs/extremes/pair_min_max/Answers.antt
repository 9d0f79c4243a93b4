use Rattle.std.proofs.Common.{rules, ◌≡◌, ◌≤◌, ◌/◌, length, arith, ap, sym, ◌∙◌, ◌+ℤ◌, ℤ, ℕ, w16, w32, w64, to_z, FitsSigned}
use Rattle.std.specs.Int.{int_min, int_max}
use Rattle.std.proofs.lemmas.Int.{to_z-of_z}
use Rattle.nd_base.specs.Samples.{width, numbers}
use Rattle.nd_base.specs.SampleLaws.{width-positive}
use Rattle.lane_kernels.specs.Plain.{least_with, greatest_with, stored}
use Rattle.lane_kernels.specs.Lanes.{offset}
use Rattle.lane_kernels.specs.declared.extremes.MinMax.{MinMax}
use Rattle.lane_kernels.proofs.Samples.{same_number, some_samples}
use Rattle.lane_kernels.proofs.Leasts.{stored-first, min_shift, max_shift, least-more, greatest-more, min_max_all}
use Rattle.lane_kernels.proofs.extremes.pair_min_max.Goals as goal

pub loop-k-init : goal.loop-k-init
loop-k-init c =
    let kind = c.args.kind in
    let bytes = c.args.samples.now in
    let fits : FitsSigned w16 c.pair_lane_at-least.result = search rules in
    let first = ap (λ z. z +ℤ offset kind) (to_z-of_z w16 c.pair_lane_at-least.result fits)
    ∙ c.pair_lane_at-least.ensures ∙ sym (stored-first kind bytes) in
    record { least = first; greatest = first }

pub loop-k-preserved : goal.loop-k-preserved
loop-k-preserved c =
    let kind = c.args.kind in
    let bytes = c.args.samples.now in
    let k = c.loop-k.k in
    let first = stored kind bytes 0 in
    let v : ℤ = c.pair_lane_at-lane.result in
    let a : ℤ = to_z w16 c.loop-k.least-bits in
    let b : ℤ = to_z w16 c.loop-k.greatest-bits in
    let fa : FitsSigned w16 c.min-least.result = search rules in
    let fb : FitsSigned w16 c.max-greatest.result = search rules in
    let fv : FitsSigned w16 v = search rules in
    let min : c.min-least.result ≡ int_min a v = simp to_z-of_z at c.min-least.ensures.value in
    let max : c.max-greatest.result ≡ int_max b v = simp to_z-of_z at c.max-greatest.ensures.value in
    let same = same_number kind c.width-width.result k (v +ℤ offset kind) bytes c.width-width.ensures c.pair_lane_at-lane.ensures in
    record {
      least = ap (λ z. z +ℤ offset kind) (to_z-of_z w16 c.min-least.result fa ∙ min)
          ∙ min_shift a v (offset kind)
          ∙ ap (λ z. int_min z (v +ℤ offset kind)) c.loop-k.invariant.least
          ∙ ap (int_min (least_with first (numbers kind k bytes))) same
          ∙ sym (least-more first kind k bytes);
      greatest = ap (λ z. z +ℤ offset kind) (to_z-of_z w16 c.max-greatest.result fb ∙ max)
          ∙ max_shift b v (offset kind)
          ∙ ap (λ z. int_max z (v +ℤ offset kind)) c.loop-k.invariant.greatest
          ∙ ap (int_max (greatest_with first (numbers kind k bytes))) same
          ∙ sym (greatest-more first kind k bytes);
    }

pub returns : goal.returns
returns c =
    let kind = c.args.kind in
    let bytes = c.args.samples.now in
    let fa : FitsSigned w64 c.from_lane.result = search rules in
    let fb : FitsSigned w64 c.from_lane-2.result = search rules in
    let fc : FitsSigned w32 c.from.result = search rules in
    let fd : FitsSigned w32 c.from-2.result = search rules in
    let n : ℕ = length bytes / width kind in
    let count : length bytes / c.width-width.result ≡ n = ap (λ w. length bytes / w) c.width-width.ensures in
    let all : c.loop-k.k ≡ n = omega (arith, count, c.loop-k-test.false, c.loop-k.auto.k-end) in
    let enough : width kind ≤ length bytes = omega (arith, c.width-width.ensures, c.if-samples-width.false) in
    let ends : MinMax = record { min = c.from_lane.result; max = c.from_lane-2.result } in
    simp to_z-of_z
    (min_max_all kind n bytes ends (some_samples (length bytes) (width kind) (width-positive kind) enough)
    (c.from_lane.ensures ∙ ap (λ z. z +ℤ offset kind) (to_z-of_z w32 c.from.result fc ∙ c.from.ensures) ∙ c.loop-k.invariant.least ∙ ap (λ m. least_with (stored kind bytes 0) (numbers kind m bytes)) all)
    (c.from_lane-2.ensures ∙ ap (λ z. z +ℤ offset kind) (to_z-of_z w32 c.from-2.result fd ∙ c.from-2.ensures) ∙ c.loop-k.invariant.greatest ∙ ap (λ m. greatest_with (stored kind bytes 0) (numbers kind m bytes)) all))
