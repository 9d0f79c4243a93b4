use Rattle.std.proofs.Common.{rules, ◌≡◌, ◌*◌, ℤ, pos, ◌+ℤ◌, ◌*ℤ◌, refl, arith, ◌∙◌, w32, to_z, FitsSigned}
use Rattle.std.proofs.lemmas.Int.{to_z-of_z}
use Rattle.nd_base.specs.declared.array.SampleType.TheVariants.{Int32}
use Rattle.nd_stats.proofs.Overs.{add_fits_32, add_most, over_step, byte_is_one, one_most}
use Rattle.nd_stats.proofs.Products.{parts_added, parts_times}
use Rattle.nd_stats.proofs.over.signed_over.Goals as goal

pub overflow_add-high : goal.overflow_add-high
overflow_add-high c =
    let more : ℤ = c.halves-high_part.result.0 in
    let fm : FitsSigned w32 more = search rules in
    rw (to_z-of_z w32 more fm) (add_fits_32 (to_z w32 c.loop-index.high-bits) more
    (c.loop-index.index * 65535) 65535 c.loop-index.invariant.high c.halves-high_part.ensures.high (omega arith))

pub overflow_add-low : goal.overflow_add-low
overflow_add-low c =
    let more : ℤ = c.halves-high_part.result.1 in
    let fm : FitsSigned w32 more = search rules in
    rw (to_z-of_z w32 more fm) (add_fits_32 (to_z w32 c.loop-index.low-bits) more
    (c.loop-index.index * 65535) 65535 c.loop-index.invariant.low c.halves-high_part.ensures.low (omega arith))

pub overflow_add-high_moment : goal.overflow_add-high_moment
overflow_add-high_moment c =
    let more : ℤ = c.near_weighted-high_moment.result in
    let fm : FitsSigned w32 more = search rules in
    rw (to_z-of_z w32 more fm) (add_fits_32 (to_z w32 c.loop-index.high_moment-bits) more
    (c.loop-index.index * 8388480) 8388480 c.loop-index.invariant.high_moment c.near_weighted-high_moment.ensures.bound (omega arith))

pub overflow_add-low_moment : goal.overflow_add-low_moment
overflow_add-low_moment c =
    let more : ℤ = c.near_weighted-low_moment.result in
    let fm : FitsSigned w32 more = search rules in
    rw (to_z-of_z w32 more fm) (add_fits_32 (to_z w32 c.loop-index.low_moment-bits) more
    (c.loop-index.index * 8388480) 8388480 c.loop-index.invariant.low_moment c.near_weighted-low_moment.ensures.bound (omega arith))

pub loop-index-preserved : goal.loop-index-preserved
loop-index-preserved c =
    let k = c.loop-index.index in
    let v : ℤ = c.signed_at-value.result in
    let kept : ℤ = c.kept_if.result in
    let h : ℤ = c.halves-high_part.result.0 in
    let l : ℤ = c.halves-high_part.result.1 in
    let hm : ℤ = c.near_weighted-high_moment.result in
    let lm : ℤ = c.near_weighted-low_moment.result in
    let a : ℤ = to_z w32 c.loop-index.high-bits in
    let b : ℤ = to_z w32 c.loop-index.low-bits in
    let x : ℤ = to_z w32 c.loop-index.high_moment-bits in
    let y : ℤ = to_z w32 c.loop-index.low_moment-bits in
    let ft : FitsSigned w32 c.args.threshold = search rules in
    let fv : FitsSigned w32 v = search rules in
    let fk : FitsSigned w32 kept = search rules in
    let fh : FitsSigned w32 h = search rules in
    let fl : FitsSigned w32 l = search rules in
    let fhm : FitsSigned w32 hm = search rules in
    let flm : FitsSigned w32 lm = search rules in
    let fa : FitsSigned w32 (a +ℤ h) = add_fits_32 a h (k * 65535) 65535 c.loop-index.invariant.high c.halves-high_part.ensures.high (omega arith) in
    let fb : FitsSigned w32 (b +ℤ l) = add_fits_32 b l (k * 65535) 65535 c.loop-index.invariant.low c.halves-high_part.ensures.low (omega arith) in
    let fx : FitsSigned w32 (x +ℤ hm) =
    add_fits_32 x hm (k * 8388480) 8388480 c.loop-index.invariant.high_moment c.near_weighted-high_moment.ensures.bound (omega arith) in
    let fy : FitsSigned w32 (y +ℤ lm) =
    add_fits_32 y lm (k * 8388480) 8388480 c.loop-index.invariant.low_moment c.near_weighted-low_moment.ensures.bound (omega arith) in
    let parts : kept ≡ l +ℤ (pos 65536 *ℤ h) = simp to_z-of_z at c.halves-high_part.ensures.value in
    let high_is : hm ≡ pos k *ℤ h = simp to_z-of_z at c.near_weighted-high_moment.ensures.value in
    let low_is : lm ≡ pos k *ℤ l = simp to_z-of_z at c.near_weighted-low_moment.ensures.value in
    let moment : pos k *ℤ kept ≡ lm +ℤ (pos 65536 *ℤ hm) = rw high_is (rw low_is (parts_times 65536 k h l kept parts)) in
    let step = over_step Int32 c.args.threshold c.args.block.now k v kept (pos k *ℤ kept) c.reaches_near-is_over.result c.loop-index.count
    (b +ℤ (pos 65536 *ℤ a)) (y +ℤ (pos 65536 *ℤ x))
    (simp to_z-of_z at c.loop-index.invariant.count) (simp to_z-of_z at c.loop-index.invariant.sum) (simp to_z-of_z at c.loop-index.invariant.moment)
    c.signed_at-value.ensures (simp to_z-of_z at c.reaches_near-is_over.ensures) (simp to_z-of_z at c.kept_if.ensures.value) refl in
    let one = c.from-count.ensures ∙ byte_is_one c.reaches_near-is_over.result in
    let high = add_most a h k 65535 c.loop-index.invariant.high c.halves-high_part.ensures.high in
    let low = add_most b l k 65535 c.loop-index.invariant.low c.halves-high_part.ensures.low in
    let far = add_most x hm k 8388480 c.loop-index.invariant.high_moment c.near_weighted-high_moment.ensures.bound in
    let near = add_most y lm k 8388480 c.loop-index.invariant.low_moment c.near_weighted-low_moment.ensures.bound in
    record {
      count = rw one (simp to_z-of_z step.0);
      sum = simp to_z-of_z (parts_added 65536 a b h l kept parts ∙ step.1);
      moment = simp to_z-of_z (parts_added 65536 x y hm lm (pos k *ℤ kept) moment ∙ step.2);
      few = omega (arith, one, one_most c.reaches_near-is_over.result);
      high = simp to_z-of_z (omega (arith, high));
      low = simp to_z-of_z (omega (arith, low));
      high_moment = simp to_z-of_z (omega (arith, far));
      low_moment = simp to_z-of_z (omega (arith, near));
    }
