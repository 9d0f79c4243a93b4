use Rattle.std.proofs.Common.{rules, ◌≡◌, ◌≤◌, ◌*◌, ◌/◌, ℤ, ◌+ℤ◌, length, arith, ap, ◌∙◌, not, w32, w64, to_z, FitsSigned}
use Rattle.std.specs.Prelude.{unsigned_abs}
use Rattle.std.proofs.lemmas.Int.{to_z-of_z}
use Rattle.nd_base.specs.Samples.{width}
use Rattle.nd_stats.proofs.Overs.{add_fits_32, add_most, over_step, byte_is_one, one_most}
use Rattle.nd_stats.proofs.over.narrow_over.Goals as goal

pub overflow_add-sum : goal.overflow_add-sum
overflow_add-sum c =
    let kept : ℤ = c.kept_if-kept.result in
    let fv : FitsSigned w32 c.narrow_at-value.result = search rules in
    let fk : FitsSigned w32 kept = search rules in
    let count : length c.args.block.now / c.width.result ≡ length c.args.block.now / width c.args.kind =
    ap (λ w. length c.args.block.now / w) c.width.ensures in
    let shrinks = simp to_z-of_z at c.kept_if-kept.ensures.bound in
    let small : unsigned_abs kept ≤ 65535 = shrinks c.narrow_at-value.ensures.bound in
    rw (to_z-of_z w32 kept fk)
    (add_fits_32 (to_z w32 c.loop-index.sum-bits) kept (c.loop-index.index * 65535) 65535 c.loop-index.invariant.low small (omega (arith, count)))

pub overflow_add-moment : goal.overflow_add-moment
overflow_add-moment c =
    let more : ℤ = c.near_weighted-moment.result in
    let fm : FitsSigned w32 more = search rules in
    let count : length c.args.block.now / c.width.result ≡ length c.args.block.now / width c.args.kind =
    ap (λ w. length c.args.block.now / w) c.width.ensures in
    rw (to_z-of_z w32 more fm) (add_fits_32 (to_z w32 c.loop-index.moment-bits) more
    (c.loop-index.index * 8388480) 8388480 c.loop-index.invariant.most c.near_weighted-moment.ensures.bound (omega (arith, count)))

pub loop-index-preserved : goal.loop-index-preserved
loop-index-preserved c =
    let k = c.loop-index.index in
    let v : ℤ = c.narrow_at-value.result in
    let kept : ℤ = c.kept_if-kept.result in
    let more : ℤ = c.near_weighted-moment.result in
    let a : ℤ = to_z w32 c.loop-index.sum-bits in
    let m : ℤ = to_z w32 c.loop-index.moment-bits in
    let count : length c.args.block.now / c.width.result ≡ length c.args.block.now / width c.args.kind =
    ap (λ w. length c.args.block.now / w) c.width.ensures in
    let ft : FitsSigned w64 c.args.threshold = search rules in
    let fn : FitsSigned w32 c.near-near.result = search rules in
    let fv : FitsSigned w32 v = search rules in
    let fk : FitsSigned w32 kept = search rules in
    let fm : FitsSigned w32 more = search rules in
    let shrinks = simp to_z-of_z at c.kept_if-kept.ensures.bound in
    let small : unsigned_abs kept ≤ 65535 = shrinks c.narrow_at-value.ensures.bound in
    let same = simp to_z-of_z at (c.near-near.ensures v c.narrow_at-value.ensures.bound) in
    let fs : FitsSigned w32 (a +ℤ kept) = add_fits_32 a kept (k * 65535) 65535 c.loop-index.invariant.low small (omega (arith, count)) in
    let fw : FitsSigned w32 (m +ℤ more) =
    add_fits_32 m more (k * 8388480) 8388480 c.loop-index.invariant.most c.near_weighted-moment.ensures.bound (omega (arith, count)) in
    let step = over_step c.args.kind c.args.threshold c.args.block.now k v kept more c.reaches_near-is_over.result c.loop-index.count a m
    (simp to_z-of_z at c.loop-index.invariant.count) (simp to_z-of_z at c.loop-index.invariant.sum) (simp to_z-of_z at c.loop-index.invariant.moment)
    c.narrow_at-value.ensures.value ((simp to_z-of_z at c.reaches_near-is_over.ensures)
    ∙ ap not same) (simp to_z-of_z at c.kept_if-kept.ensures.value) (simp to_z-of_z at c.near_weighted-moment.ensures.value) in
    let one = c.from-count.ensures ∙ byte_is_one c.reaches_near-is_over.result in
    let low = add_most a kept k 65535 c.loop-index.invariant.low small in
    let most = add_most m more k 8388480 c.loop-index.invariant.most c.near_weighted-moment.ensures.bound in
    record {
      count = rw one (simp to_z-of_z step.0);
      sum = simp to_z-of_z step.1;
      moment = simp to_z-of_z step.2;
      few = omega (arith, one, one_most c.reaches_near-is_over.result);
      low = simp to_z-of_z (omega (arith, low));
      most = simp to_z-of_z (omega (arith, most));
    }
