use Rattle.std.proofs.Common.{rules, ◌≡◌, ◌*◌, ◌/◌, ℤ, ◌+ℤ◌, length, arith, ap, ◌∙◌, w64, to_z, FitsSigned}
use Rattle.std.proofs.lemmas.Int.{to_z-of_z}
use Rattle.nd_base.specs.Samples.{width, IsSmall}
use Rattle.nd_stats.proofs.Overs.{add_fits, add_most, over_step, byte_is_one, one_most}
use Rattle.nd_stats.proofs.over.wide_over.Goals as goal

pub overflow_add-sum : goal.overflow_add-sum
overflow_add-sum c =
    let kept : ℤ = c.counted-kept.result in
    let fv : FitsSigned w64 c.sample_at-value.result = search rules in
    let fk : FitsSigned w64 kept = search rules in
    let count : length c.args.block.now / c.width.result ≡ length c.args.block.now / width c.args.kind =
    ap (λ w. length c.args.block.now / w) c.width.ensures in
    let shrinks = simp to_z-of_z at c.counted-kept.ensures.small in
    let small : IsSmall kept = shrinks c.sample_at-value.ensures.small in
    rw (to_z-of_z w64 kept fk) (add_fits (to_z w64 c.loop-index.sum-bits) kept (c.loop-index.index * 4294967296) 4294967296 c.loop-index.invariant.low
    (omega arith) (omega (arith, count)))

pub overflow_add-moment : goal.overflow_add-moment
overflow_add-moment c =
    let more : ℤ = c.weighted-moment.result in
    let fm : FitsSigned w64 more = search rules in
    let count : length c.args.block.now / c.width.result ≡ length c.args.block.now / width c.args.kind =
    ap (λ w. length c.args.block.now / w) c.width.ensures in
    rw (to_z-of_z w64 more fm) (add_fits (to_z w64 c.loop-index.moment-bits) more
    (c.loop-index.index * 549755813888) 549755813888 c.loop-index.invariant.most c.weighted-moment.ensures.bound (omega (arith, count)))

pub loop-index-preserved : goal.loop-index-preserved
loop-index-preserved c =
    let k = c.loop-index.index in
    let v : ℤ = c.sample_at-value.result in
    let kept : ℤ = c.counted-kept.result in
    let more : ℤ = c.weighted-moment.result in
    let a : ℤ = to_z w64 c.loop-index.sum-bits in
    let m : ℤ = to_z w64 c.loop-index.moment-bits in
    let count : length c.args.block.now / c.width.result ≡ length c.args.block.now / width c.args.kind =
    ap (λ w. length c.args.block.now / w) c.width.ensures in
    let ft : FitsSigned w64 c.args.threshold = search rules in
    let fv : FitsSigned w64 v = search rules in
    let fk : FitsSigned w64 kept = search rules in
    let fm : FitsSigned w64 more = search rules in
    let shrinks = simp to_z-of_z at c.counted-kept.ensures.small in
    let small : IsSmall kept = shrinks c.sample_at-value.ensures.small in
    let fs : FitsSigned w64 (a +ℤ kept) = add_fits a kept (k * 4294967296) 4294967296 c.loop-index.invariant.low (omega arith) (omega (arith, count)) in
    let fw : FitsSigned w64 (m +ℤ more) =
    add_fits m more (k * 549755813888) 549755813888 c.loop-index.invariant.most c.weighted-moment.ensures.bound (omega (arith, count)) in
    let step = over_step c.args.kind c.args.threshold c.args.block.now k v kept more c.reaches-is_over.result c.loop-index.count a m
    (simp to_z-of_z at c.loop-index.invariant.count) (simp to_z-of_z at c.loop-index.invariant.sum) (simp to_z-of_z at c.loop-index.invariant.moment)
    c.sample_at-value.ensures.value (simp to_z-of_z at c.reaches-is_over.ensures) (simp to_z-of_z at c.counted-kept.ensures.value)
    (simp to_z-of_z at c.weighted-moment.ensures.value) in
    let one = c.from-count.ensures ∙ byte_is_one c.reaches-is_over.result in
    let low = add_most a kept k 4294967296 c.loop-index.invariant.low (omega arith) in
    let most = add_most m more k 549755813888 c.loop-index.invariant.most c.weighted-moment.ensures.bound in
    record {
      count = rw one (simp to_z-of_z step.0);
      sum = simp to_z-of_z step.1;
      moment = simp to_z-of_z step.2;
      few = omega (arith, one, one_most c.reaches-is_over.result);
      low = simp to_z-of_z (omega (arith, low));
      most = simp to_z-of_z (omega (arith, most));
    }
