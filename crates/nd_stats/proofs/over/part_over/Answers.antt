use Rattle.std.proofs.Common.{◌≡◌, ◌≤◌, ◌*◌, ◌+◌, ◌/◌, ℤ, length, drop, arith, ap, sym, subst, w64, to_z, of_z}
use Rattle.std.specs.Prelude.{unsigned_abs}
use Rattle.nd_base.specs.Samples.{width, numbers}
use Rattle.nd_stats.specs.Samples.{placed}
use Rattle.nd_stats.specs.Over.{IsOver}
use Rattle.nd_stats.proofs.Parts.{parts-more}
use Rattle.nd_stats.proofs.Joinings.{over_join, part_count, sums_most, weighted_most}
use Rattle.nd_stats.proofs.over.part_over.Goals as goal

pub loop-done-preserved : goal.loop-done-preserved
loop-done-preserved c =
    let kind = c.args.kind in
    let bytes = c.args.line.now in
    let t : ℤ = to_z w64 (of_z w64 c.args.threshold) in
    let k = c.loop-done.done in
    let m = c.min-size.result in
    let block = c.block_over-block.result in
    let vs = numbers kind m (drop (k * width kind) bytes) in
    let here : k ≡ 0 + k = omega arith in
    let many : length c.part.result.now / width kind ≡ m = part_count kind m (length c.part.result.now) c.part.ensures.len in
    let count : length bytes / c.width.result ≡ length bytes / width kind = ap (λ w. length bytes / w) c.width.ensures in
    let two = subst (λ us. IsOver t (placed 0 us) block) c.part.ensures.values c.block_over-block.ensures.over in
    let low = subst (λ n. unsigned_abs block.sum ≤ n * 4294967296) many c.block_over-block.ensures.sum in
    let most = subst (λ n. unsigned_abs block.weighted ≤ n * 8796093022208) many c.block_over-block.ensures.weighted in
    let few : k ≤ 8192 = omega (arith, count) in
    record {
      done = omega (arith, count, c.min-size.ensures);
      over = subst (λ xs. IsOver t xs c.join.new.self) (sym (parts-more kind 0 k m bytes))
          (over_join t (placed 0 (numbers kind k bytes)) k (0 + k) vs c.loop-done.over block c.join.new.self here c.loop-done.invariant.over two
          c.join.ensures.count c.join.ensures.sum c.join.ensures.weighted);
      few = omega (arith, many, c.join.ensures.count, c.block_over-block.ensures.few, c.loop-done.invariant.few);
      sum = sums_most c.loop-done.over.sum block.sum c.join.new.self.sum k m c.join.ensures.sum c.loop-done.invariant.sum low;
      weighted = weighted_most c.loop-done.over.weighted block.weighted block.sum c.join.new.self.weighted k m c.join.ensures.weighted few
          c.loop-done.invariant.weighted most low;
    }
