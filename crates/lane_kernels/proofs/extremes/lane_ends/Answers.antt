use Rattle.std.proofs.Common.{rules, ◌≡◌, get_or, map, to_z, pos, ◌+ℤ◌, w32, w64, FitsSigned, Some, ap, sym, ◌∙◌, arith}
use Rattle.std.specs.Int.{int_min, int_max}
use Rattle.std.proofs.lemmas.Int.{to_z-of_z}
use Rattle.std.proofs.lemmas.List.{take_all}
use Rattle.lane_kernels.specs.Lanes.{offset}
use Rattle.lane_kernels.proofs.Ends.{one_of, one_of-last, picks_least, picks_greatest, is_least, is_greatest}
use Rattle.lane_kernels.proofs.extremes.lane_ends.Goals as goal

pub loop-k-preserved : goal.loop-k-preserved
loop-k-preserved c =
    let lows = c.args.lows.now in
    let highs = c.args.highs.now in
    let k = c.loop-k.k in
    let o = offset c.args.kind in
    let fa : FitsSigned w32 c.min-low.result = search rules in
    let fb : FitsSigned w32 c.max-high.result = search rules in
    let fx : FitsSigned w32 (get_or lows k (pos 0)) = search rules in
    let fy : FitsSigned w32 (get_or highs k (pos 0)) = search rules in
    let low : c.min-low.result ≡ int_min (to_z w32 c.loop-k.low-bits) (get_or lows k (pos 0)) = simp to_z-of_z at c.min-low.ensures.value in
    let high : c.max-high.result ≡ int_max (to_z w32 c.loop-k.high-bits) (get_or highs k (pos 0)) = simp to_z-of_z at c.max-high.ensures.value in
    record {
      low = ap (λ z. Some (z +ℤ o)) (to_z-of_z w32 c.min-low.result fa)
          ∙ one_of-last int_min picks_least o (to_z w32 c.loop-k.low-bits) c.min-low.result k lows (omega arith) c.loop-k.invariant.low low;
      high = ap (λ z. Some (z +ℤ o)) (to_z-of_z w32 c.max-high.result fb)
          ∙ one_of-last int_max picks_greatest o (to_z w32 c.loop-k.high-bits) c.max-high.result k highs (omega arith) c.loop-k.invariant.high high;
    }

pub returns-clause-min : goal.returns-clause-min
returns-clause-min c =
    let lows = c.args.lows.now in
    let o = offset c.args.kind in
    let f : FitsSigned w64 c.from_lane.result = search rules in
    ap Some (to_z-of_z w64 c.from_lane.result f ∙ c.from_lane.ensures) ∙ c.loop-k.invariant.low
    ∙ ap (λ l. one_of int_min (map (λ x. x +ℤ o) l)) (take_all c.loop-k.k lows (omega arith)) ∙ sym (is_least (map (λ x. x +ℤ o) lows))

pub returns-clause-max : goal.returns-clause-max
returns-clause-max c =
    let highs = c.args.highs.now in
    let o = offset c.args.kind in
    let f : FitsSigned w64 c.from_lane-2.result = search rules in
    ap Some (to_z-of_z w64 c.from_lane-2.result f ∙ c.from_lane-2.ensures) ∙ c.loop-k.invariant.high
    ∙ ap (λ l. one_of int_max (map (λ x. x +ℤ o) l)) (take_all c.loop-k.k highs (omega arith)) ∙ sym (is_greatest (map (λ x. x +ℤ o) highs))
