use Rattle.std.proofs.Common.{◌≡◌, ◌+◌, ◌*◌, ℕ, length, drop, map, pos, ◌+ℤ◌, w8, w32, Fits, FitsSigned, ap, sym, ◌∙◌, arith}
use Rattle.std.specs.Int.{int_min, int_max}
use Rattle.std.proofs.lemmas.Int.{ints}
use Rattle.std.proofs.lemmas.List.{length-map}
use Rattle.std.proofs.lemmas.Simd.{Each1-weaker}
use Rattle.nd_base.specs.Samples.{width, numbers}
use Rattle.nd_base.specs.SampleLaws.{length-numbers}
use Rattle.lane_kernels.specs.Lanes.{offset}
use Rattle.lane_kernels.specs.Plain.{least, greatest}
use Rattle.lane_kernels.proofs.Rows.{bytes_wider}
use Rattle.lane_kernels.proofs.Ends.{one_of, least_row, greatest_row, is_least, is_greatest}
use Rattle.lane_kernels.proofs.extremes.byte_ends.Goals as goal

pub loop-k-init : goal.loop-k-init
loop-k-init c = record { low = ap (one_of int_min) c.byte_lanes-lows.ensures; high = ap (one_of int_max) c.byte_lanes-lows.ensures }

pub loop-k-preserved : goal.loop-k-preserved
loop-k-preserved c =
    let kind = c.args.kind in
    let bytes = c.args.samples.now in
    let k : ℕ = c.loop-k.k * 16 in
    let row = c.byte_lanes-row.result in
    let long : length row ≡ 16 = sym (length-map row (λ b. pos b +ℤ offset kind)) ∙ ap length c.byte_lanes-row.ensures ∙ length-numbers kind 16 (drop k bytes) in
    let at : k ≡ k * width kind = (let one : k ≡ k * 1 = omega arith in one) ∙ ap (λ w. k * w) (sym c.requires.byte) in
    let next : k + 16 ≡ (c.loop-k.k + 1) * 16 = omega arith in
    record {
      low = least_row w8 pos (offset kind) kind k 16 k bytes c.loop-k.lows row (c.loop-k.auto.lows.0 ∙ sym long) at c.byte_lanes-row.ensures c.loop-k.invariant.low
          ∙ ap (λ n. one_of int_min (numbers kind n bytes)) next;
      high = greatest_row w8 pos (offset kind) kind k 16 k bytes c.loop-k.highs row (c.loop-k.auto.highs.0 ∙ sym long) at c.byte_lanes-row.ensures c.loop-k.invariant.high
          ∙ ap (λ n. one_of int_max (numbers kind n bytes)) next;
    }

pub overflow_cast-lows : goal.overflow_cast-lows
overflow_cast-lows c = Each1-weaker (Fits w8) (λ b. FitsSigned w32 (pos b)) (λ b h. let low = h.fits in omega (arith, ints, low)) c.loop-k.lows c.loop-k.auto.lows.1

pub overflow_cast-highs : goal.overflow_cast-highs
overflow_cast-highs c = Each1-weaker (Fits w8) (λ b. FitsSigned w32 (pos b)) (λ b h. let low = h.fits in omega (arith, ints, low)) c.loop-k.highs c.loop-k.auto.highs.1

pub returns-clause-min : goal.returns-clause-min
returns-clause-min c =
    let o = offset c.args.kind in
    let all : c.loop-k.k ≡ c.args.rows = omega arith in
    c.lane_ends.ensures.min ∙ ap least (bytes_wider o c.loop-k.lows c.loop-k.auto.lows.1) ∙ is_least (map (λ b. pos b +ℤ o) c.loop-k.lows) ∙ c.loop-k.invariant.low
    ∙ ap (λ k. one_of int_min (numbers c.args.kind (k * 16) c.args.samples.now)) all ∙ sym (is_least (numbers c.args.kind (c.args.rows * 16) c.args.samples.now))

pub returns-clause-max : goal.returns-clause-max
returns-clause-max c =
    let o = offset c.args.kind in
    let all : c.loop-k.k ≡ c.args.rows = omega arith in
    c.lane_ends.ensures.max ∙ ap greatest (bytes_wider o c.loop-k.highs c.loop-k.auto.highs.1) ∙ is_greatest (map (λ b. pos b +ℤ o) c.loop-k.highs) ∙ c.loop-k.invariant.high
    ∙ ap (λ k. one_of int_max (numbers c.args.kind (k * 16) c.args.samples.now)) all ∙ sym (is_greatest (numbers c.args.kind (c.args.rows * 16) c.args.samples.now))
