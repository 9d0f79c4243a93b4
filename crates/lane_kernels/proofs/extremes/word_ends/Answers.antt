use Rattle.std.proofs.Common.{◌≡◌, ◌+◌, ◌*◌, ℕ, ℤ, List, length, drop, map, pos, ◌+ℤ◌, ◌-ℤ◌, w32, to_z, of_z, Fits, ap, sym, ◌∙◌, arith}
use Rattle.std.specs.Int.{int_min, int_max}
use Rattle.std.specs.Prelude.{unsigned_abs}
use Rattle.std.specs.Simd.Lanes.{Each1}
use Rattle.std.proofs.lemmas.List.{length-map}
use Rattle.nd_base.specs.declared.array.SampleType.TheVariants.{UInt32}
use Rattle.nd_base.specs.Samples.{numbers}
use Rattle.nd_base.specs.SampleLaws.{length-numbers}
use Rattle.lane_kernels.specs.Plain.{least, greatest}
use Rattle.lane_kernels.proofs.Ends.{one_of, least_row, greatest_row, is_least, is_greatest}
use Rattle.lane_kernels.proofs.Rows.{word_row, raised_lanes}
use Rattle.lane_kernels.proofs.extremes.word_ends.Goals as goal

pub loop-k-init : goal.loop-k-init
loop-k-init c =
    let row = word_row 4 c.args.samples.now c.words_at-lows.result c.words_at-lows.ensures in
    record { low = ap (one_of int_min) row; high = ap (one_of int_max) row }

pub loop-k-preserved : goal.loop-k-preserved
loop-k-preserved c =
    let bytes = c.args.samples.now in
    let k : ℕ = c.loop-k.k * 4 in
    let at : ℕ = c.loop-k.k * 16 in
    let lanes = c.words_at-row.result in
    let row = word_row 4 (drop at bytes) lanes c.words_at-row.ensures in
    let long : length lanes ≡ 4 = ap length c.words_at-row.ensures ∙ length-map (numbers UInt32 4 (drop at bytes)) unsigned_abs ∙ length-numbers UInt32 4 (drop at bytes) in
    let is : at ≡ k * 4 = omega arith in
    let next : k + 4 ≡ (c.loop-k.k + 1) * 4 = omega arith in
    record {
      low = least_row w32 pos (pos 0) UInt32 k 4 at bytes c.loop-k.lows lanes (c.loop-k.auto.lows.0 ∙ sym long) is row c.loop-k.invariant.low
          ∙ ap (λ n. one_of int_min (numbers UInt32 n bytes)) next;
      high = greatest_row w32 pos (pos 0) UInt32 k 4 at bytes c.loop-k.highs lanes (c.loop-k.auto.highs.0 ∙ sym long) is row c.loop-k.invariant.high
          ∙ ap (λ n. one_of int_max (numbers UInt32 n bytes)) next;
    }

raised : (bs : List ℕ) (lanes : List ℤ) → Each1 (Fits w32) bs → lanes ≡ map (λ b. pos b -ℤ pos 2147483648) bs
    → map (λ x. x +ℤ pos 2147483648) (map (to_z w32) (map (of_z w32) lanes)) ≡ map (λ b. pos b +ℤ pos 0) bs
raised bs lanes h e = ap (λ l. map (λ x. x +ℤ pos 2147483648) (map (to_z w32) (map (of_z w32) l))) e ∙ raised_lanes bs h

pub returns-clause-min : goal.returns-clause-min
returns-clause-min c =
    let all : c.loop-k.k ≡ c.args.rows = omega arith in
    c.lane_ends.ensures.min ∙ ap least (raised c.loop-k.lows c.lowered-lows.result c.loop-k.auto.lows.1 c.lowered-lows.ensures) ∙ is_least (map (λ b. pos b +ℤ pos 0) c.loop-k.lows) ∙ c.loop-k.invariant.low
    ∙ ap (λ k. one_of int_min (numbers UInt32 (k * 4) c.args.samples.now)) all ∙ sym (is_least (numbers UInt32 (c.args.rows * 4) c.args.samples.now))

pub returns-clause-max : goal.returns-clause-max
returns-clause-max c =
    let all : c.loop-k.k ≡ c.args.rows = omega arith in
    c.lane_ends.ensures.max ∙ ap greatest (raised c.loop-k.highs c.lowered-highs.result c.loop-k.auto.highs.1 c.lowered-highs.ensures) ∙ is_greatest (map (λ b. pos b +ℤ pos 0) c.loop-k.highs) ∙ c.loop-k.invariant.high
    ∙ ap (λ k. one_of int_max (numbers UInt32 (k * 4) c.args.samples.now)) all ∙ sym (is_greatest (numbers UInt32 (c.args.rows * 4) c.args.samples.now))
