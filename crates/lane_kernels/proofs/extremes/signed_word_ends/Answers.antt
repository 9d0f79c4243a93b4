use Rattle.std.proofs.Common.{◌≡◌, ◌+◌, ◌*◌, ℕ, ℤ, List, length, drop, map, pos, ◌+ℤ◌, w32, of_z, to_z, ap, sym, ◌∙◌, arith}
use Rattle.std.specs.Int.{int_min, int_max}
use Rattle.std.proofs.lemmas.List.{length-map}
use Rattle.std.proofs.lemmas.Simd.{map-map}
use Rattle.nd_base.specs.declared.array.SampleType.TheVariants.{Int32}
use Rattle.nd_base.specs.Samples.{numbers}
use Rattle.nd_base.specs.SampleLaws.{length-numbers}
use Rattle.lane_kernels.specs.Plain.{least, greatest}
use Rattle.lane_kernels.proofs.Ends.{one_of, least_row, greatest_row, long_least, long_greatest, is_least, is_greatest}
use Rattle.lane_kernels.proofs.Rows.{bytes_behind, signed_word_row}
use Rattle.lane_kernels.proofs.extremes.signed_word_ends.Goals as goal

long_row : (bytes : List ℕ) (row : List ℤ) → row ≡ numbers Int32 4 bytes → length (map (of_z w32) row) ≡ 4
long_row bytes row e = length-map row (of_z w32) ∙ ap length e ∙ length-numbers Int32 4 bytes

pub loop-k-init : goal.loop-k-init
loop-k-init c =
    let first = c.signed_words_at-lows.result in
    let row = signed_word_row 4 c.args.samples.now first (bytes_behind 0 c.args.samples.now c.type_inv.samples) c.signed_words_at-lows.ensures in
    let long = long_row c.args.samples.now first c.signed_words_at-lows.ensures in
    record { low = ap (one_of int_min) row; high = ap (one_of int_max) row; long = long; as_long = long }

pub loop-k-preserved : goal.loop-k-preserved
loop-k-preserved c =
    let bytes = c.args.samples.now in
    let k : ℕ = c.loop-k.k * 4 in
    let at : ℕ = c.loop-k.k * 16 in
    let lanes = map (of_z w32) c.signed_words_at-row.result in
    let row = signed_word_row 4 (drop at bytes) c.signed_words_at-row.result (bytes_behind at bytes c.type_inv.samples) c.signed_words_at-row.ensures in
    let long = long_row (drop at bytes) c.signed_words_at-row.result c.signed_words_at-row.ensures in
    let is : at ≡ k * 4 = omega arith in
    let next : k + 4 ≡ (c.loop-k.k + 1) * 4 = omega arith in
    let low = c.loop-k.invariant.long ∙ sym long in
    let high = c.loop-k.invariant.as_long ∙ sym long in
    record {
      low = least_row w32 (to_z w32) (pos 0) Int32 k 4 at bytes c.loop-k.lows lanes low is row c.loop-k.invariant.low
          ∙ ap (λ n. one_of int_min (numbers Int32 n bytes)) next;
      high = greatest_row w32 (to_z w32) (pos 0) Int32 k 4 at bytes c.loop-k.highs lanes high is row c.loop-k.invariant.high
          ∙ ap (λ n. one_of int_max (numbers Int32 n bytes)) next;
      long = long_least w32 (to_z w32) (pos 0) Int32 k 4 at bytes c.loop-k.lows lanes low is row ∙ c.loop-k.invariant.long;
      as_long = long_greatest w32 (to_z w32) (pos 0) Int32 k 4 at bytes c.loop-k.highs lanes high is row ∙ c.loop-k.invariant.as_long;
    }

pub returns-clause-min : goal.returns-clause-min
returns-clause-min c =
    let all : c.loop-k.k ≡ c.args.rows = omega arith in
    c.lane_ends.ensures.min ∙ ap least (map-map (λ x. x +ℤ pos 0) (to_z w32) c.loop-k.lows) ∙ is_least (map (λ b. to_z w32 b +ℤ pos 0) c.loop-k.lows) ∙ c.loop-k.invariant.low
    ∙ ap (λ k. one_of int_min (numbers Int32 (k * 4) c.args.samples.now)) all ∙ sym (is_least (numbers Int32 (c.args.rows * 4) c.args.samples.now))

pub returns-clause-max : goal.returns-clause-max
returns-clause-max c =
    let all : c.loop-k.k ≡ c.args.rows = omega arith in
    c.lane_ends.ensures.max ∙ ap greatest (map-map (λ x. x +ℤ pos 0) (to_z w32) c.loop-k.highs) ∙ is_greatest (map (λ b. to_z w32 b +ℤ pos 0) c.loop-k.highs) ∙ c.loop-k.invariant.high
    ∙ ap (λ k. one_of int_max (numbers Int32 (k * 4) c.args.samples.now)) all ∙ sym (is_greatest (numbers Int32 (c.args.rows * 4) c.args.samples.now))
