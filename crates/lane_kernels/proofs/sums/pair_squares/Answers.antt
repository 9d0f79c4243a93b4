use Rattle.std.proofs.Common.{◌≡◌, ◌+◌, ◌*◌, ◌/◌, ◌%◌, ◌≤◌, ℕ, List, [], ◌∷◌, length, drop, pos, to_z, w32, w64, ap, sym, subst, ◌∙◌, arith, FitsSigned}
use Rattle.std.specs.Prelude.{unsigned_abs}
use Rattle.std.specs.Simd.Lanes.{fold_l, Each1}
use Rattle.std.proofs.lemmas.Int.{ints, fits_signed_from_abs}
use Rattle.nd_base.specs.declared.array.SampleType.TheVariants.{Int16, UInt16}
use Rattle.nd_base.specs.Samples.{number, numbers, samples_of}
use Rattle.nd_base.specs.SampleLaws.{AreBytes}
use Rattle.lane_kernels.specs.Plain.{squares}
use Rattle.lane_kernels.proofs.Rows.{bytes_behind, short_number, squares_fit, bits_fit}
use Rattle.lane_kernels.proofs.Slices.{slice_behind}
use Rattle.lane_kernels.proofs.Summed.{IsSummed, summed_squares_wide, summed_both, summed, squares-row, squares-behind, squares_most}
use Rattle.lane_kernels.proofs.sums.pair_squares.Goals as goal

-- two bytes tell the types apart
signed : Int16 ≡ UInt16 → ⊥
signed e = let n = ap (λ kind. number kind (255 ∷ 255 ∷ [])) e in omega (arith, ints, n)

most_squares : (n : ℕ) (bytes : List ℕ) → AreBytes bytes → squares (numbers Int16 n bytes) ≤ n * 1073741824
most_squares n bytes small = squares_most 32768 Int16 (short_number Int16 (omega arith) signed) n bytes small

-- the sum of the lanes
all_squares : (n : ℕ) (bytes bs : List ℕ) → n ≤ 67108864 → AreBytes bytes → IsSummed w64 8 bs (pos (squares (numbers Int16 n bytes)))
    → to_z w64 (fold_l (λ a b. (a + b) % 18446744073709551616) 0 bs) ≡ pos (squares (numbers Int16 n bytes))
all_squares n bytes bs few small p =
    let most = most_squares n bytes small in
    summed w64 8 bs (pos (squares (numbers Int16 n bytes))) p (fits_signed_from_abs w64 (pos (squares (numbers Int16 n bytes))) (omega (arith, most, few)))

pub overflow_cast-sums : goal.overflow_cast-sums
overflow_cast-sums c =
    let at = c.loop-k.k * 8 * 2 in
    bits_fit c.square_row.result (subst (Each1 (FitsSigned w32)) (sym c.square_row.ensures)
    (squares_fit Int16 (omega arith) signed 8 (drop at c.args.samples.now) (bytes_behind at c.args.samples.now c.type_inv.samples)))

pub loop-k-preserved : goal.loop-k-preserved
loop-k-preserved c =
    let bytes = c.args.samples.now in
    let k : ℕ = c.loop-k.k * 8 in
    let row = c.square_row.result in
    let behind = drop (k * 2) bytes in
    let here = summed_squares_wide Int16 8 behind (bytes_behind (k * 2) bytes c.type_inv.samples) row (omega arith) signed c.square_row.ensures in
    let next : k + 8 ≡ (c.loop-k.k + 1) * 8 = omega arith in
    let more = squares-row Int16 k 8 bytes in
    let last = ap (λ n. squares (numbers Int16 n bytes)) next in
    let all : squares (numbers Int16 k bytes) + squares (numbers Int16 8 behind) ≡ squares (numbers Int16 ((c.loop-k.k + 1) * 8) bytes) = omega (arith, more, last) in
    subst (IsSummed w64 8 _) (ap pos all)
    (summed_both w64 8 c.loop-k.sums _ (pos (squares (numbers Int16 k bytes))) (pos (squares (numbers Int16 8 behind))) c.loop-k.invariant here)

pub overflow_cast-result : goal.overflow_cast-result
overflow_cast-result c =
    let bytes = c.args.samples.now in
    let n : ℕ = c.loop-k.k * 8 in
    let few : n ≤ 67108864 = omega arith in
    let small = bytes_behind 0 bytes c.type_inv.samples in
    let most = most_squares n bytes small in
    rw (all_squares n bytes c.loop-k.sums few small c.loop-k.invariant) (tt, record { fits = omega (arith, most, few) })

pub overflow_add-result : goal.overflow_add-result
overflow_add-result c =
    let bytes = c.args.samples.now in
    let n : ℕ = c.loop-k.k * 8 in
    let few : n ≤ 67108864 = omega arith in
    let small = bytes_behind 0 bytes c.type_inv.samples in
    let all = squares-behind Int16 n bytes (omega arith) in
    let most = most_squares (length bytes / 2) bytes small in
    let at : length bytes / 16 * 16 ≡ n * 2 = omega arith in
    let rest = c.narrow_squares.ensures ∙ ap (λ l. squares (samples_of Int16 l)) (slice_behind (length bytes / 16 * 16) bytes)
    ∙ ap (λ at. squares (samples_of Int16 (drop at bytes))) at in
    rw (all_squares n bytes c.loop-k.sums few small c.loop-k.invariant) (record { fits = omega (arith, all, most, rest, c.requires) })

pub returns : goal.returns
returns c =
    let bytes = c.args.samples.now in
    let n : ℕ = c.loop-k.k * 8 in
    let few : n ≤ 67108864 = omega arith in
    let small = bytes_behind 0 bytes c.type_inv.samples in
    let at : length bytes / 16 * 16 ≡ n * 2 = omega arith in
    let rest = c.narrow_squares.ensures ∙ ap (λ l. squares (samples_of Int16 l)) (slice_behind (length bytes / 16 * 16) bytes)
    ∙ ap (λ at. squares (samples_of Int16 (drop at bytes))) at in
    ap (λ z. unsigned_abs z + c.narrow_squares.result) (all_squares n bytes c.loop-k.sums few small c.loop-k.invariant)
    ∙ ap (λ m. squares (numbers Int16 n bytes) + m) rest ∙ sym (squares-behind Int16 n bytes (omega arith))
