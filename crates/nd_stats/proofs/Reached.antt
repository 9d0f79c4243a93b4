-- A threshold that each sample of an unsigned type reaches.
use Rattle.std.proofs.Common.{◌≡◌, ℕ, zero, suc, ◌+◌, List, ◌∷◌, filter, cond, length, take, drop, refl, ap, ◌∙◌, arith, ℤ, pos, negsuc, ◌*ℤ◌, true, not}
use Rattle.std.specs.Prelude.{int_lt}
use Rattle.std.specs.Int.Signed.{le_z}
use Rattle.std.proofs.lemmas.Bool.Decides.{nat_tests}
use Rattle.std.proofs.lemmas.Int.{ints}
use Rattle.nd_base.specs.declared.array.SampleType.{SampleType}
use Rattle.nd_base.specs.Samples.{width, number, numbers}
use Rattle.nd_stats.specs.declared.over.Over.{Over}
use Rattle.nd_stats.specs.Samples.{Sample, placed, sum_of}
use Rattle.nd_stats.specs.Over.{IsOver, reaches}

-- no natural is below it
pub none_below : (t : ℤ) (n : ℕ) → le_z t (pos 0) ≡ true → int_lt (pos n) (pos 0) ≡ int_lt (pos n) t
none_below (pos zero) n h = refl
none_below (pos (suc m)) n h = absurd (omega (arith, ints, h))
none_below (negsuc m) n h = grind (arith, nat_tests)

-- the same samples reach two thresholds that the same numbers reach
reached_alike : (kind : SampleType) (s t : ℤ) → ((bytes : List ℕ) → int_lt (number kind bytes) s ≡ int_lt (number kind bytes) t) → (from n : ℕ) (bytes : List ℕ)
    → filter (reaches s) (placed from (numbers kind n bytes)) ≡ filter (reaches t) (placed from (numbers kind n bytes))
reached_alike kind s t same from zero bytes = refl
reached_alike kind s t same from (suc n) bytes =
    let one : Sample = record { place = from; value = number kind (take (width kind) bytes) } in
    let rest = placed (from + 1) (numbers kind n (drop (width kind) bytes)) in
    ap (λ b. cond (not b) (one ∷ filter (reaches s) rest) (filter (reaches s) rest)) (same (take (width kind) bytes))
    ∙ ap (λ xs. cond (reaches t one) (one ∷ xs) xs) (reached_alike kind s t same (from + 1) n (drop (width kind) bytes))

pub over_alike : (kind : SampleType) (s t : ℤ) → ((bytes : List ℕ) → int_lt (number kind bytes) s ≡ int_lt (number kind bytes) t)
    → (n : ℕ) (bytes : List ℕ) (o : Over)
    → IsOver s (placed 0 (numbers kind n bytes)) o → IsOver t (placed 0 (numbers kind n bytes)) o
over_alike kind s t same n bytes o is =
    let alike = reached_alike kind s t same 0 n bytes in
    record {
      count = is.count ∙ ap length alike;
      sum = is.sum ∙ ap (sum_of (λ u. u.value)) alike;
      weighted = is.weighted ∙ ap (sum_of (λ u. pos u.place *ℤ u.value)) alike;
    }
