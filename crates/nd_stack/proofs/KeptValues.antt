-- Numbers and texts of bytes are within their types.
use Rattle.std.proofs.Common.{◌≡◌, ◌≢◌, ℕ, Bool, true, false, List, [], ◌∷◌, refl, sym, subst, arith, cond}
use Rattle.std.specs.Prelude.{ℤ, All, FitsSigned, not, ◌==◌, if◌then◌else◌}
use Rattle.std.specs.Int.{w8, w16, w32, w64, from_be_bytes}
use Rattle.std.specs.List.{take_while}
use Rattle.std.proofs.lemmas.Bool.{eqb-false}
use Rattle.std.proofs.lemmas.Int.{ints}
use Rattle.std.proofs.lemmas.List.Elements.{All-nil, All-cons}
use Rattle.std.proofs.lemmas.List.Sums.{take_while-cons}
use Rattle.nd_base.specs.declared.array.SampleType.TheVariants.{Int8, Int16, Int32}
use Rattle.nd_base.specs.declared.attribute.AttrValue.TheVariants.{Whole, Text, Bits64, Bits32}
use Rattle.nd_base.specs.Samples.{number}
use Rattle.nd_base.specs.SampleLaws.{AreBytes, number-IsSample, below_32, below_64}
use Rattle.nd_stack.specs.AttrVars.{attr_value}
use Rattle.nd_stack.specs.LayoutHeads.{IsKeptValue}

-- no zero byte stands before the first one
no_zeros : (bytes : List ℕ) → All (λ b. b ≢ 0) (take_while (λ b. not (b == 0)) bytes)
no_zeros [] = All-nil (λ b. b ≢ 0)
no_zeros (b ∷ bytes) = subst (All (λ c. c ≢ 0)) (sym (take_while-cons (λ c. not (c == 0)) b bytes)) (by (b == 0) refl (no_zeros bytes))
  where
    by : (zero : Bool) → (b == 0) ≡ zero → All (λ c. c ≢ 0) (take_while (λ c. not (c == 0)) bytes)
        → All (λ c. c ≢ 0) (cond (not zero) (b ∷ take_while (λ c. not (c == 0)) bytes) [])
    by true e others = All-nil (λ c. c ≢ 0)
    by false e others = All-cons (λ c. c ≢ 0) b (take_while (λ c. not (c == 0)) bytes) (eqb-false b 0 e) others

small_signed : (z : ℤ) → FitsSigned w8 z → FitsSigned w32 z
small_signed z h = omega (arith, ints, h)

short_signed : (z : ℤ) → FitsSigned w16 z → FitsSigned w32 z
short_signed z h = omega (arith, ints, h)

-- the value of bytes is one that its bytes give back
pub attr_value-IsKeptValue : (kind : ℕ) (bytes : List ℕ) → AreBytes bytes → IsKeptValue (attr_value kind bytes)
attr_value-IsKeptValue kind bytes small = by (kind == 1) (kind == 2) (kind == 3) (kind == 5) (kind == 6)
  where
    by : (one two three five six : Bool) → IsKeptValue (if one then Whole (number Int8 bytes) else (if two then Text (take_while (λ b. not (b == 0)) bytes)
        else (if three then Whole (number Int16 bytes) else (if five then Bits32 (from_be_bytes w32 bytes)
        else (if six then Bits64 (from_be_bytes w64 bytes) else Whole (number Int32 bytes))))))
    by true two three five six = small_signed (number Int8 bytes) (number-IsSample Int8 bytes small)
    by false true three five six = no_zeros bytes
    by false false true five six = short_signed (number Int16 bytes) (number-IsSample Int16 bytes small)
    by false false false true six = below_32 bytes small
    by false false false false true = below_64 bytes small
    by false false false false false = number-IsSample Int32 bytes small
