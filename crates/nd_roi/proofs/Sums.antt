-- Sums that grow.
use Rattle.std.proofs.Common.{◌≡◌, ℕ, ◌+◌, ◌*◌, ◌/◌, ◌<◌, ◌≤◌, ℤ, pos, ◌+ℤ◌, FitsSigned, refl, ap, sym, ◌∙◌, arith}
use Rattle.std.proofs.Math.Numerals.{add-one}
use Rattle.std.specs.Int.{Width, w64, int_wrap}
use Rattle.std.proofs.lemmas.Int.{wraps, int_wrap-add_left, int_wrap-add_right, int_wrap_fits, ints}
use Rattle.std.proofs.Math.Nat.{div-le_self}
use Rattle.nd_base.specs.declared.array.SampleType.{SampleType}
use Rattle.nd_base.specs.Samples.{width}
use Rattle.nd_base.specs.SampleLaws.{width-positive, sample_within}
use Rattle.nd_roi.specs.Walk.{sum_below}

add_zero : (x : ℤ) → x +ℤ pos 0 ≡ x
add_zero x = omega (arith, ints)

-- one value more
pub sum_below-more : (n : ℕ) (value : ℕ → ℤ) → sum_below (n + 1) value ≡ sum_below n value +ℤ value n
sum_below-more n value = rw add-one

pub wraps_zero : int_wrap w64 (pos 0) ≡ pos 0
unfolding int_wrap
wraps_zero = refl

-- a sample's bytes are within those of all
pub stored_within : (kind : SampleType) (p bytes : ℕ) → p < bytes / width kind → p * width kind + width kind ≤ bytes
stored_within kind p bytes h =
    let w = width-positive kind in
    let a = sample_within p (bytes / width kind) (width kind) h in
    omega (arith, w, a)

-- there are no more samples than bytes
pub samples_most : (kind : SampleType) (bytes : ℕ) → bytes / width kind ≤ bytes
samples_most kind bytes = div-le_self bytes (width kind)

-- a sum of nothing yet
pub wraps-none : (w : Width) (x : ℤ) → FitsSigned w x → x ≡ int_wrap w (x +ℤ pos 0)
wraps-none w x fits = sym (int_wrap_fits w (x +ℤ pos 0) (rw (add_zero x) fits) ∙ add_zero x)

-- a value more, where the sum wrapped before
pub wraps-more : (w : Width) (start before value : ℤ) → int_wrap w (int_wrap w (start +ℤ before) +ℤ value) ≡ int_wrap w (start +ℤ (before +ℤ value))
wraps-more w start before value = int_wrap-add_left w (start +ℤ before) value ∙ ap (int_wrap w) (omega (arith, ints))

pub sums_more : (w : Width) (value : ℕ → ℤ) (j : ℕ) (start before after v : ℤ) → before ≡ int_wrap w (start +ℤ sum_below j value)
    → after ≡ int_wrap w (before +ℤ v) → v ≡ value j → after ≡ int_wrap w (start +ℤ sum_below (j + 1) value)
sums_more w value j start before after v b a e =
    a ∙ ap (λ z. int_wrap w (z +ℤ v)) b ∙ wraps-more w start (sum_below j value) v ∙ ap (λ z. int_wrap w (start +ℤ (sum_below j value +ℤ z))) e
    ∙ ap (λ z. int_wrap w (start +ℤ z)) (sym (sum_below-more j value))

pub ruleset sums = (sum_below-more, wraps, wraps_zero, stored_within, samples_most)
