-- The places of a range, one by one.
use Rattle.std.proofs.Common.{◌≡◌, ℕ, suc, ◌+◌, ◌-◌, ◌<◌, Bool, true, false, Some, None, List, [], find, ◌∷◌, ◌++◌, refl, ap, ◌∙◌, arith, add-one, inl, inr}
use Rattle.std.proofs.lemmas.Bool.{cases_Bool}
use Rattle.std.specs.List.{range_with_len}

pub range-step : (a to : ℕ) → a < to → range_with_len a (to - a) ≡ a ∷ range_with_len (a + 1) (to - (a + 1))
range-step a to h =
    let n : to - a ≡ suc (to - (a + 1)) = omega (arith, h) in
    rw n (rw add-one refl)

-- the first one does
pub find-here : (p : ℕ → Bool) (a to : ℕ) → a < to → p a ≡ true → find p (range_with_len a (to - a)) ≡ Some a
find-here p a to h here = ap (find p) (range-step a to h) ∙ rw here refl

-- or the first of the rest
pub find-on : (p : ℕ → Bool) (a to : ℕ) → a < to → p a ≡ false → find p (range_with_len a (to - a)) ≡ find p (range_with_len (a + 1) (to - (a + 1)))
find-on p a to h away = ap (find p) (range-step a to h) ∙ rw away refl

-- of two lists the first of the first one that has one
pub find-either : (p : ℕ → Bool) (xs ys : List ℕ) (i : ℕ) → find p xs ≡ Some i → find p (xs ++ ys) ≡ Some i
find-either p [] ys i h = cc
find-either p (x ∷ xs) ys i h =
    elim (cases_Bool (p x)) [
      | inl here ↦ rw here (rw here at h)
      | inr away ↦ rw away (find-either p xs ys i (rw away at h))
    ]

pub find-second : (p : ℕ → Bool) (xs ys : List ℕ) → find p xs ≡ None → find p (xs ++ ys) ≡ find p ys
find-second p [] ys h = refl
find-second p (x ∷ xs) ys h =
    elim (cases_Bool (p x)) [
      | inl here ↦ let never : Some x ≡ None = rw here at h in cc
      | inr away ↦ rw away (find-second p xs ys (rw away at h))
    ]
