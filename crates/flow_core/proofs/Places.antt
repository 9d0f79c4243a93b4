-- The places of a table, once one was written or made.
use Rattle.std.proofs.Common.{◌≡◌, ◌≤◌, ◌<◌, ℕ, zero, suc, true, false, List, [], ◌∷◌, length, refl, ap, arith, ltb, length-append, inl, inr, ◌⊎◌}
use Rattle.std.proofs.lemmas.Bool.{cases_Bool, ltb-true}
use Rattle.frame_table.specs.Kept.{Kept, Empty, with_kept, with_room}

-- a place that was made is there
pub room-there : (t : List Kept) (b : ℕ) → b ≤ length t → b < length (with_room t b)
room-there t b le = by (cases_Bool (ltb b (length t))) where
  by : (ltb b (length t) ≡ true) ⊎ (ltb b (length t) ≡ false) → b < length (with_room t b)
  by (inl there) = rw there (ltb-true b (length t) there)
  by (inr new_) = rw new_ (omega (arith, le, length-append t (Empty ∷ [])))

-- two places that are emptied
pub both-emptied : (t : List Kept) (b c : ℕ) → with_kept (with_kept t b Empty) c Empty ≡ with_kept (with_kept t c Empty) b Empty
both-emptied [] b c = refl
both-emptied (x ∷ t) zero zero = refl
both-emptied (x ∷ t) zero (suc c) = refl
both-emptied (x ∷ t) (suc b) zero = refl
both-emptied (x ∷ t) (suc b) (suc c) = ap (λ u. x ∷ u) (both-emptied t b c)
