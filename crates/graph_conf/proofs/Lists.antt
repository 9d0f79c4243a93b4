-- Searching a list from a place on.
use Rattle.std.proofs.Common.{◌≡◌, ℕ, ◌+◌, ◌<◌, List, Bool, false, length, get_or, drop, sym, ap, ◌∙◌, cond, Some}
use Rattle.std.specs.Prelude.{find}
use Rattle.std.proofs.lemmas.List.{drop_more}

-- an element that isn't it leaves the search to those after it
pub find_past : {X : Type 0} (p : X → Bool) (xs : List X) (i : ℕ) (d : X) → i < length xs → p (get_or xs i d) ≡ false
    → find p (drop (i + 1) xs) ≡ find p (drop i xs)
find_past p xs i d within other = sym (ap (find p) (drop_more xs i d within) ∙ ap (λ b. cond b (Some (get_or xs i d)) (find p (drop (i + 1) xs))) other)
