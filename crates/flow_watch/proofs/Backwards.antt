-- Counts over a list that is read backwards.
use Rattle.std.proofs.Common.{◌≡◌, Bool, true, false, ◌||◌, List, [], ◌∷◌, ◌++◌, length, reverse, refl, ap, sym, ◌∙◌, arith, length-append}
use Rattle.std.specs.List.{filter, list_any}
use Rattle.std.proofs.lemmas.List.{reverse-append}
use Rattle.std.proofs.lemmas.List.Elements.{filter-append}
use Rattle.std.proofs.lemmas.List.Folds.{list_any-append}

either_way : (a b : Bool) → (a || b) ≡ (b || a)
either_way true true = refl
either_way true false = refl
either_way false true = refl
either_way false false = refl

module _ {X : Type 0} (p : X → Bool) where
  pub passing-reverse : (xs : List X) → length (filter p (reverse xs)) ≡ length (filter p xs)
  passing-reverse [] = refl
  passing-reverse (x ∷ xs) =
      let front = length-append (filter p (x ∷ [])) (filter p xs) in
      let back = length-append (filter p (reverse xs)) (filter p (x ∷ [])) in
      let before = passing-reverse xs in
      ap (λ l. length (filter p l)) (reverse-append (x ∷ []) xs)
      ∙ (ap length (filter-append p (reverse xs) (x ∷ []))
      ∙ ((let sum : length (filter p (reverse xs) ++ filter p (x ∷ [])) ≡ length (filter p (x ∷ []) ++ filter p xs) = omega arith in sum)
      ∙ ap length (sym (filter-append p (x ∷ []) xs))))

  pub any-reverse : (xs : List X) → list_any p (reverse xs) ≡ list_any p xs
  any-reverse [] = refl
  any-reverse (x ∷ xs) =
      ap (list_any p) (reverse-append (x ∷ []) xs)
      ∙ (list_any-append p (reverse xs) (x ∷ [])
      ∙ (either_way (list_any p (reverse xs)) (list_any p (x ∷ []))
      ∙ (ap (λ b. list_any p (x ∷ []) || b) (any-reverse xs) ∙ sym (list_any-append p (x ∷ []) xs))))
