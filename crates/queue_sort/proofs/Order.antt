-- The place of an id in a sort list, and an insert there.
use Rattle.std.proofs.Common.{◌≡◌, ℕ, zero, suc, ◌≤◌, Bool, true, false, not, List, [], ◌∷◌, length, take, drop, ℤ, int_le, int_lt, refl, subst, ◌∙◌, inl}
use Rattle.std.proofs.Common.{inr, arith}
use Rattle.std.specs.List.{filter, insert}
use Rattle.std.specs.List.Sorted.{IsPartitionedBy, IsPartitionPoint}
use Rattle.std.proofs.lemmas.Bool.{cases_lt}
use Rattle.queue_sort.specs.declared.sort_lists.Waiting.{Waiting}
use Rattle.queue_sort.specs.ById.{AreById}
use Rattle.queue_sort.specs.Sorting.{SortState, id_of, IsPlaceOf, placed}
use Rattle.queue_sort.proofs.ById.{le_passes, le_holds, lt_is, le_chain}

-- a place before which each passes p and from which each passes q parts the list
pub parted : {X : Type 0} (p q : X → Bool) → ((x : X) → q x ≡ not (p x)) → (xs : List X) (k : ℕ)
    → IsPartitionPoint (λ x. p x ≡ true) (λ x. p x ≡ false) xs k → (take k xs ≡ filter p xs) × (drop k xs ≡ filter q xs)
parted p q other [] zero at = (refl, refl)
parted p q other [] (suc k) at = (refl, refl)
parted p q other (x ∷ xs) zero at =
    let fails : p x ≡ false = at.1 0 x (omega arith) (omega arith) in
    let passes = other x in
    let rest = parted p q other xs zero ((λ i d low high. absurd (omega arith)), (λ i d low high. at.1 (suc i) d (omega arith) (omega arith))) in
    grind (arith, rest.0, rest.1)
parted p q other (x ∷ xs) (suc k) at =
    let fits : p x ≡ true = at.0 0 x (omega arith) (omega arith) in
    let fails = other x in
    let rest = parted p q other xs k (
      (λ i d low high. at.0 (suc i) d (omega arith) (omega arith)),
      (λ i d low high. at.1 (suc i) d (omega arith) (omega arith)),
    ) in
    grind (arith, rest.0, rest.1)

-- in order, those whose id is at most this one come first
pub IsPartitionedBy-id : {T : Type 0} (id : ℤ) (ws : List (Waiting T)) → AreById id_of ws → IsPartitionedBy (λ v. int_le v.id id) ws
IsPartitionedBy-id id ws up i j d le below passes = elim (cases_lt i j) [
  | inl lt ↦ le_holds _ _ (le_chain _ _ _ (up i j d lt below) (le_passes _ _ passes))
  | inr ge ↦ let same : i ≡ j = omega arith in rw same passes
]

-- what a binary search among ids in order finds
pub IsPlaceOf-from_point : {T : Type 0} (id : ℤ) (ws : List (Waiting T)) (place : ℕ) → place ≤ length ws
    → IsPartitionPoint (λ v. int_le v.id id ≡ true) (λ v. int_le v.id id ≡ false) ws place → IsPlaceOf id ws place
IsPlaceOf-from_point id ws place within at =
    let parts = parted (λ v. int_le v.id id) (λ v. int_lt id v.id) (λ v. lt_is id v.id) ws place at in
    record { before = parts.0; after = parts.1; within = within }

-- an insert at the place of its id puts one where it belongs
pub inserted : {T : Type 0} (w : Waiting T) (s : SortState T) (ws new : List (Waiting T)) (place : ℕ) → s.waiting ≡ ws → IsPlaceOf w.id s.waiting place
    → new ≡ insert ws place w → new ≡ placed w ws
inserted w s ws new place same at is = let found : IsPlaceOf w.id ws place = subst (λ xs. IsPlaceOf w.id xs place) same at in
    is ∙ rw (found.before, found.after)
