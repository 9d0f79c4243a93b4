-- LAWS of groups: what one array more does to them.
use Rattle.std.proofs.Common.{◌≡◌, ◌≢◌, ◌⊎◌, inl, inr, ℕ, zero, suc, ◌+◌, ◌*◌, ◌/◌, ◌%◌, ◌<◌, ◌≤◌, List, [], ◌∷◌, ◌++◌, length, take, drop, refl, sym, ap}
use Rattle.std.proofs.Common.{◌∙◌, arith}
use Rattle.std.proofs.Math.Nat.{add-mul, mul-le-mul_right}
use Rattle.std.proofs.lemmas.Nat.{div-mul-add, mod-mul-add}
use Rattle.std.proofs.lemmas.List.{take-append-le, drop-append-le, drop_all, take_all, length-append, length-drop}
use Rattle.std.proofs.lemmas.Bool.{cases_lt}
use Rattle.graph_files.specs.Groups.{group_of}
use Rattle.graph_files.specs.NodeFiles.{IsPlaceAfter}
use Rattle.nd_base.specs.Array.{Array}

-- where the next array goes
pub group-is : (count : ℕ) (xs : List Array) (g p : ℕ) → IsPlaceAfter count xs g p → length xs / count ≡ g
group-is count xs g p h = ap (λ n. n / count) h.all ∙ div-mul-add g count p h.within

pub place-is : (count : ℕ) (xs : List Array) (g p : ℕ) → IsPlaceAfter count xs g p → length xs % count ≡ p
place-is count xs g p h = ap (λ n. n % count) h.all ∙ mod-mul-add g count p h.within

take_none : (k : ℕ) → take {A = Array} k [] ≡ []
take_none zero = refl
take_none (suc k) = refl

after : (xs : List Array) (a : Array) → length (xs ++ a ∷ []) ≡ length xs + 1
after xs a = length-append xs (a ∷ [])

-- and the one after it, in the same group or the next one
pub place-more : (count : ℕ) (xs : List Array) (a : Array) (g p : ℕ) → IsPlaceAfter count xs g p → p + 1 < count → IsPlaceAfter count (xs ++ a ∷ []) g (p + 1)
place-more count xs a g p h more = record { within = more; all = after xs a ∙ omega (arith, h.all) }

pub place-next : (count : ℕ) (xs : List Array) (a : Array) (g p : ℕ) → IsPlaceAfter count xs g p → p + 1 ≡ count → IsPlaceAfter count (xs ++ a ∷ []) (g + 1) 0
place-next count xs a g p h last =
    let next_group : (g + 1) * count ≡ g * count + 1 * count = add-mul g 1 count in
    let some = h.within in
    record { within = omega arith; all = after xs a ∙ omega (arith, h.all, next_group, last) }

module _ (count : ℕ) (xs : List Array) (g p : ℕ) (h : IsPlaceAfter count xs g p) where
  -- nothing is in a later group
  pub group-later : (i : ℕ) → g < i → group_of count i xs ≡ []
  group-later i later =
      let rows : (g + 1) * count ≤ i * count = mul-le-mul_right count (let le : g + 1 ≤ i = omega (arith, later) in le) in
      let one : (g + 1) * count ≡ g * count + 1 * count = add-mul g 1 count in
      ap (take count) (drop_all (i * count) xs (omega (arith, rows, one, h.all, h.within))) ∙ take_none count

  -- the arrays of the group that the next one goes to
  pub length-group : length (group_of count g xs) ≡ p
  length-group =
      let rest : length (drop (g * count) xs) ≡ p = length-drop (g * count) xs ∙ omega (arith, h.all) in
      ap length (take_all count (drop (g * count) xs) (omega (arith, rest, h.within))) ∙ rest

module _ (count : ℕ) (xs : List Array) (a : Array) (g p : ℕ) (h : IsPlaceAfter count xs g p) where
  pub group-more : group_of count g (xs ++ a ∷ []) ≡ group_of count g xs ++ a ∷ []
  group-more =
      let rest : length (drop (g * count) xs) ≡ p = length-drop (g * count) xs ∙ omega (arith, h.all) in
      let more : length (drop (g * count) xs ++ a ∷ []) ≡ p + 1 = length-append (drop (g * count) xs) (a ∷ []) ∙ ap (λ n. n + 1) rest in
      ap (take count) (drop-append-le (g * count) xs (a ∷ []) (omega (arith, h.all)))
      ∙ take_all count (drop (g * count) xs ++ a ∷ []) (omega (arith, more, h.within))
      ∙ ap (λ (ys : List Array). ys ++ a ∷ []) (sym (take_all count (drop (g * count) xs) (omega (arith, rest, h.within))))

  -- no other group changes
  pub group-other : (i : ℕ) → i ≢ g → group_of count i (xs ++ a ∷ []) ≡ group_of count i xs
  group-other i other =
      elim (order i g other) [
        | inl before ↦
            let rows : (i + 1) * count ≤ g * count = mul-le-mul_right count (let le : i + 1 ≤ g = omega (arith, before) in le) in
            let one : (i + 1) * count ≡ i * count + 1 * count = add-mul i 1 count in
            let room : count ≤ length (drop (i * count) xs) = omega (arith, length-drop (i * count) xs, rows, one, h.all) in
            ap (take count) (drop-append-le (i * count) xs (a ∷ []) (omega (arith, rows, one, h.all)))
            ∙ take-append-le count (drop (i * count) xs) (a ∷ []) room
        | inr later ↦
            let rows : (g + 1) * count ≤ i * count = mul-le-mul_right count (let le : g + 1 ≤ i = omega (arith, later) in le) in
            let one : (g + 1) * count ≡ g * count + 1 * count = add-mul g 1 count in
            ap (take count) (drop_all (i * count) (xs ++ a ∷ []) (omega (arith, after xs a, rows, one, h.all, h.within))
            ∙ sym (drop_all (i * count) xs (omega (arith, rows, one, h.all, h.within))))
      ]
    where
      order : (i g : ℕ) → i ≢ g → (i < g) ⊎ (g < i)
      order i g ne = elim (cases_lt i g) [ inl below ↦ inl below | inr above ↦ inr (omega (arith, ne)) ]
