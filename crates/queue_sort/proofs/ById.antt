-- Lists in the order of ids, one more at its place, and those of one id.
use Rattle.std.proofs.Common.{◌≡◌, suc, Bool, true, false, not, cond, List, [], ◌∷◌, ◌++◌, map, ℤ, ◌≤ℤ◌, int_le, int_lt, refl, sym, ap, ◌∙◌, inl, inr, arith}
use Rattle.std.specs.List.{All, AllPairs, filter}
use Rattle.std.specs.List.Sorted.{IsPermutation}
use Rattle.std.specs.Ordering.{int_eq}
use Rattle.std.proofs.lemmas.Bool.{cases_Bool}
use Rattle.std.proofs.lemmas.Int.{ints}
use Rattle.std.proofs.lemmas.List.{append-nil, map-append}
use Rattle.std.proofs.lemmas.List.Elements.{All-append, All-head, All-tail, All-cons, All-weaker, filter_passes, filter-append}
use Rattle.std.proofs.lemmas.List.Kept.{AllPairs-cons, AllPairs-filter}
use Rattle.std.proofs.lemmas.List.Sorted.{IsPermutation-sym, IsPermutation-trans, IsPermutation-cons, IsPermutation-middle, IsPermutation-filter_both}
use Rattle.queue_sort.specs.ById.{AreById, placed_by, with_id}

module _ {X : Type 0} (R : X → X → Type 0) where
  -- the first is in order with each later one
  pub AllPairs-head : (x : X) (xs : List X) → AllPairs R (x ∷ xs) → All (R x) xs
  AllPairs-head x xs up k d below = up 0 (suc k) d (omega arith) (omega arith)

  pub AllPairs-tail : (x : X) (xs : List X) → AllPairs R (x ∷ xs) → AllPairs R xs
  AllPairs-tail x xs up i j d lt below = up (suc i) (suc j) d (omega arith) (omega arith)

  -- two lists in order, where each of the first is in order with each of the second
  pub AllPairs-append : (xs ys : List X) → AllPairs R xs → AllPairs R ys → All (λ x. All (R x) ys) xs → AllPairs R (xs ++ ys)
  AllPairs-append [] ys up up_too between = up_too
  AllPairs-append (x ∷ xs) ys up up_too between =
      AllPairs-cons R x (xs ++ ys) (All-append (R x) xs ys (AllPairs-head x xs up) (All-head (λ v. All (R v) ys) x xs between))
      (AllPairs-append xs ys (AllPairs-tail x xs up) up_too (All-tail (λ v. All (R v) ys) x xs between))

-- a filter of what passes a wider test
pub filter_inner : {X : Type 0} (p q : X → Bool) → ((x : X) → p x ≡ true → q x ≡ true) → (xs : List X) → filter p (filter q xs) ≡ filter p xs
filter_inner p q all [] = refl
filter_inner p q all (x ∷ xs) =
    let rest = filter_inner p q all xs in
    elim (cases_Bool (p x)) [
      | inl here ↦ rw (all x here, here) (ap (λ ys. x ∷ ys) rest)
      | inr away ↦ elim (cases_Bool (q x)) [
        | inl in_q ↦ rw (in_q, away) rest
        | inr off_q ↦ rw (off_q, away) rest
      ]
    ]

-- a filter of what passes a test that excludes it
pub filter_outer : {X : Type 0} (p q : X → Bool) → ((x : X) → q x ≡ true → p x ≡ false) → (xs : List X) → filter p (filter q xs) ≡ []
filter_outer p q none [] = refl
filter_outer p q none (x ∷ xs) =
    let rest = filter_outer p q none xs in
    elim (cases_Bool (q x)) [
      | inl in_q ↦ rw (in_q, none x in_q) rest
      | inr off_q ↦ rw off_q rest
    ]

-- a test of what f gives
pub map-filter : {X Y : Type 0} (f : X → Y) (p : X → Bool) (q : Y → Bool) → ((x : X) → p x ≡ q (f x)) → (xs : List X)
    → map f (filter p xs) ≡ filter q (map f xs)
map-filter f p q same [] = refl
map-filter f p q same (x ∷ xs) = by (p x) (q (f x)) (same x) (map-filter f p q same xs)
  where
    by : (a b : Bool) → a ≡ b → map f (filter p xs) ≡ filter q (map f xs)
        → map f (cond a (x ∷ filter p xs) (filter p xs)) ≡ cond b (f x ∷ filter q (map f xs)) (filter q (map f xs))
    by true true e rest = ap (λ ys. f x ∷ ys) rest
    by false false e rest = rest
    by true false e rest = absurd (cc)
    by false true e rest = absurd (cc)

-- the tests of two ids
pub le_passes : (a b : ℤ) → int_le a b ≡ true → a ≤ℤ b
le_passes a b h = grind (arith, ints)

pub lt_passes : (a b : ℤ) → int_lt a b ≡ true → a ≤ℤ b
lt_passes a b h = grind (arith, ints)

pub le_holds : (a b : ℤ) → a ≤ℤ b → int_le a b ≡ true
le_holds a b h = grind (arith, ints)

pub lt_is : (a b : ℤ) → int_lt a b ≡ not (int_le b a)
lt_is a b = grind (arith, ints)

pub le_chain : (a b c : ℤ) → a ≤ℤ b → b ≤ℤ c → a ≤ℤ c
le_chain a b c g h = omega (arith, ints)

in_front : (k w i : ℤ) → i ≤ℤ w → int_eq k i ≡ true → int_le k w ≡ true
in_front k w i le h = grind (arith, ints)

not_behind : (k w i : ℤ) → i ≤ℤ w → int_lt w k ≡ true → int_eq k i ≡ false
not_behind k w i le h = grind (arith, ints)

behind : (k w i : ℤ) → int_le i w ≡ false → int_eq k i ≡ true → int_lt w k ≡ true
behind k w i gt h = grind (arith, ints)

not_in_front : (k w i : ℤ) → int_le i w ≡ false → int_le k w ≡ true → int_eq k i ≡ false
not_in_front k w i gt h = grind (arith, ints)

other_id : (w i : ℤ) → int_le i w ≡ false → int_eq w i ≡ false
other_id w i gt = grind (arith, ints)

module _ {X : Type 0} (id_of : X → ℤ) where
  -- one more at its place keeps the order
  pub AreById-placed : (w : X) (ws : List X) → AreById id_of ws → AreById id_of (placed_by id_of w ws)
  AreById-placed w ws up =
      let R = λ (a b : X). id_of a ≤ℤ id_of b in
      let p = λ (v : X). int_le (id_of v) (id_of w) in
      let q = λ (v : X). int_lt (id_of w) (id_of v) in
      let below : All (λ v. R v w) (filter p ws) = All-weaker (λ v. p v ≡ true) (λ v. R v w) (λ v h. le_passes _ _ h) (filter p ws) (filter_passes p ws) in
      let above : All (R w) (filter q ws) = All-weaker (λ v. q v ≡ true) (R w) (λ v h. lt_passes _ _ h) (filter q ws) (filter_passes q ws) in
      AllPairs-append R (filter p ws) (w ∷ filter q ws)
      (AllPairs-filter R p ws up)
      (AllPairs-cons R w (filter q ws) above (AllPairs-filter R q ws up))
      (All-weaker (λ v. R v w) (λ v. All (R v) (w ∷ filter q ws))
      (λ v h. All-cons (R v) w (filter q ws) h (All-weaker (R w) (R v) (λ u g. le_chain _ _ _ h g) (filter q ws) above)) (filter p ws) below)

  -- and all others
  pub placed_by-moves : (w : X) (ws : List X) → IsPermutation (w ∷ ws) (placed_by id_of w ws)
  placed_by-moves w ws =
      let p = λ (v : X). int_le (id_of v) (id_of w) in
      let q = λ (v : X). int_lt (id_of w) (id_of v) in
      IsPermutation-trans _ _ _ (IsPermutation-cons w _ _ (IsPermutation-filter_both p q (λ v. lt_is (id_of w) (id_of v)) ws))
      (IsPermutation-sym _ _ (IsPermutation-middle (filter p ws) w (filter q ws)))

  -- it comes behind all others of its id
  pub with_id-placed : (id : ℤ) (w : X) (ws : List X) → with_id id_of id (placed_by id_of w ws) ≡ with_id id_of id ws ++ with_id id_of id (w ∷ [])
  with_id-placed id w ws =
      let k = id_of w in
      let e = λ (v : X). int_eq (id_of v) id in
      let p = λ (v : X). int_le (id_of v) k in
      let q = λ (v : X). int_lt k (id_of v) in
      let split : with_id id_of id (placed_by id_of w ws) ≡ filter e (filter p ws) ++ filter e (w ∷ filter q ws) =
      filter-append e (filter p ws) (w ∷ filter q ws) in
      elim (cases_Bool (int_le id k)) [
        | inl up ↦
            let le : id ≤ℤ k = le_passes id k up in
            let front : filter e (filter p ws) ≡ filter e ws = filter_inner e p (λ v h. in_front (id_of v) k id le h) ws in
            let back : filter e (filter q ws) ≡ [] = filter_outer e q (λ v h. not_behind (id_of v) k id le h) ws in
            split ∙ (ap (λ (xs : List X). xs ++ filter e (w ∷ filter q ws)) front
            ∙ ap (λ (xs : List X). filter e ws ++ cond (e w) (w ∷ xs) xs) back)
        | inr down ↦
            let front : filter e (filter p ws) ≡ [] = filter_outer e p (λ v h. not_in_front (id_of v) k id down h) ws in
            let back : filter e (filter q ws) ≡ filter e ws = filter_inner e q (λ v h. behind (id_of v) k id down h) ws in
            let off : e w ≡ false = other_id k id down in
            let last : filter e (w ∷ filter q ws) ≡ filter e ws = rw off back in
            let none : filter e (w ∷ []) ≡ [] = rw off refl in
            split ∙ (ap (λ (xs : List X). xs ++ filter e (w ∷ filter q ws)) front
            ∙ (last ∙ sym (ap (λ (xs : List X). filter e ws ++ xs) none ∙ append-nil (filter e ws))))
      ]

-- what f makes of a list has one more at its place where the list has, if f keeps the ids
pub map-placed : {X Y : Type 0} (f : X → Y) (id_of : X → ℤ) (id_too : Y → ℤ) → ((x : X) → id_of x ≡ id_too (f x)) → (w : X) (ws : List X)
    → map f (placed_by id_of w ws) ≡ placed_by id_too (f w) (map f ws)
map-placed {X} {Y} f id_of id_too same w ws =
    let low = filter (λ (v : X). int_le (id_of v) (id_of w)) ws in
    let high = filter (λ (v : X). int_lt (id_of w) (id_of v)) ws in
    map-append f low (w ∷ high)
    ∙ ap (λ front. front ++ f w ∷ map f high)
    (map-filter f _ (λ (u : Y). int_le (id_too u) (id_too (f w))) (λ v. ap (λ a. int_le a (id_of w)) (same v) ∙ ap (λ b. int_le (id_too (f v)) b) (same w)) ws)
    ∙ ap (λ back. filter (λ (u : Y). int_le (id_too u) (id_too (f w))) (map f ws) ++ f w ∷ back)
    (map-filter f _ (λ (u : Y). int_lt (id_too (f w)) (id_too u)) (λ v. ap (λ a. int_lt a (id_of v)) (same w) ∙ ap (λ b. int_lt (id_too (f w)) b) (same v)) ws)
