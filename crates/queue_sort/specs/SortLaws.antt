-- Laws of a sort list, for those who use one.
use Rattle.std.specs.Prelude.{◌≡◌, ◌+◌, ◌<◌, Bool, true, false, if◌then◌else◌, List, [], ◌∷◌, length, ℤ, ◌≤ℤ◌, int_le, int_lt}
use Rattle.std.specs.List.{All, filter}
use Rattle.std.proofs.Common.{suc, refl, inl, inr, arith, length-append}
use Rattle.std.proofs.lemmas.Bool.{cases_Bool}
use Rattle.std.proofs.lemmas.Int.{ints}
use Rattle.std.proofs.lemmas.List.Elements.{All-head, All-tail, All-cons, All-append, All-filter, All-weaker}
use Rattle.queue_sort.specs.declared.sort_lists.Waiting.{Waiting}
use Rattle.queue_sort.specs.ById.{AreById}
use Rattle.queue_sort.specs.Sorting.{SortState, id_of, keeps_step, is_full, emitted, placed, after_put, without_least, let_out}

-- what is true of one and of all that wait is true of all after it is placed
pub All-placed : {T : Type 0} (P : Waiting T → Type 0) (w : Waiting T) (ws : List (Waiting T)) → P w → All P ws → All P (placed w ws)
All-placed {T} P w ws here all =
    let at_most = λ (v : Waiting T). int_le v.id w.id in
    let above = λ (v : Waiting T). int_lt w.id v.id in
    All-append P (filter at_most ws) (w ∷ filter above ws) (All-filter at_most P ws all) (All-cons P w (filter above ws) here (All-filter above P ws all))

-- so it is after a put
All-after_cases : {T : Type 0} (P : Waiting T → Type 0) (s : SortState T) (w : Waiting T) (steps full : Bool) → P w → All P s.waiting
    → All P (if steps then emitted s w.id else if full then s else record s { waiting = placed w s.waiting }).waiting
All-after_cases P s w true full here all = all
All-after_cases P s w false true here all = all
All-after_cases P s w false false here all = All-placed P w s.waiting here all

pub All-after_put : {T : Type 0} (P : Waiting T → Type 0) (s : SortState T) (w : Waiting T) → P w → All P s.waiting → All P (after_put s w).waiting
All-after_put P s w here all = All-after_cases P s w (keeps_step s.last w.id) (is_full s) here all

-- and after the least one went out
All-without_least : {T : Type 0} (P : Waiting T → Type 0) (s : SortState T) (ws : List (Waiting T)) → All P s.waiting → All P ws
    → All P (without_least s ws).waiting
All-without_least P s [] all rest = all
All-without_least P s (w ∷ ws) all rest = All-tail P w ws rest

pub All-let_out : {T : Type 0} (P : Waiting T → Type 0) (s : SortState T) → All P s.waiting → All P (let_out s).waiting
All-let_out P s all = All-without_least P s s.waiting all all

-- one fewer waits then
length-without_least : {T : Type 0} (s : SortState T) (ws : List (Waiting T)) → s.waiting ≡ ws → 0 < length ws
    → length (without_least s ws).waiting + 1 ≡ length ws
length-without_least s [] same some = absurd (omega arith)
length-without_least s (w ∷ ws) same some = omega arith

pub length-let_out : {T : Type 0} (s : SortState T) → 0 < length s.waiting → length (let_out s).waiting + 1 ≡ length s.waiting
length-let_out s some = length-without_least s s.waiting refl some

-- one more waits after it is placed
length-parts : {T : Type 0} (w : Waiting T) (ws : List (Waiting T))
    → length (filter (λ v. int_le v.id w.id) ws) + length (filter (λ v. int_lt w.id v.id) ws) ≡ length ws
length-parts w [] = omega arith
length-parts w (v ∷ ws) = let rest = length-parts w ws in elim (cases_Bool (int_lt w.id v.id)) [
  | inl gt ↦ let le : int_le v.id w.id ≡ false = grind (arith, ints) in rw (gt, le) (omega (arith, rest))
  | inr no_gt ↦ let le : int_le v.id w.id ≡ true = grind (arith, ints) in rw (no_gt, le) (omega (arith, rest))
]

pub length-placed : {T : Type 0} (w : Waiting T) (ws : List (Waiting T)) → length (placed w ws) ≡ length ws + 1
length-placed {T} w ws =
    let at_most = λ (v : Waiting T). int_le v.id w.id in
    let above = λ (v : Waiting T). int_lt w.id v.id in
    omega (arith, length-append (filter at_most ws) (w ∷ filter above ws), length-parts w ws)

filter-all : {X : Type 0} (p : X → Bool) (xs : List X) → All (λ x. p x ≡ true) xs → filter p xs ≡ xs
filter-all p [] all = refl
filter-all p (x ∷ xs) all = let here = All-head (λ x. p x ≡ true) x xs all in let rest = filter-all p xs (All-tail (λ x. p x ≡ true) x xs all) in
    rw (here, rest)

filter-none : {X : Type 0} (p : X → Bool) (xs : List X) → All (λ x. p x ≡ false) xs → filter p xs ≡ []
filter-none p [] all = refl
filter-none p (x ∷ xs) all = let here = All-head (λ x. p x ≡ false) x xs all in let rest = filter-none p xs (All-tail (λ x. p x ≡ false) x xs all) in
    rw here rest

le_above : (a b c : ℤ) → int_lt a b ≡ true → b ≤ℤ c → int_le c a ≡ false
le_above a b c lt le = grind (arith, ints)

lt_above : (a b c : ℤ) → int_lt a b ≡ true → b ≤ℤ c → int_lt a c ≡ true
lt_above a b c lt le = grind (arith, ints)

-- in order, one is placed as an insertion goes: before the first whose id is greater
pub placed-cons : {T : Type 0} (w v : Waiting T) (ws : List (Waiting T)) → AreById id_of (v ∷ ws)
    → placed w (v ∷ ws) ≡ (if int_lt w.id v.id then w ∷ (v ∷ ws) else v ∷ placed w ws)
placed-cons {T} w v ws up =
    let at_most = λ (u : Waiting T). int_le u.id w.id in
    let above = λ (u : Waiting T). int_lt w.id u.id in
    elim (cases_Bool (int_lt w.id v.id)) [
      | inl gt ↦
          let le : int_le v.id w.id ≡ false = grind (arith, ints) in
          let later : All (λ u. v.id ≤ℤ u.id) ws = λ k d below. up 0 (suc k) d (omega arith) (omega arith) in
          let front : filter at_most ws ≡ [] =
          filter-none at_most ws (All-weaker (λ u. v.id ≤ℤ u.id) (λ u. at_most u ≡ false) (λ u. le_above w.id v.id u.id gt) ws later) in
          let back : filter above ws ≡ ws =
          filter-all above ws (All-weaker (λ u. v.id ≤ℤ u.id) (λ u. above u ≡ true) (λ u. lt_above w.id v.id u.id gt) ws later) in
          rw (gt, le, front, back)
      | inr no_gt ↦
          let le : int_le v.id w.id ≡ true = grind (arith, ints) in
          rw (no_gt, le)
    ]
