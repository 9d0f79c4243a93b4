-- What waits, the least first: it is the one list by id in which those of each id stand as they came.
use Rattle.std.proofs.Common.{◌≡◌, true, false, cond, List, [], ◌∷◌, ◌++◌, length, ℤ, ◌≤ℤ◌, refl, sym, ap, ◌∙◌, subst, inl, inr, arith}
use Rattle.std.specs.Prelude.{filter}
use Rattle.std.specs.List.{All, AllPairs}
use Rattle.std.specs.List.Sorted.{IsPermutation}
use Rattle.std.specs.Ordering.{int_eq}
use Rattle.std.proofs.lemmas.Bool.{cases_Bool}
use Rattle.std.proofs.lemmas.Int.{ints}
use Rattle.std.proofs.lemmas.List.{nil_from_length, append-nil, append_assoc}
use Rattle.std.proofs.lemmas.List.Elements.{All-head, All-tail, All-cons, filter-append}
use Rattle.std.proofs.lemmas.List.Kept.{AllPairs-cons}
use Rattle.std.proofs.lemmas.List.Sorted.{IsPermutation-refl, IsPermutation-sym, IsPermutation-trans, IsPermutation-middle, IsPermutation-append_left}
use Rattle.std.proofs.lemmas.List.Sorted.{All-permutation, length_permutation}
use Rattle.nd_base.specs.declared.frame.FrameName.{FrameName}
use Rattle.queue_sort.specs.ById.{AreById, placed_by, with_id}
use Rattle.queue_sort.proofs.ById.{AllPairs-head, AllPairs-tail, AreById-placed, placed_by-moves, with_id-placed}
use Rattle.flow_journal.specs.Setting.{Setting, id_at}
use Rattle.flow_journal.specs.Pasts.{same}
use Rattle.flow_journal.specs.Waiting.{Waiting, not_waiting, id_of, placed_all, least_first}
use Rattle.flow_journal.specs.WaitingLaws.{IsLeast, LeastLaws}
use Rattle.flow_journal.proofs.Steps.{same_refl, same-true}

-- IN ORDER

le_self : (a : ℤ) → a ≤ℤ a
le_self a = omega (arith, ints)

eq_is : (a b : ℤ) → int_eq a b ≡ true → a ≡ b
eq_is a b h = grind (arith, ints)

eq_self : (a : ℤ) → int_eq a a ≡ true
eq_self a = grind (arith, ints)

both_le : (a b : ℤ) → a ≤ℤ b → b ≤ℤ a → a ≡ b
both_le a b g h = omega (arith, ints)

AreById-placed_all : (s : Setting) (done ws : List Waiting) → AreById (id_of s) done → AreById (id_of s) (placed_all s done ws)
AreById-placed_all s done [] up = up
AreById-placed_all s done (w ∷ ws) up = AreById-placed_all s (placed_by (id_of s) w done) ws (AreById-placed (id_of s) w done up)

no_pairs : {X : Type 0} (R : X → X → Type 0) → AllPairs R []
no_pairs R i j d lt below = absurd (omega arith)

by_id : (s : Setting) (ws : List Waiting) → AreById (id_of s) (least_first s ws)
by_id s ws = AreById-placed_all s [] ws (no_pairs (λ v w. id_of s v ≤ℤ id_of s w))

-- THE SAME ONES

placed_all-moves : (s : Setting) (done ws : List Waiting) → IsPermutation (done ++ ws) (placed_all s done ws)
placed_all-moves s done [] = subst (λ (xs : List Waiting). IsPermutation xs done) (sym (append-nil done)) (IsPermutation-refl done)
placed_all-moves s done (w ∷ ws) =
    IsPermutation-trans _ _ _ (IsPermutation-middle done w ws)
    (IsPermutation-trans _ _ _ (IsPermutation-append_left ws (w ∷ done) (placed_by (id_of s) w done) (placed_by-moves (id_of s) w done))
    (placed_all-moves s (placed_by (id_of s) w done) ws))

same_ones : (s : Setting) (ws : List Waiting) → IsPermutation ws (least_first s ws)
same_ones s ws = placed_all-moves s [] ws

-- THOSE OF ONE ID

with_id-placed_all : (s : Setting) (i : ℤ) (done ws : List Waiting) → with_id (id_of s) i (placed_all s done ws) ≡ with_id (id_of s) i (done ++ ws)
with_id-placed_all s i done [] = ap (with_id (id_of s) i) (sym (append-nil done))
with_id-placed_all s i done (w ∷ ws) =
    let e = λ (v : Waiting). int_eq (id_of s v) i in
    with_id-placed_all s i (placed_by (id_of s) w done) ws
    ∙ (filter-append e (placed_by (id_of s) w done) ws
    ∙ (ap (λ (xs : List Waiting). xs ++ filter e ws) (with_id-placed (id_of s) i w done ∙ sym (filter-append e done (w ∷ [])))
    ∙ (sym (filter-append e (done ++ w ∷ []) ws) ∙ ap (with_id (id_of s) i) (append_assoc done (w ∷ []) ws))))

in_turn : (s : Setting) (i : ℤ) (ws : List Waiting) → with_id (id_of s) i (least_first s ws) ≡ with_id (id_of s) i ws
in_turn s i ws = with_id-placed_all s i [] ws

-- ONE SUCH LIST

-- where none is below m, an id that some have isn't either
reached : (s : Setting) (m i : ℤ) (ws : List Waiting) (y : Waiting) (ys : List Waiting) → All (λ v. m ≤ℤ id_of s v) ws
    → with_id (id_of s) i ws ≡ y ∷ ys → m ≤ℤ i
reached s m i [] y ys low h = cc
reached s m i (w ∷ ws) y ys low h =
    elim (cases_Bool (int_eq (id_of s w) i)) [
      | inl here ↦ subst (λ (j : ℤ). m ≤ℤ j) (eq_is (id_of s w) i here) (All-head (λ v. m ≤ℤ id_of s v) w ws low)
      | inr away ↦ reached s m i ws y ys (All-tail (λ v. m ≤ℤ id_of s v) w ws low) (rw away at h)
    ]

low-first : (s : Setting) (w : Waiting) (ws : List Waiting) → AreById (id_of s) (w ∷ ws) → All (λ v. id_of s w ≤ℤ id_of s v) (w ∷ ws)
low-first s w ws up = All-cons (λ v. id_of s w ≤ℤ id_of s v) w ws (le_self (id_of s w)) (AllPairs-head (λ u v. id_of s u ≤ℤ id_of s v) w ws up)

its_own : (s : Setting) (w : Waiting) (ws : List Waiting) → with_id (id_of s) (id_of s w) (w ∷ ws) ≡ w ∷ with_id (id_of s) (id_of s w) ws
its_own s w ws = rw (eq_self (id_of s w)) refl

tails_same : (s : Setting) (i : ℤ) (w : Waiting) (xs ys : List Waiting)
    → with_id (id_of s) i (w ∷ xs) ≡ with_id (id_of s) i (w ∷ ys) → with_id (id_of s) i xs ≡ with_id (id_of s) i ys
tails_same s i w xs ys h =
    elim (cases_Bool (int_eq (id_of s w) i)) [
      | inl here ↦ let e : w ∷ with_id (id_of s) i xs ≡ w ∷ with_id (id_of s) i ys = rw here at h in cc
      | inr away ↦ rw away at h
    ]

only_one : (s : Setting) (xs ys : List Waiting) → AreById (id_of s) xs → AreById (id_of s) ys
    → ((i : ℤ) → with_id (id_of s) i xs ≡ with_id (id_of s) i ys) → xs ≡ ys
only_one s [] [] up up_too same = refl
only_one s [] (y ∷ ys) up up_too same = let e : [] ≡ y ∷ with_id (id_of s) (id_of s y) ys = same (id_of s y) ∙ its_own s y ys in cc
only_one s (x ∷ xs) [] up up_too same = let e : x ∷ with_id (id_of s) (id_of s x) xs ≡ [] = sym (its_own s x xs) ∙ same (id_of s x) in cc
only_one s (x ∷ xs) (y ∷ ys) up up_too same =
    let R = λ (a b : Waiting). id_of s a ≤ℤ id_of s b in
    let x_le : id_of s x ≤ℤ id_of s y =
    reached s (id_of s x) (id_of s y) (x ∷ xs) y (with_id (id_of s) (id_of s y) ys) (low-first s x xs up) (same (id_of s y) ∙ its_own s y ys) in
    let y_le : id_of s y ≤ℤ id_of s x =
    reached s (id_of s y) (id_of s x) (y ∷ ys) x (with_id (id_of s) (id_of s x) xs) (low-first s y ys up_too) (sym (same (id_of s x)) ∙ its_own s x xs) in
    let one : id_of s y ≡ id_of s x = both_le _ _ y_le x_le in
    let heads : x ∷ with_id (id_of s) (id_of s x) xs ≡ y ∷ with_id (id_of s) (id_of s y) ys =
    sym (its_own s x xs) ∙ (same (id_of s x) ∙ (ap (λ (i : ℤ). with_id (id_of s) i (y ∷ ys)) (sym one) ∙ its_own s y ys)) in
    let is : x ≡ y = cc in
    let up_y : AreById (id_of s) (x ∷ ys) = subst (λ (w : Waiting). AreById (id_of s) (w ∷ ys)) (sym is) up_too in
    let same_x : (i : ℤ) → with_id (id_of s) i (x ∷ xs) ≡ with_id (id_of s) i (x ∷ ys) =
    λ i. same i ∙ ap (λ (w : Waiting). with_id (id_of s) i (w ∷ ys)) (sym is) in
    ap (λ (w : Waiting). w ∷ xs) is
    ∙ ap (λ (ws : List Waiting). y ∷ ws) (only_one s xs ys (AllPairs-tail R x xs up) (AllPairs-tail R x ys up_y) (λ i. tails_same s i x xs ys (same_x i)))

only : (s : Setting) (xs ws : List Waiting) → AreById (id_of s) xs → ((i : ℤ) → with_id (id_of s) i xs ≡ with_id (id_of s) i ws) → xs ≡ least_first s ws
only s xs ws up same = only_one s xs (least_first s ws) up (by_id s ws) (λ i. same i ∙ sym (in_turn s i ws))

-- WHAT COMES AND GOES

pub comes-placed : (s : Setting) (ws : List Waiting) (w : Waiting) → least_first s (ws ++ w ∷ []) ≡ placed_by (id_of s) w (least_first s ws)
comes-placed s ws w = placed_all-last [] ws
  where
    placed_all-last : (done ws : List Waiting) → placed_all s done (ws ++ w ∷ []) ≡ placed_by (id_of s) w (placed_all s done ws)
    placed_all-last done [] = refl
    placed_all-last done (v ∷ ws) = placed_all-last (placed_by (id_of s) v done) ws

-- what goes away leaves those of each id, and the order
with_id-goes : (s : Setting) (i : ℤ) (a : FrameName) (ws : List Waiting)
    → with_id (id_of s) i (not_waiting a ws) ≡ cond (int_eq (id_at s a.index) i) (not_waiting a (with_id (id_of s) i ws)) (with_id (id_of s) i ws)
with_id-goes s i a [] = elim (cases_Bool (int_eq (id_at s a.index) i)) [
  | inl here ↦ rw here refl
  | inr away ↦ rw away refl
]
with_id-goes s i a (w ∷ ws) =
    let rest = with_id-goes s i a ws in
    elim (cases_Bool (same w.array a)) [
      | inl here ↦
          let is : id_of s w ≡ id_at s a.index = ap (λ (b : FrameName). id_at s b.index) (same-true w.array a here) in
          elim (cases_Bool (int_eq (id_at s a.index) i)) [
            | inl asked ↦ let own : int_eq (id_of s w) i ≡ true = ap (λ (j : ℤ). int_eq j i) is ∙ asked in rw (here, asked, own, here) refl
            | inr other ↦ let own : int_eq (id_of s w) i ≡ false = ap (λ (j : ℤ). int_eq j i) is ∙ other in rw (here, other, own) refl
          ]
      | inr away ↦ elim (cases_Bool (int_eq (id_of s w) i)) [
        | inl own ↦ elim (cases_Bool (int_eq (id_at s a.index) i)) [
          | inl asked ↦ rw (away, asked, own, away) (ap (λ (xs : List Waiting). w ∷ xs) (rw asked at rest))
          | inr other ↦ rw (away, other, own) (ap (λ (xs : List Waiting). w ∷ xs) (rw other at rest))
        ]
        | inr off ↦ rw (away, off) rest
      ]
    ]

All-goes : (P : Waiting → Type 0) (a : FrameName) (ws : List Waiting) → All P ws → All P (not_waiting a ws)
All-goes P a [] h = h
All-goes P a (w ∷ ws) h =
    elim (cases_Bool (same w.array a)) [
      | inl here ↦ rw here (All-tail P w ws h)
      | inr away ↦ rw away (All-cons P w (not_waiting a ws) (All-head P w ws h) (All-goes P a ws (All-tail P w ws h)))
    ]

AreById-goes : (s : Setting) (a : FrameName) (ws : List Waiting) → AreById (id_of s) ws → AreById (id_of s) (not_waiting a ws)
AreById-goes s a [] up = up
AreById-goes s a (w ∷ ws) up =
    let R = λ (u v : Waiting). id_of s u ≤ℤ id_of s v in
    elim (cases_Bool (same w.array a)) [
      | inl here ↦ rw here (AllPairs-tail R w ws up)
      | inr away ↦
          rw away (AllPairs-cons R w (not_waiting a ws) (All-goes (R w) a ws (AllPairs-head R w ws up)) (AreById-goes s a ws (AllPairs-tail R w ws up)))
    ]

goes : (s : Setting) (ws : List Waiting) (a : FrameName) → least_first s (not_waiting a ws) ≡ not_waiting a (least_first s ws)
goes s ws a =
    let asked = λ (i : ℤ). int_eq (id_at s a.index) i in
    sym (only s (not_waiting a (least_first s ws)) (not_waiting a ws) (AreById-goes s a (least_first s ws) (by_id s ws)) (λ i.
    with_id-goes s i a (least_first s ws)
    ∙ (ap (λ (xs : List Waiting). cond (asked i) (not_waiting a xs) xs) (in_turn s i ws) ∙ sym (with_id-goes s i a ws))))

left : (s : Setting) (ws : List Waiting) (w : Waiting) (rest : List Waiting) → least_first s ws ≡ w ∷ rest → least_first s (not_waiting w.array ws) ≡ rest
left s ws w rest h = goes s ws w.array ∙ (ap (not_waiting w.array) h ∙ rw (same_refl w.array) refl)

-- THE LEAST

least : (s : Setting) (ws : List Waiting) (w : Waiting) (rest : List Waiting) → least_first s ws ≡ w ∷ rest → IsLeast s w ws
least s ws w rest h =
    let up : AreById (id_of s) (w ∷ rest) = subst (AreById (id_of s)) h (by_id s ws) in
    let low : All (λ v. id_of s w ≤ℤ id_of s v) (least_first s ws) = subst (All (λ v. id_of s w ≤ℤ id_of s v)) (sym h) (low-first s w rest up) in
    record {
      below = All-permutation (λ v. id_of s w ≤ℤ id_of s v) (least_first s ws) ws (IsPermutation-sym _ _ (same_ones s ws)) low;
      before = (with_id (id_of s) (id_of s w) rest, sym (in_turn s (id_of s w) ws) ∙ (ap (with_id (id_of s) (id_of s w)) h ∙ its_own s w rest));
    }

count : (s : Setting) (ws : List Waiting) → length (least_first s ws) ≡ length ws
count s ws = length_permutation ws (least_first s ws) (same_ones s ws)

pub least_laws : LeastLaws
least_laws = record {
  same_ones = same_ones;
  by_id = by_id;
  in_turn = in_turn;
  only = only;
  least = least;
  none = λ s ws h. nil_from_length ws (sym (count s ws) ∙ ap length h);
  count = count;
  comes = comes-placed;
  goes = goes;
  left = left;
}
