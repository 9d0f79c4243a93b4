-- The choice among places, as the choice among the children at those places.
use Rattle.std.proofs.Common.{◌≡◌, ◌≤◌, ◌<◌, ◌∙◌, ◌+◌, ◌-◌, ℕ, zero, suc, Bool, Option, Some, None, List, [], ◌∷◌, ◌++◌, refl, sym, ap, arith, inl, inr}
use Rattle.std.proofs.Common.{length, drop, take, filter, find, map, get_or, add-one, drop-cons}
use Rattle.std.specs.Prelude.{slice_get, nat_lt}
use Rattle.std.specs.List.{range_with_len}
use Rattle.std.specs.Option.{option_or}
use Rattle.std.proofs.lemmas.Bool.{cases_Bool}
use Rattle.std.proofs.lemmas.List.{length-drop, length-map, get_or-map, take_all}
use Rattle.std.proofs.lemmas.List.Elements.{filter-append}
use Rattle.std.proofs.lemmas.List.Folds.{find-append}
use Rattle.std.proofs.lemmas.Option.{slice_get-get_or, slice_get_within, get_or_from_slice_get}
use Rattle.scatter_rule.specs.declared.Choice.{Choice}
use Rattle.scatter_rule.specs.declared.Choice.TheVariants.{Give, AllFull}
use Rattle.scatter_rule.specs.Rounds.{has_room, in_turn, choice}
use Rattle.scatter_rule.proofs.Places.{find-either, find-second}

-- the child that a choice names; where all are full, the one whose turn it is
abbrev pub chosen : List ℕ → ℕ → Choice → Option ℕ
chosen cs turn (Give i) = slice_get cs i
chosen cs turn AllFull = slice_get cs turn

-- A TEST OF PLACES AND ONE OF CHILDREN
-- the test q of places says at each place what the test p says of the child there
abbrev Agrees : (q p : ℕ → Bool) → List ℕ → Type 0
Agrees q p cs = (i c : ℕ) → slice_get cs i ≡ Some c → q i ≡ p c

-- the child at a place, if any
abbrev at_place : List ℕ → Option ℕ → Option ℕ
at_place cs None = None
at_place cs (Some i) = slice_get cs i

-- the first of n children from the place a on that passes
first-from : (q p : ℕ → Bool) (cs : List ℕ) (n a : ℕ) → Agrees q p cs → a + n ≤ length cs
    → slice_get (filter p (take n (drop a cs))) 0 ≡ at_place cs (find q (range_with_len a n))
first-from q p cs zero a agrees fit = refl
first-from q p cs (suc n) a agrees fit =
    let lt : a < length cs = omega (arith, fit) in
    let at : slice_get cs a ≡ Some (get_or cs a 0) = slice_get-get_or cs a 0 lt in
    let same : q a ≡ p (get_or cs a 0) = agrees a (get_or cs a 0) at in
    rw (drop-cons cs a 0)
    (elim (cases_Bool (q a)) [
      | inl here ↦ rw (sym same, here) (sym at)
      | inr away ↦ rw (sym same, away, add-one) (first-from q p cs n (suc a) agrees (omega (arith, fit)))
    ])

-- it is one of those places
found-from : (q : ℕ → Bool) (n a i : ℕ) → find q (range_with_len a n) ≡ Some i → i < a + n
found-from q zero a i h = cc
found-from q (suc n) a i h =
    elim (cases_Bool (q a)) [
      | inl here ↦ let same : Some a ≡ Some i = rw here at h in let e : a ≡ i = cc in omega (arith, e)
      | inr away ↦ omega (arith, found-from q n (a + 1) i (rw away at h))
    ]

-- of two lists the first one's first, or else the second's
shown-either : (xs ys : List ℕ) → slice_get (xs ++ ys) 0 ≡ option_or (slice_get xs 0) (slice_get ys 0)
shown-either [] ys = refl
shown-either (x ∷ xs) ys = refl

at-either : (cs : List ℕ) (a b : Option ℕ) → ((i : ℕ) → a ≡ Some i → i < length cs)
    → option_or (at_place cs a) (at_place cs b) ≡ at_place cs (option_or a b)
at-either cs None b within = refl
at-either cs (Some i) b within = rw (slice_get-get_or cs i 0 (within i refl)) refl

-- the first child that passes, from the one whose turn it is on round
first-round : (q p : ℕ → Bool) (cs : List ℕ) (turn : ℕ) → Agrees q p cs → turn ≤ length cs
    → slice_get (filter p (drop turn cs ++ take turn cs)) 0 ≡ at_place cs (find q (in_turn turn (length cs)))
first-round q p cs turn agrees le =
    let n : ℕ = length cs - turn in
    let behind : List ℕ = range_with_len turn n in
    let before : List ℕ = range_with_len 0 turn in
    let whole : take n (drop turn cs) ≡ drop turn cs = take_all n (drop turn cs) (omega (arith, length-drop turn cs)) in
    let first : slice_get (filter p (drop turn cs)) 0 ≡ at_place cs (find q behind) =
    ap (λ xs. slice_get (filter p xs) 0) (sym whole) ∙ first-from q p cs n turn agrees (omega (arith, le)) in
    let second : slice_get (filter p (take turn cs)) 0 ≡ at_place cs (find q before) = first-from q p cs turn 0 agrees (omega (arith, le)) in
    ap (λ xs. slice_get xs 0) (filter-append p (drop turn cs) (take turn cs))
    ∙ (shown-either (filter p (drop turn cs)) (filter p (take turn cs))
    ∙ (rw (first, second) (at-either cs (find q behind) (find q before) (λ i h. omega (arith, le, found-from q n turn i h)))
    ∙ ap (at_place cs) (sym (find-append q behind before))))

found-round : (q : ℕ → Bool) (turn n i : ℕ) → turn ≤ n → find q (in_turn turn n) ≡ Some i → i < n
found-round q turn n i le h = split (find q behind) refl where
  behind : List ℕ
  behind = range_with_len turn (n - turn)

  before : List ℕ
  before = range_with_len 0 turn

  split : (o : Option ℕ) → find q behind ≡ o → i < n
  split (Some j) here =
      let e : Some j ≡ Some i = sym (find-either q behind before j here) ∙ h in
      let same : j ≡ i = cc in
      omega (arith, le, same, found-from q (n - turn) turn j here)
  split None away = omega (arith, le, found-from q turn 0 i (sym (find-second q behind before away) ∙ h))

-- of children that pass, and then all of them
chosen-either : (xs ys cs : List ℕ) (turn : ℕ) (o : Option ℕ) → slice_get xs 0 ≡ at_place cs o → slice_get ys 0 ≡ slice_get cs turn
    → ((i : ℕ) → o ≡ Some i → i < length cs) → slice_get (xs ++ ys) 0 ≡ chosen cs turn (choice o)
chosen-either xs ys cs turn None first all within = shown-either xs ys ∙ (rw first all)
chosen-either xs ys cs turn (Some i) first all within = shown-either xs ys ∙ (rw (first, slice_get-get_or cs i 0 (within i refl)) refl)

-- THE CHOICE BY HOW MANY ARE QUEUED AT EACH CHILD, AND HOW MANY ITS QUEUE TAKES
agrees-mapped : (f g : ℕ → ℕ) (cs : List ℕ) → Agrees (has_room (map f cs) (map g cs)) (λ v. nat_lt (f v) (g v)) cs
agrees-mapped f g cs i c at =
    let lt = slice_get_within cs i c at in
    let is : get_or cs i 0 ≡ c = get_or_from_slice_get cs i c 0 at in
    rw (get_or-map f cs i 0 0 lt, get_or-map g cs i 0 0 lt, is) refl

-- the first in turn that has room, or the first in turn where none has
pub chosen-first : (f g : ℕ → ℕ) (cs queued sizes : List ℕ) (turn : ℕ) (r : Choice) → queued ≡ map f cs → sizes ≡ map g cs → turn < length cs
    → r ≡ choice (find (has_room queued sizes) (in_turn turn (length queued)))
    → slice_get (filter (λ v. nat_lt (f v) (g v)) (drop turn cs ++ take turn cs) ++ (drop turn cs ++ take turn cs)) 0 ≡ chosen cs turn r
chosen-first f g cs queued sizes turn r counts takes lt is =
    let p : ℕ → Bool = λ v. nat_lt (f v) (g v) in
    let q : ℕ → Bool = has_room (map f cs) (map g cs) in
    let round : List ℕ = drop turn cs ++ take turn cs in
    let found = first-round q p cs turn (agrees-mapped f g cs) (omega (arith, lt)) in
    let start : slice_get round 0 ≡ slice_get cs turn = rw (drop-cons cs turn 0) (sym (slice_get-get_or cs turn 0 lt)) in
    let within = λ (i : ℕ). found-round q turn (length cs) i (omega (arith, lt)) in
    rw (is, counts, takes, length-map cs f) (chosen-either (filter p round) round cs turn (find q (in_turn turn (length cs))) found start within)

-- it gives to one of them
given : (o : Option ℕ) (i : ℕ) → choice o ≡ Give i → o ≡ Some i
given (Some j) i h = cc
given None i h = cc

pub given-within : (f : ℕ → ℕ) (cs queued sizes : List ℕ) (turn i : ℕ) (r : Choice) → queued ≡ map f cs → turn < length cs
    → r ≡ choice (find (has_room queued sizes) (in_turn turn (length queued))) → r ≡ Give i → i < length cs
given-within f cs queued sizes turn i r counts lt is h =
    let q : ℕ → Bool = has_room queued sizes in
    let n : length queued ≡ length cs = ap length counts ∙ length-map cs f in
    let gives : choice (find q (in_turn turn (length queued))) ≡ Give i = sym is ∙ h in
    found-round q turn (length cs) i (omega (arith, lt)) (given _ i (ap (λ m. choice (find q (in_turn turn m))) (sym n) ∙ gives))
