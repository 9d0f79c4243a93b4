-- What any list of calls on a sort list comes to, by induction on the list.
use Rattle.std.proofs.Common.{◌≡◌, ℕ, ◌+◌, ◌-◌, ◌^◌, ◌≤◌, min, Bool, true, false, ◌||◌, if◌then◌else◌, is_some, List, [], ◌∷◌, ◌++◌, map, take, drop, ℤ}
use Rattle.std.proofs.Common.{◌≤ℤ◌, refl, sym, ap, ◌∙◌, append_assoc, zero-add, arith}
use Rattle.std.specs.List.{All}
use Rattle.std.specs.Ordering.{int_eq}
use Rattle.std.proofs.lemmas.Int.{ints}
use Rattle.std.proofs.lemmas.List.{append-nil, take-append-drop}
use Rattle.std.proofs.lemmas.List.Elements.{All-nil, All-cons, filter-append}
use Rattle.queue_sort.specs.declared.sort_lists.Waiting.{Waiting}
use Rattle.queue_sort.specs.ById.{AreById, with_id}
use Rattle.queue_sort.specs.Sorting.{SortState, id_of, keeps_step, is_full, one_more, placed, emitted, without_least, let_out}
use Rattle.queue_sort.specs.DueAnswers.{due_answer}
use Rattle.queue_sort.specs.Runs.{Call, Put, Look, Flush, after, listed, let_go, ids_out, after_all, all_listed, all_let_go, all_ids_out, breaks, last_out}
use Rattle.queue_sort.specs.Runs.{fresh, Sorts}
use Rattle.queue_sort.proofs.ById.{AllPairs-head, AllPairs-tail, AreById-placed, with_id-placed}

-- what holds of both holds of either
both : {A : Type 0} (P : A → Type 0) (b : Bool) (x y : A) → P x → P y → P (if b then x else y)
both P true x y here there = here
both P false x y here there = there

-- what waits after the least one went out
waiting-without_least : {T : Type 0} (s : SortState T) (ws : List (Waiting T)) → s.waiting ≡ ws → (without_least s ws).waiting ≡ drop 1 ws
waiting-without_least s [] is = is
waiting-without_least s (w ∷ ws) is = refl

waiting-let_out : {T : Type 0} (s : SortState T) → (let_out s).waiting ≡ drop 1 s.waiting
waiting-let_out s = waiting-without_least s s.waiting refl

by_id-rest : {T : Type 0} (ws : List (Waiting T)) → AreById id_of ws → AreById id_of (drop 1 ws)
by_id-rest [] up = up
by_id-rest {T} (w ∷ ws) up = AllPairs-tail (λ (v w : Waiting T). v.id ≤ℤ w.id) w ws up

-- a call keeps the order
by_id-after : {T : Type 0} (s : SortState T) (c : Call T) → AreById id_of s.waiting → AreById id_of (after s c).waiting
by_id-after {T} s (Put w) up =
    let P : SortState T → Type 0 = λ t. AreById id_of t.waiting in
    both P (keeps_step s.last w.id) (emitted s w.id) (if is_full s then s else record s { waiting = placed w s.waiting }) up
    (both P (is_full s) s (record s { waiting = placed w s.waiting }) up (AreById-placed id_of w s.waiting up))
by_id-after {T} s (Look now sort_time) up =
    both (λ (t : SortState T). AreById id_of t.waiting) (is_some (due_answer s now sort_time)) (let_out s) s
    (rw (waiting-let_out s) (by_id-rest s.waiting up)) up
by_id-after s Flush up = rw (waiting-let_out s) (by_id-rest s.waiting up)

-- the first and the rest are all
let_out_in_turn : {T : Type 0} (id : ℤ) (s : SortState T)
    → with_id id_of id (take 1 s.waiting) ++ with_id id_of id (let_out s).waiting ≡ with_id id_of id s.waiting
let_out_in_turn {T} id s = rw (waiting-let_out s) (sym (filter-append (λ (v : Waiting T). int_eq v.id id) (take 1 s.waiting) (drop 1 s.waiting))
    ∙ ap (with_id id_of id) (take-append-drop 1 s.waiting))

put_in_turn : {T : Type 0} (id : ℤ) (s : SortState T) (w : Waiting T) (steps full : Bool)
    → with_id id_of id (if steps then emitted s w.id else if full then s else record s { waiting = placed w s.waiting }).waiting
    ≡ with_id id_of id s.waiting ++ with_id id_of id (if steps || full then [] else w ∷ [])
put_in_turn id s w true full = sym (append-nil (with_id id_of id s.waiting))
put_in_turn id s w false true = sym (append-nil (with_id id_of id s.waiting))
put_in_turn id s w false false = with_id-placed id_of id w s.waiting

look_in_turn : {T : Type 0} (id : ℤ) (s : SortState T) (out : Bool)
    → with_id id_of id (if out then take 1 s.waiting else []) ++ with_id id_of id (if out then let_out s else s).waiting ≡ with_id id_of id s.waiting
look_in_turn id s true = let_out_in_turn id s
look_in_turn id s false = refl

-- at each id a call adds what it lists at the end, and takes what it lets go from the front
in_turn-after : {T : Type 0} (id : ℤ) (s : SortState T) (c : Call T)
    → with_id id_of id (let_go s c) ++ with_id id_of id (after s c).waiting ≡ with_id id_of id s.waiting ++ with_id id_of id (listed s c)
in_turn-after id s (Put w) = put_in_turn id s w (keeps_step s.last w.id) (is_full s)
in_turn-after id s (Look now sort_time) = look_in_turn id s (is_some (due_answer s now sort_time)) ∙ sym (append-nil (with_id id_of id s.waiting))
in_turn-after id s Flush = let_out_in_turn id s ∙ sym (append-nil (with_id id_of id s.waiting))

module _ {T : Type 0} where
  -- a list of calls keeps the order
  pub by_id-all : (s : SortState T) (calls : List (Call T)) → AreById id_of s.waiting → AreById id_of (after_all s calls).waiting
  by_id-all s [] up = up
  by_id-all s (c ∷ calls) up = by_id-all (after s c) calls (by_id-after s c up)

  -- at each id, what left and then what waits are what waited and then what was listed
  pub in_turn-all : (id : ℤ) (s : SortState T) (calls : List (Call T))
      → with_id id_of id (all_let_go s calls) ++ with_id id_of id (after_all s calls).waiting ≡ with_id id_of id s.waiting
      ++ with_id id_of id (all_listed s calls)
  in_turn-all id s [] = sym (append-nil (with_id id_of id s.waiting))
  in_turn-all id s (c ∷ calls) =
      let p = λ (v : Waiting T). int_eq v.id id in
      let t = after s c in
      rw (filter-append p (let_go s c) (all_let_go t calls), filter-append p (listed s c) (all_listed t calls))
      (append_assoc (with_id id_of id (let_go s c)) (with_id id_of id (all_let_go t calls)) (with_id id_of id (after_all t calls).waiting)
      ∙ ap (λ ws. with_id id_of id (let_go s c) ++ ws) (in_turn-all id t calls)
      ∙ sym (append_assoc (with_id id_of id (let_go s c)) (with_id id_of id t.waiting) (with_id id_of id (all_listed t calls)))
      ∙ ap (λ ws. ws ++ with_id id_of id (all_listed t calls)) (in_turn-after id s c)
      ∙ append_assoc (with_id id_of id s.waiting) (with_id id_of id (listed s c)) (with_id id_of id (all_listed t calls)))

  -- the first in order has the least id
  least-first : (ws : List (Waiting T)) → AreById id_of ws → All (λ w. All (λ v. w.id ≤ℤ v.id) ws) (take 1 ws)
  least-first [] up = All-nil (λ (w : Waiting T). All (λ (v : Waiting T). w.id ≤ℤ v.id) [])
  least-first (w ∷ ws) up =
      All-cons (λ (u : Waiting T). All (λ (v : Waiting T). u.id ≤ℤ v.id) (w ∷ ws)) w []
      (All-cons (λ (v : Waiting T). w.id ≤ℤ v.id) w ws (omega (arith, ints)) (AllPairs-head (λ (u v : Waiting T). u.id ≤ℤ v.id) w ws up))
      (All-nil (λ (u : Waiting T). All (λ (v : Waiting T). u.id ≤ℤ v.id) (w ∷ ws)))

  -- what a call lets go has the least id
  pub least-let_go : (s : SortState T) → AreById id_of s.waiting → (c : Call T) → All (λ w. All (λ v. w.id ≤ℤ v.id) s.waiting) (let_go s c)
  least-let_go s up (Put w) = All-nil (λ (u : Waiting T). All (λ (v : Waiting T). u.id ≤ℤ v.id) s.waiting)
  least-let_go s up (Look now sort_time) =
      both (All (λ (u : Waiting T). All (λ (v : Waiting T). u.id ≤ℤ v.id) s.waiting)) (is_some (due_answer s now sort_time)) (take 1 s.waiting) []
      (least-first s.waiting up) (All-nil (λ (u : Waiting T). All (λ (v : Waiting T). u.id ≤ℤ v.id) s.waiting))
  least-let_go s up Flush = least-first s.waiting up

-- the count and the previous id after these ids went out
record GoesOn {T : Type 0} (s t : SortState T) (ids : List ℤ) : Type 0 where
  last : t.last ≡ last_out s.last ids
  count : t.disordered ≡ min (s.disordered + breaks s.last ids) (2 ^ 64 - 1)

breaks-append : (last : ℤ) (xs ys : List ℤ) → breaks last (xs ++ ys) ≡ breaks last xs + breaks (last_out last xs) ys
breaks-append last [] ys = sym (zero-add (breaks last ys))
breaks-append last (x ∷ xs) ys = let rest = breaks-append x xs ys in omega arith

counted_one : (steps : Bool) (n : ℕ) → n ≤ 2 ^ 64 - 1 → (if steps then n else one_more n) ≡ min (n + ((if steps then 0 else 1) + 0)) (2 ^ 64 - 1)
counted_one true n fits = omega arith
counted_one false n fits = omega arith

none_out : {T : Type 0} (s : SortState T) (ws : List (Waiting T)) → s.disordered ≤ 2 ^ 64 - 1 → GoesOn s (record s { waiting = ws }) []
none_out s ws fits = record { last = refl; count = omega arith }

one_out : {T : Type 0} (s : SortState T) (id : ℤ) (ws : List (Waiting T)) → s.disordered ≤ 2 ^ 64 - 1
    → GoesOn s (record (emitted s id) { waiting = ws }) (id ∷ [])
one_out s id ws fits = record { last = refl; count = counted_one (keeps_step s.last id) s.disordered fits }

put_goes_on : {T : Type 0} (s : SortState T) (w : Waiting T) (steps full : Bool) → s.disordered ≤ 2 ^ 64 - 1
    → GoesOn s (if steps then emitted s w.id else if full then s else record s { waiting = placed w s.waiting }) (if steps then w.id ∷ [] else [])
put_goes_on s w true full fits = one_out s w.id s.waiting fits
put_goes_on s w false true fits = none_out s s.waiting fits
put_goes_on s w false false fits = none_out s (placed w s.waiting) fits

let_out_goes_on : {T : Type 0} (s : SortState T) (ws : List (Waiting T)) → s.disordered ≤ 2 ^ 64 - 1
    → GoesOn s (without_least s ws) (map (λ w. w.id) (take 1 ws))
let_out_goes_on s [] fits = none_out s s.waiting fits
let_out_goes_on s (w ∷ ws) fits = one_out s w.id ws fits

look_goes_on : {T : Type 0} (s : SortState T) (out : Bool) → s.disordered ≤ 2 ^ 64 - 1
    → GoesOn s (if out then let_out s else s) (map (λ w. w.id) (if out then take 1 s.waiting else []))
look_goes_on s true fits = let_out_goes_on s s.waiting fits
look_goes_on s false fits = none_out s s.waiting fits

goes_on-after : {T : Type 0} (s : SortState T) (c : Call T) → s.disordered ≤ 2 ^ 64 - 1 → GoesOn s (after s c) (ids_out s c)
goes_on-after s (Put w) fits = put_goes_on s w (keeps_step s.last w.id) (is_full s) fits
goes_on-after s (Look now sort_time) fits = look_goes_on s (is_some (due_answer s now sort_time)) fits
goes_on-after s Flush fits = let_out_goes_on s s.waiting fits

last_out-append : (last : ℤ) (xs ys : List ℤ) → last_out last (xs ++ ys) ≡ last_out (last_out last xs) ys
last_out-append last [] ys = refl
last_out-append last (x ∷ xs) ys = last_out-append x xs ys

-- over a list of calls
goes_on-all : {T : Type 0} (s : SortState T) (calls : List (Call T)) → s.disordered ≤ 2 ^ 64 - 1 → GoesOn s (after_all s calls) (all_ids_out s calls)
goes_on-all s [] fits = none_out s s.waiting fits
goes_on-all s (c ∷ calls) fits =
    let t = after s c in
    let ids = ids_out s c in
    let more = all_ids_out t calls in
    let one : GoesOn s t ids = goes_on-after s c fits in
    let fits_too : t.disordered ≤ 2 ^ 64 - 1 = omega (arith, one.count) in
    let rest = goes_on-all t calls fits_too in
    let joined = breaks-append s.last ids more in
    let same : breaks t.last more ≡ breaks (last_out s.last ids) more = ap (λ last. breaks last more) one.last in
    record {
      last = rest.last ∙ ap (λ last. last_out last more) one.last ∙ sym (last_out-append s.last ids more);
      count = omega (arith, one.count, rest.count, joined, same);
    }

-- any list of calls on a fresh list
pub sorts : {T : Type 0} (size : ℕ) (last : ℤ) (calls : List (Call T)) → Sorts size last calls
sorts {T} size last calls =
    let s : SortState T = fresh size last in
    let up : AreById id_of (after_all s calls).waiting = by_id-all s calls (λ i j d lt below. absurd (omega arith)) in
    let on = goes_on-all s calls (omega arith) in
    record {
      by_id = up;
      in_turn = λ id. in_turn-all id s calls;
      least = least-let_go (after_all s calls) up;
      previous = on.last;
      counted = on.count ∙ ap (λ n. min n (2 ^ 64 - 1)) (zero-add (breaks last (all_ids_out s calls)));
    }
