-- What is called for at a node goes out of that node, and no more of it than waits there.
use Rattle.std.proofs.Common.{◌≡◌, ◌≢◌, ℕ, ◌+◌, ◌≤◌, Bool, true, false, ◌&&◌, cond, eqb, ltb, List, [], ◌∷◌, ◌++◌, map, length, refl, sym, ap, ◌∙◌, arith}
use Rattle.std.proofs.Common.{ℤ, inl, inr}
use Rattle.std.specs.List.{list_all, sum_by}
use Rattle.std.proofs.lemmas.Bool.{and_parts, and_from, false≢true, eq-eqb, ne_eqb, eqb-true, cases_Bool}
use Rattle.std.proofs.lemmas.List.Sums.{sum_by-cons}
use Rattle.std.proofs.lemmas.List.Sorted.{sum_by-IsPermutation}
use Rattle.nd_base.specs.declared.frame.FrameName.{FrameName}
use Rattle.trig_window.specs.Windows.{is_trigger, is_passed}
use Rattle.flow_journal.specs.declared.entry.Entry.{Entry}
use Rattle.flow_journal.specs.declared.entry.Entry.TheVariants.{Emit, SortDrop, Put}
use Rattle.flow_journal.specs.declared.entry.Why.{Why}
use Rattle.flow_journal.specs.declared.entry.Why.TheVariants.{Plain, Step, Late, Flush, Ring, Now}
use Rattle.flow_journal.specs.Setting.{Setting, Work, Makes, Passes, Watches, Saves, node, is_sorted, id_at}
use Rattle.flow_journal.specs.Pasts.{Past, frame}
use Rattle.flow_journal.specs.Waiting.{Waiting, waiting, least_first}
use Rattle.flow_journal.specs.Ended.{now}
use Rattle.flow_journal.specs.Puts.{firings}
use Rattle.flow_journal.specs.Rings.{ring}
use Rattle.queue_sort.specs.Sorting.{keeps_step}
use Rattle.flow_journal.specs.Breaks.{prev}
use Rattle.flow_journal.specs.Following.{emit, goes_out, look, sorted_result, watched_result, result}
use Rattle.flow_journal.proofs.Leasts.{least_laws}
use Rattle.flow_journal.proofs.EntryCounts.{count, bit, count-cons, count-append, emits_at, arrives_at}

-- the entry is an emission or a drop of v, of an array that passes the test
abbrev pub out_of : ℕ → (FrameName → Bool) → Entry → Bool
out_of v t (Emit w m k why) = eqb w v && t (frame m k)
out_of v t (SortDrop w m k) = eqb w v && t (frame m k)
out_of v t _ = false

-- the entry is an emission or a drop of v
abbrev pub is_out_at : ℕ → Entry → Bool
is_out_at v (Emit w m k why) = eqb w v
is_out_at v (SortDrop w m k) = eqb w v
is_out_at v _ = false

abbrev pub AllOutAt : ℕ → List Entry → Type 0
AllOutAt v ds = list_all (is_out_at v) ds ≡ true

here : (v : ℕ) → eqb v v ≡ true
here v = eq-eqb v v refl

pub all-append : (p : Entry → Bool) (xs ys : List Entry) → list_all p xs ≡ true → list_all p ys ≡ true → list_all p (xs ++ ys) ≡ true
all-append p [] ys h g = g
all-append p (x ∷ xs) ys h g = let q = and_parts (p x) (list_all p xs) h in and_from _ _ q.0 (all-append p xs ys q.1 g)

pub goes_out-at : (s : Setting) (v : ℕ) (before : ℤ) (now : ℕ) (ws : List Waiting) → AllOutAt v (goes_out s v before now ws)
goes_out-at s v before now [] = refl
goes_out-at s v before now (w ∷ ws) =
    let more = goes_out-at s v (id_at s w.array.index) now ws in
    elim (keeps_step before (id_at s w.array.index)) as (λ b. list_all (is_out_at v) (cond b (emit v Step w.array ∷ goes_out s v (id_at s w.array.index) now ws)
    (cond (ltb (w.tick + (node s v).sort_time) now) (emit v Late w.array ∷ goes_out s v (id_at s w.array.index) now ws) [])) ≡ true) [
      | true ↦ and_from _ _ (here v) more
      | false ↦
          elim (ltb (w.tick + (node s v).sort_time) now) as (λ b. list_all (is_out_at v)
          (cond b (emit v Late w.array ∷ goes_out s v (id_at s w.array.index) now ws) []) ≡ true) [
            | true ↦ and_from _ _ (here v) more
            | false ↦ refl
          ]
    ]

pub emits-at : (v : ℕ) (why : Why) (xs : List FrameName) → AllOutAt v (map (emit v why) xs)
emits-at v why [] = refl
emits-at v why (x ∷ xs) = and_from _ _ (here v) (emits-at v why xs)

pub flush-at : (v : ℕ) (ws : List Waiting) → AllOutAt v (map (λ (w : Waiting). emit v Flush w.array) ws)
flush-at v [] = refl
flush-at v (w ∷ ws) = and_from _ _ (here v) (flush-at v ws)

pub sorted_result-at : (s : Setting) (v : ℕ) (a : FrameName) (before : List Waiting) (P : Past) → AllOutAt v (sorted_result s v a before P)
sorted_result-at s v a before P =
    elim (cases_Bool (keeps_step (prev s v P) (id_at s a.index))) [
      | inl step ↦ rw step (and_from _ _ (here v) (goes_out-at s v _ _ _))
      | inr out ↦ elim (cases_Bool (eqb (length before) (node s v).sort)) [
        | inl full ↦ rw (out, full) (and_from _ _ (here v) (goes_out-at s v _ _ _))
        | inr room ↦ rw (out, room) (goes_out-at s v _ _ _)
      ]
    ]

watched_result-at : (pre post preset v : ℕ) (a : FrameName) (f : Bool) (kept : List FrameName) (flags : List Bool)
    → AllOutAt v (watched_result pre post preset v a f kept flags)
watched_result-at pre post preset v a f kept flags =
    all-append (is_out_at v) (cond (is_trigger post preset (flags ++ f ∷ []) (length flags)) (map (emit v Ring) kept) [])
    (cond (is_passed pre post preset (flags ++ f ∷ []) (length flags)) (emit v Now a ∷ []) [])
    (elim (is_trigger post preset (flags ++ f ∷ []) (length flags)) as (λ b. AllOutAt v (cond b (map (emit v Ring) kept) [])) [
      | true ↦ emits-at v Ring kept
      | false ↦ refl
    ])
    (elim (is_passed pre post preset (flags ++ f ∷ []) (length flags)) as (λ b. AllOutAt v (cond b (emit v Now a ∷ []) [])) [
      | true ↦ and_from _ _ (here v) refl
      | false ↦ refl
    ])

sorted-or-plain-at : (b : Bool) (v : ℕ) (a : FrameName) (ds : List Entry) → AllOutAt v ds → AllOutAt v (cond b ds (emit v Plain a ∷ []))
sorted-or-plain-at true v a ds h = h
sorted-or-plain-at false v a ds h = and_from _ _ (here v) refl

pub result-at : (s : Setting) (v : ℕ) (a : FrameName) (f : Bool) (P : Past) (w : Work) → AllOutAt v (result s v a f P w)
result-at s v a f P (Watches pre post preset) = watched_result-at pre post preset v a f (ring s v P) (firings v P)
result-at s v a f P (Saves whole count) = refl
result-at s v a f P Makes = sorted-or-plain-at (is_sorted s v) v a _ (sorted_result-at s v a (waiting s v P) (Put 0 v a.maker a.index f ∷ P))
result-at s v a f P (Passes d) = sorted-or-plain-at (is_sorted s v) v a _ (sorted_result-at s v a (waiting s v P) (Put 0 v a.maker a.index f ∷ P))

-- what goes out of v is no offer
out_no_offer : (v c k : ℕ) (e : Entry) → is_out_at v e ≡ true → arrives_at c k e ≡ false
out_no_offer v c k (Emit w m i why) h = refl
out_no_offer v c k (SortDrop w m i) h = refl
out_no_offer v c k _ h = absurd (false≢true h)

pub no_offers : (v c k : ℕ) (ds : List Entry) → AllOutAt v ds → count (arrives_at c k) ds ≡ 0
no_offers v c k [] h = refl
no_offers v c k (d ∷ ds) h =
    let p = and_parts (is_out_at v d) (list_all (is_out_at v) ds) h in
    omega (arith, count-cons (arrives_at c k) d ds, ap bit (out_no_offer v c k d p.0), no_offers v c k ds p.1)

-- and goes out of no other node
out_elsewhere : (v u : ℕ) (t : FrameName → Bool) (e : Entry) → v ≢ u → is_out_at v e ≡ true → (out_of u t e ≡ false)
out_elsewhere v u t (Emit w m i why) ne h = let is : w ≡ v = eqb-true w v h in let other : w ≢ u = λ e. ne (sym is ∙ e) in rw (ne_eqb w u other) refl
out_elsewhere v u t (SortDrop w m i) ne h = let is : w ≡ v = eqb-true w v h in let other : w ≢ u = λ e. ne (sym is ∙ e) in rw (ne_eqb w u other) refl
out_elsewhere v u t _ ne h = absurd (false≢true h)

pub none_elsewhere : (v u : ℕ) (t : FrameName → Bool) (ds : List Entry) → v ≢ u → AllOutAt v ds → count (out_of u t) ds ≡ 0
none_elsewhere v u t [] ne h = refl
none_elsewhere v u t (d ∷ ds) ne h =
    let p = and_parts (is_out_at v d) (list_all (is_out_at v) ds) h in
    omega (arith, count-cons (out_of u t) d ds, ap bit (out_elsewhere v u t d ne p.0), none_elsewhere v u t ds ne p.1)

-- emissions are among what goes out
abbrev pub of_index : ℕ → FrameName → Bool
of_index k a = eqb a.index k

pub emits-le : (v k : ℕ) (ds : List Entry) → count (emits_at v k) ds ≤ count (out_of v (of_index k)) ds
emits-le v k [] = omega arith
emits-le v k (Emit w m i why ∷ ds) =
    omega (arith, emits-le v k ds, count-cons (emits_at v k) (Emit w m i why) ds, count-cons (out_of v (of_index k)) (Emit w m i why) ds)
emits-le v k (SortDrop w m i ∷ ds) = omega (arith, emits-le v k ds, count-cons (out_of v (of_index k)) (SortDrop w m i) ds)
emits-le v k (_ ∷ ds) = emits-le v k ds

-- WAITING

abbrev pub waits : (FrameName → Bool) → Waiting → Bool
waits t w = t w.array

-- a count is a sum of ones
count-sum : {X : Type 0} (q : X → Bool) (xs : List X) → count q xs ≡ sum_by (λ x. bit (q x)) xs
count-sum q [] = refl
count-sum q (x ∷ xs) = count-cons q x xs ∙ (ap (λ n. bit (q x) + n) (count-sum q xs) ∙ sym (sum_by-cons (λ y. bit (q y)) x xs))

-- so it is the same of what waits in any order
pub count-least_first : (s : Setting) (q : Waiting → Bool) (ws : List Waiting) → count q (least_first s ws) ≡ count q ws
count-least_first s q ws =
    let ones = λ (w : Waiting). bit (q w) in
    count-sum q (least_first s ws) ∙ (sum_by-IsPermutation ones ws (least_first s ws) (least_laws.same_ones s ws) ∙ sym (count-sum q ws))

same_out : (v : ℕ) (t : FrameName → Bool) (b : Bool) → bit (eqb v v && b) ≡ bit b
same_out v t b = rw (here v) refl

pub count-goes_out : (s : Setting) (v : ℕ) (t : FrameName → Bool) (before : ℤ) (now : ℕ) (ws : List Waiting)
    → count (out_of v t) (goes_out s v before now ws) ≤ count (waits t) ws
count-goes_out s v t before now [] = omega arith
count-goes_out s v t before now (w ∷ ws) =
    let rest : List Entry = goes_out s v (id_at s w.array.index) now ws in
    let more = count-goes_out s v t (id_at s w.array.index) now ws in
    let one = count-cons (waits t) w ws in
    elim (keeps_step before (id_at s w.array.index)) as (λ b. count (out_of v t)
    (cond b (emit v Step w.array ∷ rest) (cond (ltb (w.tick + (node s v).sort_time) now) (emit v Late w.array ∷ rest) [])) ≤ count (waits t) (w ∷ ws)) [
      | true ↦ omega (arith, more, one, count-cons (out_of v t) (emit v Step w.array) rest, same_out v t (t w.array))
      | false ↦
          elim (ltb (w.tick + (node s v).sort_time) now) as (λ b. count (out_of v t) (cond b (emit v Late w.array ∷ rest) []) ≤ count (waits t) (w ∷ ws)) [
            | true ↦ omega (arith, more, one, count-cons (out_of v t) (emit v Late w.array) rest, same_out v t (t w.array))
            | false ↦ omega arith
          ]
    ]

pub count-look : (s : Setting) (v : ℕ) (t : FrameName → Bool) (P : Past) → count (out_of v t) (look s v P) ≤ count (waits t) (waiting s v P)
count-look s v t P = omega (arith, count-goes_out s v t (prev s v P) (now P) (least_first s (waiting s v P)), count-least_first s (waits t) (waiting s v P))

pub count-flush : (v : ℕ) (t : FrameName → Bool) (ws : List Waiting) → count (out_of v t) (map (λ (w : Waiting). emit v Flush w.array) ws) ≡ count (waits t) ws
count-flush v t [] = refl
count-flush v t (w ∷ ws) =
    omega (
      arith,
      count-flush v t ws,
      count-cons (out_of v t) (emit v Flush w.array) (map (λ (x : Waiting). emit v Flush x.array) ws),
      count-cons (waits t) w ws,
      same_out v t (t w.array),
    )

-- of the list with the result, no more goes out or is dropped than there is
pub count-sorted_result : (s : Setting) (v : ℕ) (t : FrameName → Bool) (a : FrameName) (tick : ℕ) (before : List Waiting) (P : Past)
    → waiting s v P ≡ before ++ record { array = a; tick = tick } ∷ [] → count (out_of v t) (sorted_result s v a before P) ≤ count (waits t) (waiting s v P)
count-sorted_result s v t a tick before P is =
    let w : Waiting = record { array = a; tick = tick } in
    let all : count (waits t) (waiting s v P) ≡ count (waits t) before + bit (t a) =
    ap (count (waits t)) is ∙ (count-append (waits t) before (w ∷ []) ∙ omega (arith, count-cons (waits t) w [])) in
    elim (cases_Bool (keeps_step (prev s v P) (id_at s a.index))) [
      | inl step ↦
          rw step (omega (
            arith,
            all,
            count-cons (out_of v t) (emit v Step a) (goes_out s v (id_at s a.index) (now P) (least_first s before)),
            same_out v t (t a),
            count-goes_out s v t (id_at s a.index) (now P) (least_first s before),
            count-least_first s (waits t) before,
          ))
      | inr out ↦ elim (cases_Bool (eqb (length before) (node s v).sort)) [
        | inl full ↦
            rw (out, full) (omega (
              arith,
              all,
              count-cons (out_of v t) (SortDrop v a.maker a.index) (goes_out s v (prev s v P) (now P) (least_first s before)),
              same_out v t (t a),
              count-goes_out s v t (prev s v P) (now P) (least_first s before),
              count-least_first s (waits t) before,
            ))
        | inr room ↦ rw (out, room) (count-look s v t P)
      ]
    ]
