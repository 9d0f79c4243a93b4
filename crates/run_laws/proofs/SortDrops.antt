-- A result is dropped only where as many others wait as the sort list takes.
use Rattle.std.proofs.Common.{◌≡◌, ℕ, Bool, true, false, cond, eqb, List, [], ◌∷◌, ◌++◌, map, drop, length, refl, sym, ap, ◌∙◌, subst, arith, inl, inr}
use Rattle.std.proofs.lemmas.Bool.{and_parts, false≢true, eqb-true, cases_Bool}
use Rattle.std.proofs.lemmas.List.{append-nil}
use Rattle.nd_base.specs.declared.frame.FrameName.{FrameName}
use Rattle.trig_window.specs.Windows.{is_trigger, is_passed}
use Rattle.flow_journal.specs.declared.entry.Entry.{Entry}
use Rattle.flow_journal.specs.declared.entry.Entry.TheVariants.{Tick, Emit, Put, SortDrop, Settle}
use Rattle.flow_journal.specs.declared.entry.Why.TheVariants.{Plain, Step, Flush}
use Rattle.flow_journal.specs.Setting.{Setting, Work, Makes, Passes, Watches, Saves, node, id_at, is_sorted, node_numbers}
use Rattle.flow_journal.specs.Turns.{offered_to}
use Rattle.flow_journal.specs.Pasts.{Past, frame}
use Rattle.flow_journal.specs.Ended.{now}
use Rattle.flow_journal.specs.Puts.{firings}
use Rattle.flow_journal.specs.Rings.{ring}
use Rattle.flow_journal.specs.Waiting.{Waiting, waiting, least_first}
use Rattle.queue_sort.specs.Sorting.{keeps_step}
use Rattle.flow_journal.specs.Breaks.{prev}
use Rattle.flow_journal.specs.Following.{emit, goes_out, look, sorted_result, result, calls_for, owed}
use Rattle.flow_journal.specs.Histories.{is_legal}
use Rattle.flow_journal.proofs.Histories.{legal-front}
use Rattle.flow_journal.proofs.Changes.{put_laws}
use Rattle.flow_journal.proofs.EntryCounts.{count, bit, count-cons, count-append, owed-first, owed-answered, answers-by_SortDrop}
use Rattle.flow_journal.proofs.Emissions.{result-sorted}
use Rattle.run_laws.specs.CauseLaws.{FullListFacts}
use Rattle.run_laws.proofs.Calls.{Misses, MissesLooks, none-goes_out, none-looks, none-offers, none-watched, none-unsorted}

-- the entry is a drop of some sort list
abbrev pub is_any_sort_drop : Entry → Bool
is_any_sort_drop (SortDrop w m k) = true
is_any_sort_drop _ = false

-- A DROP IS OWED FIRST OR NOT AT ALL

misses : Misses is_any_sort_drop
misses = record { offers = λ a c. refl; plain = λ v a. refl; rings = λ v a. refl; nows = λ v a. refl }

misses_looks : MissesLooks is_any_sort_drop
misses_looks = record { step = λ v a. refl; late = λ v a. refl }

none-flush : (v : ℕ) (ws : List Waiting) → count is_any_sort_drop (map (λ (w : Waiting). emit v Flush w.array) ws) ≡ 0
none-flush v [] = refl
none-flush v (w ∷ ws) = none-flush v ws

none-rest : (ds : List Entry) → count is_any_sort_drop ds ≡ 0 → count is_any_sort_drop (drop 1 ds) ≡ 0
none-rest [] h = refl
none-rest (d ∷ ds) h = omega (arith, h, count-cons is_any_sort_drop d ds)

drop-after : (s : Setting) (v : ℕ) (a : FrameName) (before : List Waiting) (P : Past) → count is_any_sort_drop (drop 1 (sorted_result s v a before P)) ≡ 0
drop-after s v a before P =
    elim (cases_Bool (keeps_step (prev s v P) (id_at s a.index))) [
      | inl step ↦ rw step (none-goes_out is_any_sort_drop misses_looks s v (id_at s a.index) (now P) (least_first s before))
      | inr out ↦ elim (cases_Bool (eqb (length before) (node s v).sort)) [
        | inl full ↦ rw (out, full) (none-goes_out is_any_sort_drop misses_looks s v (prev s v P) (now P) (least_first s before))
        | inr room ↦
            rw (out, room) (none-rest (look s v P) (none-goes_out is_any_sort_drop misses_looks s v (prev s v P) (now P) (least_first s (waiting s v P))))
      ]
    ]

drop-first : (xs ys : List Entry) → count is_any_sort_drop (drop 1 xs) ≡ 0 → count is_any_sort_drop ys ≡ 0 → count is_any_sort_drop (drop 1 (xs ++ ys)) ≡ 0
drop-first [] [] h g = refl
drop-first [] (y ∷ ys) h g = omega (arith, g, count-cons is_any_sort_drop y ys)
drop-first (x ∷ xs) ys h g = omega (arith, h, g, count-append is_any_sort_drop xs ys)

none-both : (xs ys : List Entry) → count is_any_sort_drop xs ≡ 0 → count is_any_sort_drop ys ≡ 0 → count is_any_sort_drop (xs ++ ys) ≡ 0
none-both xs ys h g = omega (arith, h, g, count-append is_any_sort_drop xs ys)

either-after : (s : Setting) (w : ℕ) (a : FrameName) (f : Bool) (P : Past) (b : Bool)
    → count is_any_sort_drop (drop 1 (cond b (sorted_result s w a (waiting s w P) (Put 0 w a.maker a.index f ∷ P)) (emit w Plain a ∷ []))) ≡ 0
either-after s w a f P true = drop-after s w a (waiting s w P) (Put 0 w a.maker a.index f ∷ P)
either-after s w a f P false = refl

result-after : (s : Setting) (w : ℕ) (a : FrameName) (f : Bool) (P : Past) (k : Work) → count is_any_sort_drop (drop 1 (result s w a f P k)) ≡ 0
result-after s w a f P (Watches pre post preset) =
    none-rest (result s w a f P (Watches pre post preset)) (none-watched is_any_sort_drop misses w a (ring s w P)
    (is_trigger post preset (firings w P ++ f ∷ []) (length (firings w P))) (is_passed pre post preset (firings w P ++ f ∷ []) (length (firings w P))))
result-after s w a f P (Saves whole n) = refl
result-after s w a f P Makes = either-after s w a f P (is_sorted s w)
result-after s w a f P (Passes d) = either-after s w a f P (is_sorted s w)

-- behind the first that is owed there is no drop
none-behind : (s : Setting) (P : Past) → count is_any_sort_drop (drop 1 (owed s P)) ≡ 0
none-behind s [] = refl
none-behind s (Put r w m i f ∷ P) =
    drop-first (calls_for s P (Put r w m i f)) (drop 1 (owed s P)) (result-after s w (frame m i) f P (node s w).work) (none-behind s P)
none-behind s (Tick t ∷ P) =
    none-rest (owed s (Tick t ∷ P))
    (none-both (calls_for s P (Tick t)) (drop 1 (owed s P)) (none-looks is_any_sort_drop misses_looks s (Tick t ∷ P) (node_numbers s)) (none-behind s P))
none-behind s (Emit w m i why ∷ P) =
    none-rest (owed s (Emit w m i why ∷ P))
    (none-both (calls_for s P (Emit w m i why)) (drop 1 (owed s P)) (none-offers is_any_sort_drop misses (frame m i) (offered_to s P w)) (none-behind s P))
none-behind s (Settle r w ∷ P) =
    none-rest (owed s (Settle r w ∷ P))
    (none-both (calls_for s P (Settle r w)) (drop 1 (owed s P)) (none-flush w (least_first s (waiting s w P))) (none-behind s P))
none-behind s (e ∷ P) = none-rest (owed s (e ∷ P)) (none-behind s P)

-- A DROP COMES AT A FULL LIST

-- the drop is the first that the put of its result calls for
record IsForced (s : Setting) (P : Past) (v m k : ℕ) (w i j : ℕ) : Type 0 where
  node_is : w ≡ v
  maker : i ≡ m
  index : j ≡ k
  sorted : is_sorted s v ≡ true
  full : length (waiting s v P) ≡ (node s v).sort
  out : keeps_step (prev s v P) (id_at s k) ≡ false

forces : (s : Setting) (P : Past) (v m k w i j : ℕ) (f : Bool) (rest : List Entry)
    → result s w (frame i j) f P (node s w).work ≡ SortDrop v m k ∷ rest → IsForced s P v m k w i j
forces s P v m k w i j f rest calls =
    elim (cases_Bool (is_sorted s w)) [
      | inr plain ↦
          absurd (omega (
            arith,
            ap (count is_any_sort_drop) calls,
            none-unsorted is_any_sort_drop misses s w (frame i j) f P (node s w).work plain,
            count-cons is_any_sort_drop (SortDrop v m k) rest,
          ))
      | inl sorted ↦
          let whole : sorted_result s w (frame i j) (waiting s w P) (Put 0 w i j f ∷ P) ≡ SortDrop v m k ∷ rest =
          sym (result-sorted s w (frame i j) f P (node s w).work (and_parts _ _ sorted).0 sorted) ∙ calls in
          elim (cases_Bool (keeps_step (prev s w P) (id_at s j))) [
            | inl step ↦
                let never : Emit w i j Step ∷ goes_out s w (id_at s j) (now P) (least_first s (waiting s w P)) ≡ SortDrop v m k ∷ rest = rw step at whole in
                absurd (cc)
            | inr out ↦ elim (cases_Bool (eqb (length (waiting s w P)) (node s w).sort)) [
              | inl full ↦
                  let is : SortDrop w i j ∷ goes_out s w (prev s w P) (now P) (least_first s (waiting s w P)) ≡ SortDrop v m k ∷ rest =
                  rw (out, full) at whole in
                  let a : w ≡ v = cc in
                  let b : i ≡ m = cc in
                  let c : j ≡ k = cc in
                  record {
                    node_is = a;
                    maker = b;
                    index = c;
                    sorted = subst (λ (u : ℕ). is_sorted s u ≡ true) a sorted;
                    full = subst (λ (u : ℕ). length (waiting s u P) ≡ (node s u).sort) a (eqb-true (length (waiting s w P)) (node s w).sort full);
                    out =
                        subst (λ (u : ℕ). keeps_step (prev s v P) (id_at s u) ≡ false) c (subst (λ (u : ℕ). keeps_step (prev s u P) (id_at s j) ≡ false) a out);
                  }
              | inr room ↦
                  let looked : look s w (Put 0 w i j f ∷ P) ≡ SortDrop v m k ∷ rest = rw (out, room) at whole in
                  absurd (omega (
                    arith,
                    ap (count is_any_sort_drop) looked,
                    none-goes_out is_any_sort_drop misses_looks s w (prev s w P) (now P)
                        (least_first s (waiting s w (Put 0 w i j f ∷ P))),
                    count-cons is_any_sort_drop (SortDrop v m k) rest,
                  ))
            ]
          ]
    ]

full-facts : (s : Setting) (P : Past) (r v m k : ℕ) (f : Bool) → IsForced s P v m k v m k → FullListFacts s v m k (Put r v m k f ∷ P)
full-facts s P r v m k f is = record {
  sorted = is.sorted;
  others = waiting s v P;
  own = put_laws.waits s r v m k f P is.sorted;
  full = is.full;
  out_of_step = is.out;
}

no_put : (s : Setting) (v m k : ℕ) (e : Entry) (P : Past) → count is_any_sort_drop (calls_for s P e) ≡ 0
    → is_legal s (SortDrop v m k ∷ e ∷ P) ≡ true → FullListFacts s v m k (e ∷ P)
no_put s v m k e P none h =
    let a = owed-answered s (SortDrop v m k) (e ∷ P) refl h in
    let head : bit (is_any_sort_drop a.head) ≡ 1 = ap (λ (d : Entry). bit (is_any_sort_drop d)) (answers-by_SortDrop s (e ∷ P) v m k a.head a.answer) in
    absurd (omega (
      arith,
      none,
      none-behind s P,
      head,
      ap (count is_any_sort_drop) a.is,
      count-cons is_any_sort_drop a.head a.rest,
      count-append is_any_sort_drop (calls_for s P e) (drop 1 (owed s P)),
    ))

forced : (s : Setting) (P : Past) (v m k : ℕ) → is_legal s (SortDrop v m k ∷ P) ≡ true → FullListFacts s v m k P
forced s [] v m k h = absurd (false≢true h)
forced s (Put r w i j f ∷ P) v m k h =
    let legal : is_legal s (Put r w i j f ∷ P) ≡ true = (and_parts _ _ h).0 in
    let a = owed-answered s (SortDrop v m k) (Put r w i j f ∷ P) refl h in
    let none : owed s P ≡ [] = owed-first s (Put r w i j f) P (λ d. refl) legal in
    let alone : owed s (Put r w i j f ∷ P) ≡ calls_for s P (Put r w i j f) =
    ap (λ (ds : List Entry). calls_for s P (Put r w i j f) ++ drop 1 ds) none ∙ append-nil (calls_for s P (Put r w i j f)) in
    let calls : calls_for s P (Put r w i j f) ≡ SortDrop v m k ∷ a.rest =
    sym alone ∙ (a.is ∙ ap (λ (d : Entry). d ∷ a.rest) (answers-by_SortDrop s (Put r w i j f ∷ P) v m k a.head a.answer)) in
    let is = forces s P v m k w i j f a.rest calls in
    own is.node_is is.maker is.index is
  where
    own : w ≡ v → i ≡ m → j ≡ k → IsForced s P v m k w i j → FullListFacts s v m k (Put r w i j f ∷ P)
    own a b c is =
        let same_put : Put r v m k f ≡ Put r w i j f = cc in
        let ours : IsForced s P v m k v m k = record { node_is = refl; maker = refl; index = refl; sorted = is.sorted; full = is.full; out = is.out } in
        subst (λ (e : Entry). FullListFacts s v m k (e ∷ P)) same_put (full-facts s P r v m k f ours)
forced s (Tick t ∷ P) v m k h = no_put s v m k (Tick t) P (none-looks is_any_sort_drop misses_looks s (Tick t ∷ P) (node_numbers s)) h
forced s (Emit w i j why ∷ P) v m k h = no_put s v m k (Emit w i j why) P (none-offers is_any_sort_drop misses (frame i j) (offered_to s P w)) h
forced s (Settle r w ∷ P) v m k h = no_put s v m k (Settle r w) P (none-flush w (least_first s (waiting s w P))) h
forced s (e ∷ P) v m k h = no_put s v m k e P refl h

pub drop-forced : (s : Setting) (newer P : Past) (v m k : ℕ) → is_legal s (newer ++ SortDrop v m k ∷ P) ≡ true → FullListFacts s v m k P
drop-forced s newer P v m k h = forced s P v m k (legal-front s newer (SortDrop v m k ∷ P) h)
