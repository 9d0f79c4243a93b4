-- What goes out of a sort list, one emission after the other.
use Rattle.std.proofs.Common.{◌≡◌, ℕ, ◌+◌, Bool, true, false, eqb, ltb, List, [], ◌∷◌, ◌++◌, length, map, ℤ, refl, sym, ap, ◌∙◌, arith, inl, inr}
use Rattle.std.proofs.lemmas.Bool.{and_parts, and_from, eq-eqb, cases_Bool, false≢true}
use Rattle.nd_base.specs.declared.frame.FrameName.{FrameName}
use Rattle.flow_journal.specs.Unsaved.{is_file}
use Rattle.flow_journal.specs.declared.entry.Entry.{Entry}
use Rattle.flow_journal.specs.declared.entry.Entry.TheVariants.{Emit, Put, SortDrop}
use Rattle.flow_journal.specs.declared.entry.Why.{Why}
use Rattle.flow_journal.specs.declared.entry.Why.TheVariants.{Step, Late, Flush}
use Rattle.flow_journal.specs.Setting.{Setting, may_sort, node, id_at, is_sorted, Work, Makes, Passes, Watches, Saves}
use Rattle.flow_journal.specs.Pasts.{Past, frame, same}
use Rattle.flow_journal.specs.Ended.{now}
use Rattle.flow_journal.specs.Waiting.{Waiting, not_waiting, waiting, least_first, id_of}
use Rattle.queue_sort.specs.Sorting.{keeps_step}
use Rattle.flow_journal.specs.Breaks.{prev}
use Rattle.flow_journal.specs.Following.{emit, goes_out, look, sorted_result, calls_for}
use Rattle.flow_journal.specs.Histories.{is_legal}
use Rattle.flow_journal.specs.LookLaws.{IsLeastWaiting, LookLaws}
use Rattle.flow_journal.proofs.Steps.{same_refl}
use Rattle.flow_journal.proofs.EntryCounts.{count, bit, count-cons, puts_at}
use Rattle.flow_journal.proofs.Outs.{of_index, waits}
use Rattle.flow_journal.proofs.Emissions.{sorted-emits, result-sorted, waiting-put, waiting-unsorted}
use Rattle.flow_journal.proofs.Jobs.{puts-taken}
use Rattle.flow_journal.proofs.Issues.{takes-accepted}
use Rattle.flow_journal.proofs.Once.{accepts-once}
use Rattle.flow_journal.proofs.TotalChanges.{sorted_node}
use Rattle.flow_journal.proofs.Leasts.{least_laws}
use Rattle.flow_journal.proofs.Changes.{put_laws, clock_laws}

-- what the first of a list in order does
goes-step : (s : Setting) (v : ℕ) (before : ℤ) (tick : ℕ) (w : Waiting) (ws : List Waiting) → keeps_step before (id_of s w) ≡ true
    → goes_out s v before tick (w ∷ ws) ≡ emit v Step w.array ∷ goes_out s v (id_of s w) tick ws
goes-step s v before tick w ws h = rw h refl

goes-late : (s : Setting) (v : ℕ) (before : ℤ) (tick : ℕ) (w : Waiting) (ws : List Waiting) → keeps_step before (id_of s w) ≡ false
    → ltb (w.tick + (node s v).sort_time) tick ≡ true → goes_out s v before tick (w ∷ ws) ≡ emit v Late w.array ∷ goes_out s v (id_of s w) tick ws
goes-late s v before tick w ws h g = rw (h, g) refl

goes-none : (s : Setting) (v : ℕ) (before : ℤ) (tick : ℕ) (w : Waiting) (ws : List Waiting) → keeps_step before (id_of s w) ≡ false
    → ltb (w.tick + (node s v).sort_time) tick ≡ false → goes_out s v before tick (w ∷ ws) ≡ []
goes-none s v before tick w ws h g = rw (h, g) refl

pub sorts_no_file : (w : Work) → may_sort w ≡ true → is_file w ≡ false
sorts_no_file Makes h = refl
sorts_no_file (Passes d) h = refl
sorts_no_file (Watches pre post preset) h = refl
sorts_no_file (Saves whole n) h = absurd (false≢true h)

-- a node with a sort list saves nothing
pub sorted_no_file : (s : Setting) (v : ℕ) → is_sorted s v ≡ true → is_file (node s v).work ≡ false
sorted_no_file s v h = sorts_no_file (node s v).work (and_parts (may_sort (node s v).work) (ltb 0 (node s v).sort) h).0

-- where something waits the node has a sort list
waits_sorted : (s : Setting) (v : ℕ) (P : Past) (w : Waiting) (rest : List Waiting) → IsLeastWaiting s v P w rest → is_sorted s v ≡ true
waits_sorted s v P w rest h =
    elim (cases_Bool (is_sorted s v)) [
      | inl sorted ↦ sorted
      | inr plain ↦ let never : [] ≡ w ∷ rest = sym (ap (least_first s) (waiting-unsorted s v P plain)) ∙ h in cc
    ]

-- after the least one went out
look-rest : (s : Setting) (v : ℕ) (why : Why) (P : Past) (w : Waiting) (rest : List Waiting) → IsLeastWaiting s v P w rest
    → look s v (emit v why w.array ∷ P) ≡ goes_out s v (id_of s w) (now P) rest
look-rest s v why P w rest h =
    let e : Entry = emit v why w.array in
    let left : least_first s (waiting s v (e ∷ P)) ≡ rest =
    ap (least_first s) (put_laws.goes s v w.array.maker w.array.index why P) ∙ least_laws.left s (waiting s v P) w rest h in
    ap (λ (before : ℤ). goes_out s v before (now P) (least_first s (waiting s v (e ∷ P))))
    (clock_laws.emit s v w.array.maker w.array.index why P (sorted_no_file s v (waits_sorted s v P w rest h)))
    ∙ ap (goes_out s v (id_of s w) (now P)) left

look-least : (s : Setting) (v : ℕ) (P : Past) (w : Waiting) (rest : List Waiting) → IsLeastWaiting s v P w rest
    → look s v P ≡ goes_out s v (prev s v P) (now P) (w ∷ rest)
look-least s v P w rest h = ap (goes_out s v (prev s v P) (now P)) h

-- PUTS

-- what is put doesn't wait yet
not_yet : (s : Setting) (r v m k : ℕ) (f : Bool) (P : Past) → is_sorted s v ≡ true → is_legal s (Put r v m k f ∷ P) ≡ true
    → count (waits (of_index k)) (waiting s v P) ≡ 0
not_yet s r v m k f P sorted h =
    let legal : is_legal s P ≡ true = (and_parts _ _ h).0 in
    let taken = puts-taken s (Put r v m k f ∷ P) v k h in
    let put_here : puts_at v k (Put r v m k f) ≡ true = and_from _ _ (eq-eqb v v refl) (eq-eqb k k refl) in
    let one : bit (puts_at v k (Put r v m k f)) ≡ 1 = ap bit put_here in
    omega (
      arith,
      taken,
      one,
      count-cons (puts_at v k) (Put r v m k f) P,
      takes-accepted s (Put r v m k f ∷ P) v k h,
      accepts-once s (Put r v m k f ∷ P) v k h,
      sorted-emits s P v k (sorted_node s v sorted) sorted legal,
    )

not_waiting-last : (a : FrameName) (w : Waiting) (ws : List Waiting) → w.array ≡ a → count (waits (of_index a.index)) ws ≡ 0 → not_waiting a (ws ++ w ∷ []) ≡ ws
not_waiting-last a w [] is none =
    let here : same w.array a ≡ true = ap (λ (b : FrameName). same b a) is ∙ same_refl a in
    rw here refl
not_waiting-last a w (x ∷ ws) is none =
    let split = count-cons (waits (of_index a.index)) x ws in
    elim (cases_Bool (same x.array a)) [
      | inl here ↦ absurd (omega (arith, none, split, ap bit (and_parts (eqb x.array.maker a.maker) (eqb x.array.index a.index) here).1))
      | inr away ↦ rw away (ap (λ (us : List Waiting). x ∷ us) (not_waiting-last a w ws is (omega (arith, none, split))))
    ]

-- so it waits no more once it goes out or is dropped
pub gone-again : (s : Setting) (r v m k : ℕ) (f : Bool) (P : Past) → is_sorted s v ≡ true → is_legal s (Put r v m k f ∷ P) ≡ true
    → not_waiting (frame m k) (waiting s v (Put r v m k f ∷ P)) ≡ waiting s v P
gone-again s r v m k f P sorted h =
    ap (not_waiting (frame m k)) (waiting-put s v r m k f P sorted)
    ∙ not_waiting-last (frame m k) (record { array = frame m k; tick = now P }) (waiting s v P) refl (not_yet s r v m k f P sorted h)

sorts : (s : Setting) (v : ℕ) → is_sorted s v ≡ true → may_sort (node s v).work ≡ true
sorts s v h = (and_parts _ _ h).0

put_result : (s : Setting) (r v m k : ℕ) (f : Bool) (P : Past) → is_sorted s v ≡ true
    → calls_for s P (Put r v m k f) ≡ sorted_result s v (frame m k) (waiting s v P) (Put 0 v m k f ∷ P)
put_result s r v m k f P sorted = result-sorted s v (frame m k) f P (node s v).work (sorts s v sorted) sorted

put_steps : (s : Setting) (r v m k : ℕ) (f : Bool) (P : Past) → is_sorted s v ≡ true → is_legal s (Put r v m k f ∷ P) ≡ true
    → keeps_step (prev s v P) (id_at s k) ≡ true → calls_for s P (Put r v m k f) ≡ Emit v m k Step ∷ look s v (Emit v m k Step ∷ Put r v m k f ∷ P)
put_steps s r v m k f P sorted h in_step =
    let Q : Past = Put r v m k f ∷ P in
    let e : Entry = Emit v m k Step in
    let waits_then : waiting s v (e ∷ Q) ≡ waiting s v P = put_laws.goes s v m k Step Q ∙ gone-again s r v m k f P sorted h in
    let after : look s v (e ∷ Q) ≡ goes_out s v (id_at s k) (now P) (least_first s (waiting s v P)) =
    ap (λ (before : ℤ). goes_out s v before (now P) (least_first s (waiting s v (e ∷ Q)))) (clock_laws.emit s v m k Step Q (sorted_no_file s v sorted))
    ∙ ap (λ (ws : List Waiting). goes_out s v (id_at s k) (now P) (least_first s ws)) waits_then in
    put_result s r v m k f P sorted ∙ (rw in_step refl ∙ ap (λ (ds : List Entry). e ∷ ds) (sym after))

put_full : (s : Setting) (r v m k : ℕ) (f : Bool) (P : Past) → is_sorted s v ≡ true → is_legal s (Put r v m k f ∷ P) ≡ true
    → keeps_step (prev s v P) (id_at s k) ≡ false → length (waiting s v P) ≡ (node s v).sort
    → calls_for s P (Put r v m k f) ≡ SortDrop v m k ∷ look s v (SortDrop v m k ∷ Put r v m k f ∷ P)
put_full s r v m k f P sorted h off full =
    let Q : Past = Put r v m k f ∷ P in
    let e : Entry = SortDrop v m k in
    let waits_then : waiting s v (e ∷ Q) ≡ waiting s v P = put_laws.dropped s v m k Q ∙ gone-again s r v m k f P sorted h in
    let after : look s v (e ∷ Q) ≡ goes_out s v (prev s v P) (now P) (least_first s (waiting s v P)) =
    ap (λ (ws : List Waiting). goes_out s v (prev s v P) (now P) (least_first s ws)) waits_then in
    put_result s r v m k f P sorted ∙ (rw (off, eq-eqb (length (waiting s v P)) (node s v).sort full) refl ∙ ap (λ (ds : List Entry). e ∷ ds) (sym after))

put_waits : (s : Setting) (r v m k : ℕ) (f : Bool) (P : Past) → is_sorted s v ≡ true → is_legal s (Put r v m k f ∷ P) ≡ true
    → keeps_step (prev s v P) (id_at s k) ≡ false → eqb (length (waiting s v P)) (node s v).sort ≡ false
    → calls_for s P (Put r v m k f) ≡ look s v (Put r v m k f ∷ P)
put_waits s r v m k f P sorted h off room = put_result s r v m k f P sorted ∙ rw (off, room) refl

pub look_laws : LookLaws
look_laws = record {
  none = λ s v P h. ap (λ (ws : List Waiting). goes_out s v (prev s v P) (now P) (least_first s ws)) h;
  stays = λ s v P w rest h off early. look-least s v P w rest h ∙ goes-none s v (prev s v P) (now P) w rest off early;
  step =
      λ s v P w rest h on. look-least s v P w rest h
      ∙ (goes-step s v (prev s v P) (now P) w rest on ∙ ap (λ (ds : List Entry). emit v Step w.array ∷ ds) (sym (look-rest s v Step P w rest h)));
  late =
      λ s v P w rest h off past. look-least s v P w rest h
      ∙ (goes-late s v (prev s v P) (now P) w rest off past ∙ ap (λ (ds : List Entry). emit v Late w.array ∷ ds) (sym (look-rest s v Late P w rest h)));
  accept = λ s v w m k P. refl;
  full = λ s v w m k P. refl;
  flush =
      λ s r v P w rest h. ap (map (λ (u : Waiting). emit v Flush u.array)) h
      ∙ ap (λ (ws : List Waiting). emit v Flush w.array ∷ map (λ u. emit v Flush u.array) ws)
      (sym (ap (least_first s) (put_laws.goes s v w.array.maker w.array.index Flush P) ∙ least_laws.left s (waiting s v P) w rest h));
  put_steps = put_steps;
  put_full = put_full;
  put_waits = put_waits;
}
