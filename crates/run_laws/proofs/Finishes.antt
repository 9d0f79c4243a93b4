-- What a finished run says of each node, and what went out of a node of one thread.
use Rattle.std.proofs.Common.{◌≡◌, ◌≢◌, ℕ, zero, suc, ◌+◌, ◌≤◌, ◌<◌, Bool, true, false, ◌&&◌, eqb, ltb, List, [], ◌∷◌, ◌++◌, map, length, refl, sym, ap}
use Rattle.std.proofs.Common.{◌∙◌, subst, arith, inl, inr}
use Rattle.std.specs.Prelude.{nat_lt, nat_le}
use Rattle.std.specs.List.{list_all}
use Rattle.std.proofs.lemmas.Bool.{and_parts, and_from, false≢true, ltb-true, ltb-false, leb-true, lt-ltb, le-leb, eqb-true, eqb-false, cases_Bool}
use Rattle.std.proofs.lemmas.List.{append-nil, get_or_past, map-append}
use Rattle.nd_base.specs.declared.frame.FrameName.{FrameName}
use Rattle.trig_window.specs.Windows.{passed_items}
use Rattle.flow_journal.specs.declared.entry.Entry.{Entry}
use Rattle.flow_journal.specs.declared.entry.Entry.TheVariants.{Put}
use Rattle.flow_journal.specs.Setting.{Setting, Node, no_node, Work, Makes, Passes, Watches, Saves, node, is_node, makes, is_maker, may_sort, is_sorted}
use Rattle.flow_journal.specs.Setting.{numbers_from, node_numbers}
use Rattle.flow_journal.specs.Pasts.{Past, frame}
use Rattle.flow_journal.specs.Hands.{hands}
use Rattle.flow_journal.specs.Ended.{is_closed, is_settled}
use Rattle.flow_journal.specs.Offered.{next_index}
use Rattle.flow_journal.specs.Queued.{queued}
use Rattle.flow_journal.specs.Waiting.{waiting}
use Rattle.flow_journal.specs.Rings.{ring}
use Rattle.flow_journal.specs.Puts.{puts, firings}
use Rattle.flow_journal.specs.Unsaved.{standing_saves, unsaved, is_file}
use Rattle.flow_journal.specs.Accepted.{accepted, emitted}
use Rattle.flow_journal.specs.Accounts.{arrays_at}
use Rattle.flow_journal.specs.Histories.{is_legal}
use Rattle.flow_journal.specs.Finished.{none_left, is_done, is_finished}
use Rattle.flow_journal.specs.FirstEntries.{fires_at}
use Rattle.flow_journal.proofs.Steps.{comes_here, comes_elsewhere}
use Rattle.flow_journal.proofs.Rows.{row_laws}
use Rattle.flow_journal.proofs.Hands.{row_of}
use Rattle.flow_journal.proofs.Outputs.{output_laws}
use Rattle.flow_journal.proofs.Changes.{save_laws}
use Rattle.run_laws.specs.Results.{IsFinishedRun}
use Rattle.flow_journal.specs.ResultNames.{result_name}
use Rattle.flow_journal.proofs.Found.{none_left-nil}
use Rattle.run_laws.proofs.Jobs.{jobs_at}
use Rattle.run_laws.proofs.Lines.{line}

append-none : {X : Type 0} (xs ys : List X) → xs ++ ys ≡ [] → (xs ≡ []) × (ys ≡ [])
append-none [] ys h = (refl, h)
append-none (x ∷ xs) ys h = cc

numbered : (p : ℕ → Bool) (v : ℕ) (ns : List Node) (k : ℕ) → list_all p (numbers_from v ns) ≡ true → k < length ns → p (v + k) ≡ true
numbered p v [] k all h = absurd (omega (arith, h))
numbered p v (n ∷ ns) zero all h =
    let e : v ≡ v + 0 = omega arith in subst (λ (u : ℕ). p u ≡ true) e (and_parts (p v) (list_all p (numbers_from (v + 1) ns)) all).0
numbered p v (n ∷ ns) (suc k) all h =
    let e : v + 1 + k ≡ v + suc k = omega arith in
    subst (λ (u : ℕ). p u ≡ true) e (numbered p (v + 1) ns k (and_parts (p v) (list_all p (numbers_from (v + 1) ns)) all).1 (omega (arith, h)))

-- no role has a hand
pub ended-idle : (s : Setting) (P : Past) → is_finished s P ≡ true → hands P ≡ []
ended-idle s P h =
    let a = and_parts (is_closed P && eqb (next_index P) (length s.ids) && none_left (hands P)) (list_all (is_done s P) (node_numbers s)) h in
    none_left-nil (hands P) (and_parts (is_closed P && eqb (next_index P) (length s.ids)) (none_left (hands P)) a.0).1

-- nothing is left at a node
pub record Ends (s : Setting) (P : Past) (v : ℕ) : Type 0 where
  pub above : v ≢ 0
  pub settled : is_settled v P ≡ true
  pub empty : queued v P ≡ []
  pub lists : waiting s v P ≡ []
  pub unsaved_none : unsaved s v P ≡ []
  pub idle : hands P ≡ []

pub ends : (s : Setting) (P : Past) (v : ℕ) → is_node s v ≡ true → is_finished s P ≡ true → Ends s P v
ends s P v number h =
    let a = and_parts (is_closed P && eqb (next_index P) (length s.ids) && none_left (hands P)) (list_all (is_done s P) (node_numbers s)) h in
    let n = and_parts (nat_lt 0 v) (nat_le v (length s.nodes)) number in
    let low : 0 < v = ltb-true 0 v n.0 in
    let high : v ≤ length s.nodes = leb-true v (length s.nodes) n.1 in
    let d = and_parts (is_settled v P) (none_left (arrays_at s P v)) (at v low high a.1) in
    let four = append-none (queued v P ++ map (λ w. w.array) (waiting s v P) ++ ring s v P) (unsaved s v P) (none_left-nil (arrays_at s P v) d.1) in
    let three = append-none (queued v P ++ map (λ w. w.array) (waiting s v P)) (ring s v P) four.0 in
    let two = append-none (queued v P) (map (λ w. w.array) (waiting s v P)) three.0 in
    record {
      above = omega (arith, low);
      settled = d.0;
      empty = two.0;
      lists = unmapped _ (waiting s v P) two.1;
      unsaved_none = four.1;
      idle = ended-idle s P h;
    }
  where
    at : (v : ℕ) → 0 < v → v ≤ length s.nodes → list_all (is_done s P) (node_numbers s) ≡ true → is_done s P v ≡ true
    at zero low high all = absurd (omega (arith, low))
    at (suc k) low high all =
        let e : 1 + k ≡ suc k = omega arith in subst (λ (u : ℕ). is_done s P u ≡ true) e (numbered (is_done s P) 1 s.nodes k all (omega (arith, high)))

    unmapped : {X Y : Type 0} (f : X → Y) (xs : List X) → map f xs ≡ [] → xs ≡ []
    unmapped f [] h = refl
    unmapped f (x ∷ xs) h = cc

-- the puts of a node of one thread without a sort list are the results of what it accepted for good
pub puts-are : (s : Setting) (P : Past) (v : ℕ) → is_node s v ≡ true → is_sorted s v ≡ false → (node s v).threads ≤ 1 → IsFinishedRun s P
    → puts v P ≡ map (result_name s v) (accepted s v P)
puts-are s P v number plain one run =
    let e = ends s P v number run.finished in
    let l = line s P v plain one (and_parts _ _ run.legal).0 in
    let whole : accepted s v P ≡ l.done =
    l.all ∙ (ap (λ (xs : List FrameName). l.done ++ (jobs_at v (hands P) ++ xs)) e.empty
    ∙ (ap (λ (hs : List Entry). l.done ++ (jobs_at v hs ++ [])) e.idle ∙ append-nil l.done)) in
    l.results ∙ ap (map (result_name s v)) (sym whole)

same_results : (s : Setting) (v : ℕ) → is_maker s v ≡ false → (xs : List FrameName) → map (result_name s v) xs ≡ xs
same_results s v h [] = refl
same_results s v h (x ∷ xs) = rw (h, same_results s v h xs) refl

file_passes : (w : Work) → is_file w ≡ true → (makes w ≡ false) × (may_sort w ≡ false)
file_passes Makes h = absurd (false≢true h)
file_passes (Passes d) h = absurd (false≢true h)
file_passes (Watches pre post preset) h = (refl, refl)
file_passes (Saves whole n) h = (refl, refl)

unsorted : (s : Setting) (v : ℕ) → may_sort (node s v).work ≡ false → is_sorted s v ≡ false
unsorted s v h = rw h refl

-- a number beyond the graph stands for a node that passes arrays on, so one that does something else is a node
works-is : (s : Setting) (v : ℕ) → (node s v).work ≢ Passes false → is_node s v ≡ true
works-is s zero other = absurd (other refl)
works-is s (suc k) other =
    elim (cases_Bool (ltb k (length s.nodes))) [
      | inl inside ↦ and_from _ _ (lt-ltb 0 (suc k) (omega arith)) (le-leb (suc k) (length s.nodes) (omega (arith, ltb-true k (length s.nodes) inside)))
      | inr outside ↦ absurd (other (ap (λ (n : Node). n.work) (get_or_past s.nodes k no_node (ltb-false k (length s.nodes) outside))))
    ]

file_works : (w : Work) → is_file w ≡ true → w ≢ Passes false
file_works (Passes d) h e = false≢true h
file_works (Saves whole n) h e = cc
file_works Makes h e = false≢true h
file_works (Watches pre post preset) h e = false≢true h

-- a file node saved what it accepted for good
pub saves-are : (s : Setting) (P : Past) (v : ℕ) → is_file (node s v).work ≡ true → (node s v).threads ≤ 1 → IsFinishedRun s P
    → standing_saves v P ≡ accepted s v P
saves-are s P v file one run =
    let number : is_node s v ≡ true = works-is s v (file_works (node s v).work file) in
    let w = file_passes (node s v).work file in
    let e = ends s P v number run.finished in
    let front : puts v P ≡ standing_saves v P ++ unsaved s v P = save_laws.front s v P (and_parts _ _ run.legal).0 file in
    let all : puts v P ≡ standing_saves v P =
    front ∙ (ap (λ (xs : List FrameName). standing_saves v P ++ xs) e.unsaved_none ∙ append-nil (standing_saves v P)) in
    sym all ∙ (puts-are s P v number (unsorted s v w.1) one run ∙ same_results s v w.0 (accepted s v P))

-- a region or statistics node emitted the results
pub emits-are : (s : Setting) (P : Past) (v : ℕ) → is_node s v ≡ true → may_sort (node s v).work ≡ true → is_sorted s v ≡ false → (node s v).threads ≤ 1
    → IsFinishedRun s P → emitted v P ≡ map (result_name s v) (accepted s v P)
emits-are s P v number sorts plain one run =
    output_laws.unsorted s v P (ends s P v number run.finished).above sorts plain run.legal ∙ puts-are s P v number plain one run

-- each flag of a circular node's puts is that of its trigger
flags-are : (s : Setting) (P : Past) (v pre post preset : ℕ) → (node s v).work ≡ Watches pre post preset → is_legal s P ≡ true
    → firings v P ≡ map (λ (a : FrameName). s.fires v a.index) (puts v P)
flags-are s [] v pre post preset work h = refl
flags-are s (Put r w m i f ∷ P) v pre post preset work h =
    let before = flags-are s P v pre post preset work (and_parts _ _ h).0 in
    let fires : FrameName → Bool = λ a. s.fires v a.index in
    elim (cases_Bool (eqb w v)) [
      | inl here ↦
          subst (λ (u : ℕ). is_legal s (Put r u m i f ∷ P) ≡ true
          → firings v (Put r u m i f ∷ P) ≡ map fires (puts v (Put r u m i f ∷ P))) (sym (eqb-true w v here))
          (λ g. let flag : f ≡ s.fires v i = ((row_laws.put s P r v m i f).0 (row_of s (Put r v m i f) P (λ d. refl) g)).1 ∙ ap (fires_at s v i) work in
          comes_here v f (firings v P) ∙ (ap (λ (bs : List Bool). bs ++ f ∷ []) before ∙ (ap (λ (b : Bool). map fires (puts v P) ++ b ∷ []) flag
          ∙ (sym (map-append fires (puts v P) (frame m i ∷ [])) ∙ ap (map fires) (sym (comes_here v (frame m i) (puts v P))))))) h
      | inr away ↦
          let ne : w ≢ v = eqb-false w v away in
          comes_elsewhere v w f (firings v P) ne ∙ (before ∙ ap (map fires) (sym (comes_elsewhere v w (frame m i) (puts v P) ne)))
    ]
flags-are s (_ ∷ P) v pre post preset work h = flags-are s P v pre post preset work (and_parts _ _ h).0

watches_more : {pre post preset : ℕ} → Watches pre post preset ≢ Passes false
watches_more e = cc

-- a circular node emitted those in its windows
pub windows-are : (s : Setting) (P : Past) (v pre post preset : ℕ) → (node s v).work ≡ Watches pre post preset → 1 ≤ post → (node s v).threads ≤ 1
    → IsFinishedRun s P → emitted v P ≡ passed_items pre post preset (map (λ (a : FrameName). s.fires v a.index) (accepted s v P)) (accepted s v P)
windows-are s P v pre post preset work positive one run =
    let number : is_node s v ≡ true = works-is s v (λ e. watches_more (sym work ∙ e)) in
    let passes : is_maker s v ≡ false = ap makes work in
    let plain : is_sorted s v ≡ false = unsorted s v (ap may_sort work) in
    let all : puts v P ≡ accepted s v P = puts-are s P v number plain one run ∙ same_results s v passes (accepted s v P) in
    output_laws.circular s v pre post preset P work positive run.legal
    ∙ (ap (λ (bs : List Bool). passed_items pre post preset bs (puts v P)) (flags-are s P v pre post preset work (and_parts _ _ run.legal).0)
    ∙ ap (λ (xs : List FrameName). passed_items pre post preset (map (λ (a : FrameName). s.fires v a.index) xs) xs) all)
