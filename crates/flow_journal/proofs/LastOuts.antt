-- A file node emits nothing, and the piece in hand is what went out of it last.
use Rattle.std.proofs.Common.{◌≡◌, ◌≢◌, ℕ, ◌+◌, ◌≤◌, Bool, true, false, ◌&&◌, cond, eqb, ltb, List, [], ◌∷◌, ◌++◌, map, drop, refl, sym, ap, ◌∙◌, subst}
use Rattle.std.proofs.Common.{arith, Some, inl, inr}
use Rattle.std.specs.Prelude.{flat_map}
use Rattle.std.specs.List.{find}
use Rattle.std.proofs.lemmas.Bool.{and_parts, false≢true, true≢false, eq-eqb, ne_eqb, eqb-true, eqb-false, cases_Bool}
use Rattle.nd_base.specs.declared.frame.FrameName.{FrameName}
use Rattle.flow_journal.specs.declared.entry.Entry.{Entry}
use Rattle.flow_journal.specs.declared.entry.Entry.TheVariants.{Load, Tick, Issue, Emit, Take, TakeBlock, Put, SortDrop, Settle, Save, Saved, Reclaim}
use Rattle.flow_journal.specs.declared.entry.Why.TheVariants.{Plain}
use Rattle.flow_journal.specs.Setting.{Setting, Work, Makes, Passes, Watches, Saves, may_sort, node, is_sorted, node_numbers}
use Rattle.flow_journal.specs.Turns.{offered_to}
use Rattle.flow_journal.specs.Pasts.{Past, frame}
use Rattle.flow_journal.specs.Hands.{takes_up, let_go, hands, hand, standing, is_piece}
use Rattle.flow_journal.specs.Breaks.{out_at}
use Rattle.flow_journal.specs.Waiting.{waiting, least_first}
use Rattle.flow_journal.specs.Unsaved.{is_file}
use Rattle.flow_journal.specs.Following.{offer, result, calls_for, owed}
use Rattle.flow_journal.specs.Histories.{is_legal}
use Rattle.flow_journal.proofs.Hands.{row_of, find-let_go, find-none_is, hands-Apart, flat-let_go, stood}
use Rattle.flow_journal.proofs.Counts.{hand-standing, still_held, still_other}
use Rattle.flow_journal.proofs.EntryCounts.{count, bit, count-cons, count-append, count-drop}
use Rattle.flow_journal.proofs.Jobs.{reclaim_hand}
use Rattle.flow_journal.proofs.Outs.{out_of, none_elsewhere, result-at, flush-at, waits, count-flush, count-least_first}
use Rattle.flow_journal.proofs.Offers.{once_numbered}
use Rattle.flow_journal.proofs.Issues.{looks, looks-le}
use Rattle.flow_journal.proofs.Emissions.{owed-Emit_out, owed-SortDrop_out, no_outs_in_offers, waiting-unsorted}
use Rattle.flow_journal.proofs.Pieces.{let_go-swap, no_two_pieces}
use Rattle.flow_journal.proofs.Found.{found_up}
use Rattle.flow_journal.proofs.Rows.{save-facts}

abbrev pub any_array : FrameName → Bool
any_array a = true

file_unsorted : (w : Work) → is_file w ≡ true → may_sort w ≡ false
file_unsorted (Saves whole n) h = refl
file_unsorted (Watches pre post preset) h = refl
file_unsorted Makes h = absurd (false≢true h)
file_unsorted (Passes d) h = absurd (false≢true h)

file_result : (s : Setting) (v : ℕ) (a : FrameName) (f : Bool) (P : Past) (w : Work) → is_file w ≡ true → result s v a f P w ≡ []
file_result s v a f P (Saves whole n) h = refl
file_result s v a f P (Watches pre post preset) h = absurd (false≢true h)
file_result s v a f P Makes h = absurd (false≢true h)
file_result s v a f P (Passes d) h = absurd (false≢true h)

unsorted_file : (s : Setting) (v : ℕ) → is_file (node s v).work ≡ true → is_sorted s v ≡ false
unsorted_file s v file = ap (λ (b : Bool). b && ltb 0 (node s v).sort) (file_unsorted (node s v).work file)

file_nonzero : (s : Setting) (v : ℕ) → is_file (node s v).work ≡ true → v ≢ 0
file_nonzero s v file e = false≢true (subst (λ (u : ℕ). is_file (node s u).work ≡ true) e file)

-- nothing goes out of a file node but by saves
pub none_out : (s : Setting) (P : Past) (v : ℕ) → is_file (node s v).work ≡ true → is_legal s P ≡ true
    → count (out_of v any_array) P + count (out_of v any_array) (owed s P) ≡ 0
none_out s [] v file h = refl
none_out s (Emit w m i why ∷ P) v file h =
    omega (
      arith,
      none_out s P v file (and_parts _ _ h).0,
      owed-Emit_out s w m i why P v any_array h,
      count-append (out_of v any_array) (map (offer (frame m i)) (offered_to s P w)) (drop 1 (owed s P)),
      no_outs_in_offers v any_array (frame m i) (offered_to s P w),
      count-cons (out_of v any_array) (Emit w m i why) P,
    )
none_out s (SortDrop w m i ∷ P) v file h =
    omega (arith, none_out s P v file (and_parts _ _ h).0, owed-SortDrop_out s w m i P v any_array h, count-cons (out_of v any_array) (SortDrop w m i) P)
none_out s (Tick t ∷ P) v file h =
    let none : count (out_of v any_array) (looks s (Tick t ∷ P) (node_numbers s)) ≤ 0 =
    subst (λ (b : Bool). count (out_of v any_array) (looks s (Tick t ∷ P) (node_numbers s)) ≤ cond b (count (waits any_array) (waiting s v P)) 0)
    (unsorted_file s v file) (looks-le s (Tick t ∷ P) v any_array (node_numbers s) (once_numbered s v)) in
    omega (
      arith,
      none_out s P v file (and_parts _ _ h).0,
      count-append (out_of v any_array) (calls_for s P (Tick t)) (drop 1 (owed s P)),
      none,
      count-drop (out_of v any_array) (owed s P),
    )
none_out s (Put r w m i f ∷ P) v file h =
    let whole = count-append (out_of v any_array) (calls_for s P (Put r w m i f)) (drop 1 (owed s P)) in
    elim (cases_Bool (eqb w v)) [
      | inl here ↦
          let is : w ≡ v = eqb-true w v here in
          let calls : calls_for s P (Put r w m i f) ≡ [] =
          ap (λ (u : ℕ). calls_for s P (Put r u m i f)) is ∙ file_result s v (frame m i) f P (node s v).work file in
          omega (arith, none_out s P v file (and_parts _ _ h).0, whole, ap (count (out_of v any_array)) calls, count-drop (out_of v any_array) (owed s P))
      | inr away ↦
          omega (
            arith,
            none_out s P v file (and_parts _ _ h).0,
            whole,
            none_elsewhere w v any_array (calls_for s P (Put r w m i f)) (eqb-false w v away) (result-at s w (frame m i) f P (node s w).work),
            count-drop (out_of v any_array) (owed s P),
          )
    ]
none_out s (Settle r w ∷ P) v file h =
    let whole = count-append (out_of v any_array) (calls_for s P (Settle r w)) (drop 1 (owed s P)) in
    elim (cases_Bool (eqb w v)) [
      | inl here ↦
          let is : w ≡ v = eqb-true w v here in
          let calls : count (out_of v any_array) (calls_for s P (Settle r w)) ≡ count (waits any_array) (waiting s v P) =
          subst (λ (u : ℕ). count (out_of v any_array) (calls_for s P (Settle r u)) ≡ count (waits any_array) (waiting s v P)) (sym is)
          (count-flush v any_array (least_first s (waiting s v P)) ∙ count-least_first s (waits any_array) (waiting s v P)) in
          omega (
            arith,
            none_out s P v file (and_parts _ _ h).0,
            whole,
            calls,
            ap (count (waits any_array)) (waiting-unsorted s v P (unsorted_file s v file)),
            count-drop (out_of v any_array) (owed s P),
          )
      | inr away ↦
          omega (
            arith,
            none_out s P v file (and_parts _ _ h).0,
            whole,
            none_elsewhere w v any_array (calls_for s P (Settle r w)) (eqb-false w v away) (flush-at w (least_first s (waiting s w P))),
            count-drop (out_of v any_array) (owed s P),
          )
    ]
none_out s (Issue r i ∷ P) v file h =
    let away : (eqb 0 v && true) ≡ false = ap (λ (x : Bool). x && true) (ne_eqb 0 v (λ e. file_nonzero s v file (sym e))) in
    omega (
      arith,
      none_out s P v file (and_parts _ _ h).0,
      count-cons (out_of v any_array) (Emit 0 0 i Plain) (drop 1 (owed s P)),
      ap bit away,
      count-drop (out_of v any_array) (owed s P),
    )
none_out s (_ ∷ P) v file h = omega (arith, none_out s P v file (and_parts _ _ h).0, count-drop (out_of v any_array) (owed s P))

none_emitted : (b : Bool) → bit (b && true) ≡ 0 → b ≡ false
none_emitted true h = absurd (omega (arith, h))
none_emitted false h = refl

abbrev pub outs_of : Bool → ℕ → List Entry → List ℕ
outs_of saves v es = flat_map (out_at saves v) es

pub off : (a b : Bool) → b ≡ false → (a && b) ≡ false
off true b h = h
off false b h = refl

out-none : (saves : Bool) (v r : ℕ) (e : Entry) → takes_up r e ≡ true → is_piece v e ≡ false → out_at saves v e ≡ []
out-none saves v r (Save q w m k g) up h = ap (λ (b : Bool). cond b (k ∷ []) []) (off saves (eqb w v) h)
out-none saves v r (Emit w m k why) up h = absurd (false≢true up)
out-none saves v r _ up h = refl

-- no hand is an emission
pub no_out : (v r : ℕ) (e : Entry) → takes_up r e ≡ true → out_at false v e ≡ []
no_out v r (Emit w m k why) up = absurd (false≢true up)
no_out v r _ up = refl

-- a hand that is no piece of the node let nothing out there
pub outs-let_go : (saves : Bool) (v r : ℕ) (e : Entry) (es : List Entry) → find (takes_up r) es ≡ Some e → is_piece v e ≡ false
    → outs_of saves v (let_go r es) ≡ outs_of saves v es
outs-let_go saves v r e es h n = flat-let_go (out_at saves v) r e es h (out-none saves v r e (found_up (takes_up r) e es h) n)

one_out : (v w k j : ℕ) (ks : List ℕ) → w ≡ v → j ≡ k → cond (eqb w v) (j ∷ []) [] ++ ks ≡ k ∷ ks
one_out v w k j ks at same = ap (λ (b : Bool). cond b (j ∷ []) [] ++ ks) (eq-eqb w v at) ∙ ap (λ (i : ℕ). i ∷ ks) same

none_out_here : (v w j : ℕ) (ks : List ℕ) → eqb w v ≡ false → cond (eqb w v) (j ∷ []) [] ++ ks ≡ ks
none_out_here v w j ks away = ap (λ (b : Bool). cond b (j ∷ []) [] ++ ks) away

pub last_out : (s : Setting) (P : Past) (r q v m k g : ℕ) → is_legal s P ≡ true → hand r P ≡ Some (Save q v m k g)
    → outs_of true v (standing P) ≡ k ∷ outs_of true v (let_go r (standing P))
last_out s [] r q v m k g l h = cc
last_out s (Load p i b n f z x ∷ P) r q v m k g l h =
    elim (cases_Bool (eqb p r)) [
      | inl here ↦ let never : Some (Load p i b n f z x) ≡ Some (Save q v m k g) = rw here at h in cc
      | inr away ↦ rw away (last_out s P r q v m k g (and_parts _ _ l).0 (still_other r p (Save q v m k g) (hands P) away (rw away at h)))
    ]
last_out s (Take p w i j ∷ P) r q v m k g l h =
    elim (cases_Bool (eqb p r)) [
      | inl here ↦ let never : Some (Take p w i j) ≡ Some (Save q v m k g) = rw here at h in cc
      | inr away ↦ rw away (last_out s P r q v m k g (and_parts _ _ l).0 (still_other r p (Save q v m k g) (hands P) away (rw away at h)))
    ]
last_out s (TakeBlock f x p w i j b n z ∷ P) r q v m k g l h =
    elim (cases_Bool (eqb p r)) [
      | inl here ↦ let never : Some (TakeBlock f x p w i j b n z) ≡ Some (Save q v m k g) = rw here at h in cc
      | inr away ↦ rw away (last_out s P r q v m k g (and_parts _ _ l).0 (still_other r p (Save q v m k g) (hands P) away (rw away at h)))
    ]
last_out s (Save p w i j z ∷ P) r q v m k g l h =
    elim (cases_Bool (eqb p r)) [
      | inl here ↦
          let same : Some (Save p w i j z) ≡ Some (Save q v m k g) = rw here at h in
          let at : w ≡ v = cc in
          let index : j ≡ k = cc in
          rw here (one_out v w k j (outs_of true v (standing P)) at index)
      | inr away ↦
          let before : hand r P ≡ Some (Save q v m k g) = still_other r p (Save q v m k g) (hands P) away (rw away at h) in
          let facts = (save-facts s p w i j z P (row_of s (Save p w i j z) P (λ d. refl) l)).piece in
          let other : w ≢ v =
          λ e. true≢false (sym (eq-eqb v w (sym e)) ∙ find-none_is (takes_up r) (is_piece w) (Save q v m k g) (hands P) facts.none before) in
          let off : eqb w v ≡ false = ne_eqb w v other in
          let rest = last_out s P r q v m k g (and_parts _ _ l).0 before in
          rw away (none_out_here v w j (outs_of true v (standing P)) off
          ∙ (rest ∙ ap (λ (ks : List ℕ). k ∷ ks) (sym (none_out_here v w j (outs_of true v (let_go r (standing P))) off))))
    ]
last_out s (Issue p i ∷ P) r q v m k g l h = last_out s P r q v m k g (and_parts _ _ l).0 (still_held r p (Save q v m k g) (hands P) (hands-Apart P) h).1
last_out s (Put p w i j f ∷ P) r q v m k g l h = last_out s P r q v m k g (and_parts _ _ l).0 (still_held r p (Save q v m k g) (hands P) (hands-Apart P) h).1
last_out s (Saved p w i j ∷ P) r q v m k g l h = last_out s P r q v m k g (and_parts _ _ l).0 (still_held r p (Save q v m k g) (hands P) (hands-Apart P) h).1
last_out s (Reclaim p ∷ P) r q v m k g l h =
    let legal : is_legal s P ≡ true = (and_parts _ _ l).0 in
    let still = still_held r p (Save q v m k g) (hands P) (hands-Apart P) h in
    let e = reclaim_hand s p P l in
    let none : is_piece v e.0 ≡ false = no_two_pieces s P v r p (Save q v m k g) e.0 legal (λ x. still.0 (sym x)) still.1 e.1 (eq-eqb v v refl) in
    let stands : find (takes_up p) (standing P) ≡ Some e.0 = hand-standing s P p e.0 legal e.1 in
    let rest = last_out s P r q v m k g legal still.1 in
    let front : outs_of true v (let_go p (let_go r (standing P))) ≡ outs_of true v (let_go r (standing P)) =
    outs-let_go true v p e.0 (let_go r (standing P)) (find-let_go r p (standing P) (λ x. still.0 (sym x)) ∙ stands) none in
    subst (λ (es : List Entry). outs_of true v es ≡ k ∷ outs_of true v (let_go r es)) (sym (stood p e.0 P e.1))
    (outs-let_go true v p e.0 (standing P) stands none
    ∙ (rest ∙ ap (λ (ks : List ℕ). k ∷ ks) (sym front ∙ ap (outs_of true v) (let_go-swap p r (standing P) still.0))))
last_out s (_ ∷ P) r q v m k g l h = last_out s P r q v m k g (and_parts _ _ l).0 h
