-- The queue in the words of counts: an array is queued as often as it was accepted, less its takes that stand and its drops.
use Rattle.std.proofs.Common.{◌≡◌, ◌≢◌, ℕ, ◌+◌, Bool, true, false, List, [], ◌∷◌, ◌++◌, length, refl, sym, ap, ◌∙◌, subst, eqb, arith, Option, Some, None}
use Rattle.std.proofs.Common.{inl, inr}
use Rattle.std.specs.Prelude.{filter, flat_map}
use Rattle.std.specs.List.{find}
use Rattle.std.proofs.lemmas.Bool.{and_parts, false≢true, cases_Bool, eqb-true, eqb-false}
use Rattle.std.proofs.lemmas.List.{length-append, append-nil}
use Rattle.std.proofs.lemmas.List.Elements.{filter-append}
use Rattle.nd_base.specs.declared.frame.FrameName.{FrameName}
use Rattle.flow_journal.specs.declared.entry.Entry.{Entry}
use Rattle.flow_journal.specs.declared.entry.Entry.TheVariants.{Load, Issue, Accept, Take, TakeBlock, PoolDrop, Put, Save, Saved, Reclaim}
use Rattle.flow_journal.proofs.Steps.{next_is}
use Rattle.flow_journal.proofs.Hands.{Apart, hands-Apart, free-let_go, find-none, find-let_go, row_of, stands-less, stood, reclaim-held}
use Rattle.flow_journal.specs.FirstEntries.{may_take, is_next}
use Rattle.flow_journal.specs.Following.{owed}
use Rattle.flow_journal.specs.Hands.{takes_up, let_go, hands, hand, standing, job_array}
use Rattle.flow_journal.specs.Histories.{next, is_legal}
use Rattle.flow_journal.specs.Pasts.{Past, frame, same, without, comes_at, goes_at}
use Rattle.flow_journal.specs.Queued.{queued}
use Rattle.flow_journal.specs.QueueCounts.{times, gone_at, gone}
use Rattle.flow_journal.specs.Accepted.{accepts}
use Rattle.flow_journal.specs.Setting.{Setting}
use Rattle.flow_journal.proofs.Found.{some_hand}

-- how many of these pass the test
abbrev pub times_by : (FrameName → Bool) → List FrameName → ℕ
times_by t xs = length (filter t xs)

times-append : (t : FrameName → Bool) (xs ys : List FrameName) → times_by t (xs ++ ys) ≡ times_by t xs + times_by t ys
times-append t xs ys = rw (filter-append, length-append) refl

comes_last : (v w : ℕ) (x : FrameName) (xs : List FrameName) → comes_at v w x xs ≡ xs ++ comes_at v w x []
comes_last v w x xs =
    elim (cases_Bool (eqb w v)) [ inl here ↦ rw here refl | inr away ↦ rw away (sym (append-nil xs)) ]

-- the front of a queue goes
times-goes : (v w : ℕ) (t : FrameName → Bool) (x : FrameName) (P : Past) → is_next x (queued w P) ≡ true
    → times_by t (queued v P) ≡ times_by t (goes_at v w x (queued v P)) + times_by t (comes_at v w x [])
times-goes v w t x P h =
    elim (cases_Bool (eqb w v)) [
      | inl here ↦
          let at_v : is_next x (queued v P) ≡ true = subst (λ (u : ℕ). is_next x (queued u P) ≡ true) (eqb-true w v here) h in
          let front : times_by t (queued v P) ≡ times_by t (x ∷ without x (queued v P)) = ap (times_by t) (next_is x (queued v P) at_v) in
          let sum : times_by t ((x ∷ []) ++ without x (queued v P)) ≡ times_by t (x ∷ []) + times_by t (without x (queued v P)) =
          times-append t (x ∷ []) (without x (queued v P)) in
          rw here (front ∙ omega (arith, sum))
      | inr away ↦ rw away (omega arith)
    ]

pub still_held : (r q : ℕ) (e : Entry) (hs : List Entry) → Apart hs → find (takes_up r) (let_go q hs) ≡ Some e → (q ≢ r) × (find (takes_up r) hs ≡ Some e)
still_held r q e hs apart h =
    elim (cases_Bool (eqb q r)) [
      | inl here ↦
          let none : find (takes_up r) (let_go r hs) ≡ None = find-none (takes_up r) (let_go r hs) (free-let_go r hs apart) in
          let some : find (takes_up r) (let_go r hs) ≡ Some e = subst (λ (i : ℕ). find (takes_up r) (let_go i hs) ≡ Some e) (eqb-true q r here) h in
          let never : None ≡ Some e = sym none ∙ some in
          cc
      | inr away ↦ let other : q ≢ r = eqb-false q r away in (other, sym (find-let_go q r hs other) ∙ h)
    ]

pub still_other : (r q : ℕ) (e : Entry) (hs : List Entry) → eqb q r ≡ false → find (takes_up r) (let_go q hs) ≡ Some e → find (takes_up r) hs ≡ Some e
still_other r q e hs away h = sym (find-let_go q r hs (eqb-false q r away)) ∙ h

-- a hand stands until its role lets it go
pub hand-standing : (s : Setting) (P : Past) (r : ℕ) (e : Entry) → is_legal s P ≡ true → hand r P ≡ Some e → find (takes_up r) (standing P) ≡ Some e
hand-standing s [] r e l h = cc
hand-standing s (Load q k b n f g x ∷ P) r e l h =
    elim (cases_Bool (eqb q r)) [
      | inl here ↦ rw here (rw here at h)
      | inr away ↦ rw away (hand-standing s P r e (and_parts _ _ l).0 (still_other r q e (hands P) away (rw away at h)))
    ]
hand-standing s (Take q v m k ∷ P) r e l h =
    elim (cases_Bool (eqb q r)) [
      | inl here ↦ rw here (rw here at h)
      | inr away ↦ rw away (hand-standing s P r e (and_parts _ _ l).0 (still_other r q e (hands P) away (rw away at h)))
    ]
hand-standing s (TakeBlock f x q v m k b n g ∷ P) r e l h =
    elim (cases_Bool (eqb q r)) [
      | inl here ↦ rw here (rw here at h)
      | inr away ↦ rw away (hand-standing s P r e (and_parts _ _ l).0 (still_other r q e (hands P) away (rw away at h)))
    ]
hand-standing s (Save q v m k g ∷ P) r e l h =
    elim (cases_Bool (eqb q r)) [
      | inl here ↦ rw here (rw here at h)
      | inr away ↦ rw away (hand-standing s P r e (and_parts _ _ l).0 (still_other r q e (hands P) away (rw away at h)))
    ]
hand-standing s (Issue q k ∷ P) r e l h = hand-standing s P r e (and_parts _ _ l).0 (still_held r q e (hands P) (hands-Apart P) h).1
hand-standing s (Put q v m k f ∷ P) r e l h = hand-standing s P r e (and_parts _ _ l).0 (still_held r q e (hands P) (hands-Apart P) h).1
hand-standing s (Saved q v m k ∷ P) r e l h = hand-standing s P r e (and_parts _ _ l).0 (still_held r q e (hands P) (hands-Apart P) h).1
hand-standing s (Reclaim q ∷ P) r e l h =
    let still = still_held r q e (hands P) (hands-Apart P) h in
    ap (find (takes_up r)) (stands-less s q P l) ∙ (find-let_go q r (standing P) still.0 ∙ hand-standing s P r e (and_parts _ _ l).0 still.1)
hand-standing s (_ ∷ P) r e l h = hand-standing s P r e (and_parts _ _ l).0 h

gone-job : (v r : ℕ) (e : Entry) → takes_up r e ≡ true → gone_at v e ≡ job_array v (Some e)
gone-job v r (Load q k b n f g x) h = refl
gone-job v r (Take q w m k) h = refl
gone-job v r (TakeBlock f x q w m k b n g) h = refl
gone-job v r (Save q w m k g) h = refl
gone-job v r _ h = absurd (false≢true h)

-- one hand less
times-let_go : (t : FrameName → Bool) (v r : ℕ) (e : Entry) (hs : List Entry) → find (takes_up r) hs ≡ Some e
    → times_by t (flat_map (gone_at v) hs) ≡ times_by t (job_array v (Some e)) + times_by t (flat_map (gone_at v) (let_go r hs))
times-let_go t v r e [] h = cc
times-let_go t v r e (x ∷ hs) h =
    elim (cases_Bool (takes_up r x)) [
      | inl here ↦
          let same : Some x ≡ Some e = rw here at h in
          let is : x ≡ e = cc in
          let job : times_by t (gone_at v x) ≡ times_by t (job_array v (Some e)) =
          ap (times_by t) (gone-job v r x here) ∙ ap (λ (y : Entry). times_by t (job_array v (Some y))) is in
          rw here (times-append t (gone_at v x) (flat_map (gone_at v) hs) ∙ omega (arith, job))
      | inr away ↦
          let rest = times-let_go t v r e hs (rw away at h) in
          let more = times-append t (gone_at v x) (flat_map (gone_at v) (let_go r hs)) in
          rw away (times-append t (gone_at v x) (flat_map (gone_at v) hs) ∙ omega (arith, rest, more))
    ]

-- An array is queued as often as it was accepted, less the takes of it that stand and its drops.
pub queued-by : (s : Setting) (P : Past) (v : ℕ) (t : FrameName → Bool) → is_legal s P ≡ true
    → times_by t (accepts v P) ≡ times_by t (queued v P) + times_by t (gone v P)
queued-by s [] v t h = refl
queued-by s (Accept w m k ∷ P) v t h =
    let rest = queued-by s P v t (and_parts _ _ h).0 in
    let came = ap (times_by t) (comes_last v w (frame m k) (accepts v P)) ∙ times-append t (accepts v P) (comes_at v w (frame m k) []) in
    let last = ap (times_by t) (comes_last v w (frame m k) (queued v P)) ∙ times-append t (queued v P) (comes_at v w (frame m k) []) in
    came ∙ omega (arith, rest, last)
queued-by s (Take r w m k ∷ P) v t h =
    let rest = queued-by s P v t (and_parts _ _ h).0 in
    let may : may_take s r w (frame m k) P ≡ true = (and_parts _ _ (row_of s (Take r w m k) P (λ d. refl) h)).0 in
    let front : is_next (frame m k) (queued w P) ≡ true = (and_parts _ _ (and_parts _ _ may).0).1 in
    let gone = times-append t (comes_at v w (frame m k) []) (flat_map (gone_at v) (standing P)) in
    omega (arith, rest, gone, times-goes v w t (frame m k) P front)
queued-by s (TakeBlock f x r w m k b n g ∷ P) v t h =
    let rest = queued-by s P v t (and_parts _ _ h).0 in
    let may : may_take s r w (frame m k) P ≡ true = (and_parts _ _ (and_parts _ _ (row_of s (TakeBlock f x r w m k b n g) P (λ d. refl) h)).0).0 in
    let front : is_next (frame m k) (queued w P) ≡ true = (and_parts _ _ (and_parts _ _ may).0).1 in
    let gone = times-append t (comes_at v w (frame m k) []) (flat_map (gone_at v) (standing P)) in
    omega (arith, rest, gone, times-goes v w t (frame m k) P front)
queued-by s (PoolDrop r w m k n b ∷ P) v t h =
    let rest = queued-by s P v t (and_parts _ _ h).0 in
    let may : may_take s r w (frame m k) P ≡ true = (and_parts _ _ (and_parts _ _ (row_of s (PoolDrop r w m k n b) P (λ d. refl) h)).0).0 in
    let front : is_next (frame m k) (queued w P) ≡ true = (and_parts _ _ (and_parts _ _ may).0).1 in
    let gone = times-append t (comes_at v w (frame m k) []) (flat_map (gone_at v) (standing P)) in
    omega (arith, rest, gone, times-goes v w t (frame m k) P front)
queued-by s (Reclaim r ∷ P) v t h =
    let legal = (and_parts (is_legal s P) (next s P (Reclaim r) (owed s P)) h).0 in
    let rest = queued-by s P v t legal in
    let some = some_hand (hand r P) (reclaim-held s r P h) in
    let less = times-let_go t v r some.0 (standing P) (hand-standing s P r some.0 legal some.1) in
    let job = ap (λ (o : Option Entry). times_by t (job_array v o)) some.1 in
    let back = times-append t (job_array v (hand r P)) (queued v P) in
    let left : times_by t (gone v (Reclaim r ∷ P)) ≡ times_by t (flat_map (gone_at v) (let_go r (standing P))) =
    ap (λ (es : List Entry). times_by t (flat_map (gone_at v) es)) (stood r some.0 P some.1) in
    omega (arith, rest, less, job, back, left)
queued-by s (_ ∷ P) v t h = queued-by s P v t (and_parts _ _ h).0

pub queued-counts : (s : Setting) (P : Past) (v : ℕ) (a : FrameName) → is_legal s P ≡ true → times a (accepts v P) ≡ times a (queued v P) + times a (gone v P)
queued-counts s P v a h = queued-by s P v (λ x. same x a) h
