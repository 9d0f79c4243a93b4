-- Arrays only move. Where no place has an array that passes a test, and nothing that is owed does, none has after one more entry,
-- unless a grant makes one.
use Rattle.std.proofs.Common.{◌≡◌, ℕ, ◌+◌, ◌≤◌, Bool, true, false, ◌&&◌, ◌||◌, cond, eqb, List, [], ◌∷◌, ◌++◌, map, length, drop, refl, sym, ap, ◌∙◌, subst}
use Rattle.std.proofs.Common.{arith, Option, Some, None, inl, inr}
use Rattle.std.proofs.lemmas.Bool.{and_parts, false≢true, eqb-true, eqb-false, cases_Bool, or_parts}
use Rattle.nd_base.specs.declared.frame.FrameName.{FrameName}
use Rattle.trig_window.specs.Windows.{is_trigger, is_passed}
use Rattle.flow_journal.specs.declared.entry.Entry.{Entry}
use Rattle.flow_journal.specs.declared.entry.Entry.TheVariants.{Load, Tick, Issue, Emit, Accept, Take, TakeBlock, PoolDrop, Put, SortDrop, Settle, Save}
use Rattle.flow_journal.specs.declared.entry.Entry.TheVariants.{Saved, Reclaim}
use Rattle.flow_journal.specs.declared.entry.Why.{Why}
use Rattle.flow_journal.specs.declared.entry.Why.TheVariants.{Plain, Ring, Now}
use Rattle.flow_journal.specs.Setting.{Setting, Work, Makes, Passes, Watches, Saves, node, is_sorted, is_maker, node_numbers}
use Rattle.flow_journal.specs.Turns.{offered_to}
use Rattle.flow_journal.specs.Pasts.{Past, frame, same, without, comes_at, goes_at}
use Rattle.flow_journal.specs.Hands.{let_go, hands, hand, is_piece, job_array}
use Rattle.flow_journal.specs.Ended.{is_settled, now}
use Rattle.flow_journal.specs.Queued.{queued}
use Rattle.flow_journal.specs.Puts.{puts, firings}
use Rattle.flow_journal.specs.Waiting.{Waiting, waiting, not_waiting, least_first}
use Rattle.flow_journal.specs.Rings.{ring, ring_of}
use Rattle.flow_journal.specs.Unsaved.{unsaved, is_file}
use Rattle.flow_journal.specs.FirstEntries.{first, may_take, is_next, is_load_of, is_result_of, fires_at, both, pool_grants}
use Rattle.flow_journal.specs.Following.{offer, emit, look, sorted_result, result, calls_for, owed}
use Rattle.flow_journal.specs.Histories.{is_legal}
use Rattle.flow_journal.proofs.Steps.{same-true, next_is}
use Rattle.flow_journal.proofs.Hands.{row_of}
use Rattle.flow_journal.proofs.EntryCounts.{count, bit, count-cons, count-append, count-drop, count-let_go, count-let_go-le, owed-answered, answers-by_Emit}
use Rattle.flow_journal.proofs.EntryCounts.{answers-by_Accept}
use Rattle.flow_journal.proofs.Jobs.{reclaim_hand}
use Rattle.flow_journal.proofs.Outs.{AllOutAt, out_of, is_out_at, goes_out-at, flush-at, sorted_result-at, waits, count-look, count-flush}
use Rattle.flow_journal.proofs.Outs.{count-least_first, count-sorted_result}
use Rattle.flow_journal.proofs.Issues.{looks}
use Rattle.flow_journal.proofs.RingCounts.{ring-push, kept-nothing}
use Rattle.flow_journal.proofs.Emissions.{removed-le, waiting-put, flags-puts}
use Rattle.flow_journal.proofs.Pieces.{unsaved-Put, unsaved-Put_elsewhere, unsaved-Save, unsaved-Save_elsewhere, unsaved-Reclaim, unsaved-Reclaim_other}
use Rattle.flow_journal.proofs.Rows.{taken_front, save-facts, first_of-next}

-- the hand has such an array: by t that of its job or piece, or by u the one that its block is for
abbrev pub holds_by : (u t : FrameName → Bool) → Entry → Bool
holds_by u t (Load r k b n f g x) = u (frame 0 k)
holds_by u t (Take r v m k) = t (frame m k)
holds_by u t (TakeBlock f x r v m k b n g) = u (frame v k) || t (frame m k)
holds_by u t (Save r v m k g) = t (frame m k)
holds_by u t _ = false

abbrev pub holds : (FrameName → Bool) → Entry → Bool
holds t = holds_by t t

-- what is owed has such an array
abbrev pub carries : (FrameName → Bool) → Entry → Bool
carries t (Emit v m k why) = t (frame m k)
carries t (Accept v m k) = t (frame m k)
carries t (SortDrop v m k) = t (frame m k)
carries t _ = false

-- the arrays that the entry makes
abbrev pub made_by : Entry → List FrameName
made_by (Load r k b n f g x) = frame 0 k ∷ []
made_by (TakeBlock f x r v m k b n g) = frame v k ∷ []
made_by _ = []

-- the arrays that the entry lets out of the hand in which they were made or taken
abbrev pub issued_by : Entry → List FrameName
issued_by (Issue r k) = frame 0 k ∷ []
issued_by (Put r v m k f) = frame m k ∷ []
issued_by _ = []

-- no place has an array that passes t, or u where it is being made, and nothing that is owed has
pub record ClearBy (u t : FrameName → Bool) (s : Setting) (P : Past) : Type 0 where
  pub queues : (v : ℕ) → count t (queued v P) ≡ 0
  pub lists : (v : ℕ) → count (waits t) (waiting s v P) ≡ 0
  pub rings : (v : ℕ) → count t (ring s v P) ≡ 0
  pub files : (v : ℕ) → count t (unsaved s v P) ≡ 0
  pub roles : count (holds_by u t) (hands P) ≡ 0
  pub calls : count (carries t) (owed s P) ≡ 0

abbrev pub Clear : (FrameName → Bool) → Setting → Past → Type 0
Clear t = ClearBy t t

pub bit-none : (b : Bool) → bit b ≡ 0 → b ≡ false
bit-none true h = absurd (omega (arith, h))
bit-none false h = refl

none-bit : (b : Bool) → b ≡ false → bit b ≡ 0
none-bit b h = ap bit h

pub made-clear : (t : FrameName → Bool) (a : FrameName) → count t (a ∷ []) ≡ 0 → t a ≡ false
made-clear t a h = bit-none (t a) (omega (arith, count-cons t a [], h))

-- ARRAYS THAT ENTRIES NAME

front-clear : (t : FrameName → Bool) (a : FrameName) (xs : List FrameName) → is_next a xs ≡ true → count t xs ≡ 0 → t a ≡ false
front-clear t a xs h none =
    let split : count t xs ≡ bit (t a) + count t (without a xs) = ap (count t) (next_is a xs h) ∙ count-cons t a (without a xs) in
    bit-none (t a) (omega (arith, split, none))

pub hand-clear : (p : Entry → Bool) (r : ℕ) (e : Entry) (P : Past) → hand r P ≡ Some e → count p (hands P) ≡ 0 → p e ≡ false
hand-clear p r e P held none = bit-none (p e) (omega (arith, count-let_go p r e (hands P) held, none))

head-clear : (p : Entry → Bool) (d : Entry) (rest ds : List Entry) → ds ≡ d ∷ rest → count p ds ≡ 0 → p d ≡ false
head-clear p d rest ds is none =
    let split : count p ds ≡ bit (p d) + count p rest = ap (count p) is ∙ count-cons p d rest in
    bit-none (p d) (omega (arith, split, none))

emit-clear : (u t : FrameName → Bool) (s : Setting) (v m k : ℕ) (why : Why) (P : Past) → is_legal s (Emit v m k why ∷ P) ≡ true
    → ClearBy u t s P → t (frame m k) ≡ false
emit-clear u t s v m k why P h c =
    let a = owed-answered s (Emit v m k why) P refl h in
    let is = answers-by_Emit s P v m k why a.head a.answer in
    sym (ap (carries t) is.1) ∙ head-clear (carries t) a.head a.rest (owed s P) a.is c.calls

accept-clear : (u t : FrameName → Bool) (s : Setting) (v m k : ℕ) (P : Past) → is_legal s (Accept v m k ∷ P) ≡ true → ClearBy u t s P → t (frame m k) ≡ false
accept-clear u t s v m k P h c =
    let a = owed-answered s (Accept v m k) P refl h in
    sym (ap (carries t) (answers-by_Accept s P v m k a.head a.answer)) ∙ head-clear (carries t) a.head a.rest (owed s P) a.is c.calls

take-clear : (u t : FrameName → Bool) (s : Setting) (r v m k : ℕ) (P : Past) → may_take s r v (frame m k) P ≡ true → ClearBy u t s P → t (frame m k) ≡ false
take-clear u t s r v m k P may c =
    let split : count t (queued v P) ≡ bit (t (frame m k)) + count t (without (frame m k) (queued v P)) =
    ap (count t) (taken_front s r v (frame m k) P may) ∙ count-cons t (frame m k) (without (frame m k) (queued v P)) in
    bit-none (t (frame m k)) (omega (arith, split, c.queues v))

pub may-Take : (s : Setting) (r v m k : ℕ) (P : Past) → is_legal s (Take r v m k ∷ P) ≡ true → may_take s r v (frame m k) P ≡ true
may-Take s r v m k P h = (and_parts _ _ (row_of s (Take r v m k) P (λ d. refl) h)).0

pub may-TakeBlock : (s : Setting) (r v m k b n : ℕ) (f : Bool) (g : ℕ) (x : Bool) (P : Past) → is_legal s (TakeBlock f x r v m k b n g ∷ P) ≡ true
    → may_take s r v (frame m k) P ≡ true
may-TakeBlock s r v m k b n f g x P h =
    (and_parts _ _
    (and_parts (may_take s r v (frame m k) P && is_maker s v) (pool_grants s v b n f g x P) (row_of s (TakeBlock f x r v m k b n g) P (λ d. refl) h)).0).0

result-clear : (t : FrameName → Bool) (v : ℕ) (a : FrameName) (o : Option Entry) → is_result_of v a o ≡ true
    → ((e : Entry) → o ≡ Some e → holds t e ≡ false) → t a ≡ false
result-clear t v a None h clear = absurd (false≢true h)
result-clear t v a (Some (Take r w m k)) h clear =
    let p = and_parts (eqb w v) (same a (frame m k)) h in
    ap t (same-true a (frame m k) p.1) ∙ clear (Take r w m k) refl
result-clear t v a (Some (TakeBlock f x r w m k b n g)) h clear =
    let p = and_parts (eqb w v) (same a (frame v k)) h in
    let q = or_parts (t (frame w k)) (t (frame m k)) (clear (TakeBlock f x r w m k b n g) refl) in
    ap t (same-true a (frame v k) p.1) ∙ (ap (λ (u : ℕ). t (frame u k)) (sym (eqb-true w v p.0)) ∙ q.0)
result-clear t v a (Some _) h clear = absurd (false≢true h)

put-clear : (t : FrameName → Bool) (s : Setting) (r v m k : ℕ) (f : Bool) (P : Past) → is_legal s (Put r v m k f ∷ P) ≡ true
    → Clear t s P → t (frame m k) ≡ false
put-clear t s r v m k f P h c =
    let row : is_result_of v (frame m k) (hand r P) ≡ true =
    (and_parts (is_result_of v (frame m k) (hand r P)) (both f (fires_at s v k (node s v).work)) (row_of s (Put r v m k f) P (λ d. refl) h)).0 in
    result-clear t v (frame m k) (hand r P) row (λ e held. hand-clear (holds t) r e P held c.roles)

load-clear : (t : FrameName → Bool) (k : ℕ) (o : Option Entry) → is_load_of k o ≡ true → ((e : Entry) → o ≡ Some e → holds t e ≡ false) → t (frame 0 k) ≡ false
load-clear t k None h clear = absurd (false≢true h)
load-clear t k (Some (Load r i b n f g x)) h clear = ap (λ (j : ℕ). t (frame 0 j)) (sym (eqb-true i k h)) ∙ clear (Load r i b n f g x) refl
load-clear t k (Some _) h clear = absurd (false≢true h)

issue-clear : (t : FrameName → Bool) (s : Setting) (r k : ℕ) (P : Past) → is_legal s (Issue r k ∷ P) ≡ true → Clear t s P → t (frame 0 k) ≡ false
issue-clear t s r k P h c = load-clear t k (hand r P) (row_of s (Issue r k) P (λ d. refl) h) (λ e held. hand-clear (holds t) r e P held c.roles)

-- QUEUES

comes-le : (t : FrameName → Bool) (v w : ℕ) (a : FrameName) (xs : List FrameName) → count t (comes_at v w a xs) ≤ count t xs + bit (t a)
comes-le t v w a xs =
    elim (eqb w v) as (λ b. count t (cond b (xs ++ a ∷ []) xs) ≤ count t xs + bit (t a)) [
      | true ↦ omega (arith, count-append t xs (a ∷ []), count-cons t a [])
      | false ↦ omega arith
    ]

without-le : (t : FrameName → Bool) (a : FrameName) (xs : List FrameName) → count t (without a xs) ≤ count t xs
without-le t a [] = omega arith
without-le t a (x ∷ xs) =
    elim (same x a) as (λ b. count t (cond b xs (x ∷ without a xs)) ≤ count t (x ∷ xs)) [
      | true ↦ omega (arith, count-cons t x xs)
      | false ↦ omega (arith, without-le t a xs, count-cons t x xs, count-cons t x (without a xs))
    ]

goes-le : (t : FrameName → Bool) (v w : ℕ) (a : FrameName) (xs : List FrameName) → count t (goes_at v w a xs) ≤ count t xs
goes-le t v w a xs =
    elim (eqb w v) as (λ b. count t (cond b (without a xs) xs) ≤ count t xs) [ true ↦ without-le t a xs | false ↦ omega arith ]

job-clear : (u t : FrameName → Bool) (v : ℕ) (o : Option Entry) → ((e : Entry) → o ≡ Some e → holds_by u t e ≡ false) → count t (job_array v o) ≡ 0
job-clear u t v None clear = refl
job-clear u t v (Some (Take r w m k)) clear = omega (arith, comes-le t v w (frame m k) [], none-bit (t (frame m k)) (clear (Take r w m k) refl))
job-clear u t v (Some (TakeBlock f x r w m k b n g)) clear =
    let q = or_parts (u (frame w k)) (t (frame m k)) (clear (TakeBlock f x r w m k b n g) refl) in
    omega (arith, comes-le t v w (frame m k) [], none-bit (t (frame m k)) q.1)
job-clear u t v (Some _) clear = refl

queues-more : (u t : FrameName → Bool) (s : Setting) (v : ℕ) (e : Entry) (P : Past) → is_legal s (e ∷ P) ≡ true
    → ClearBy u t s P → count t (queued v (e ∷ P)) ≡ 0
queues-more u t s v (Accept w m k) P h c =
    omega (arith, comes-le t v w (frame m k) (queued v P), c.queues v, none-bit (t (frame m k)) (accept-clear u t s w m k P h c))
queues-more u t s v (Take r w m k) P h c = omega (arith, goes-le t v w (frame m k) (queued v P), c.queues v)
queues-more u t s v (TakeBlock f x r w m k b n g) P h c = omega (arith, goes-le t v w (frame m k) (queued v P), c.queues v)
queues-more u t s v (PoolDrop r w m k n z) P h c = omega (arith, goes-le t v w (frame m k) (queued v P), c.queues v)
queues-more u t s v (Reclaim r) P h c =
    omega (
      arith,
      count-append t (job_array v (hand r P)) (queued v P),
      job-clear u t v (hand r P) (λ e held. hand-clear (holds_by u t) r e P held c.roles),
      c.queues v,
    )
queues-more u t s v _ P h c = c.queues v

-- SORT LISTS

lists-put : (t : FrameName → Bool) (v w : ℕ) (b : Bool) (x : Waiting) (ws : List Waiting) → t x.array ≡ false → count (waits t) ws ≡ 0
    → count (waits t) (cond b (comes_at v w x ws) []) ≡ 0
lists-put t v w true x ws none h =
    elim (eqb w v) as (λ b. count (waits t) (cond b (ws ++ x ∷ []) ws) ≡ 0) [
      | true ↦ omega (arith, count-append (waits t) ws (x ∷ []), count-cons (waits t) x [], none-bit (t x.array) none, h)
      | false ↦ h
    ]
lists-put t v w false x ws none h = refl

lists-out : (t : FrameName → Bool) (b : Bool) (a : FrameName) (ws : List Waiting) → count (waits t) ws ≡ 0 → count (waits t) (cond b (not_waiting a ws) ws) ≡ 0
lists-out t true a ws h = omega (arith, removed-le a t ws, h)
lists-out t false a ws h = h

lists-more : (u t : FrameName → Bool) (s : Setting) (v : ℕ) (e : Entry) (P : Past) → is_legal s (e ∷ P) ≡ true → count t (issued_by e) ≡ 0 → ClearBy u t s P
    → count (waits t) (waiting s v (e ∷ P)) ≡ 0
lists-more u t s v (Put r w m k f) P h i c =
    lists-put t v w (is_sorted s v) (record { array = frame m k; tick = now P }) (waiting s v P) (made-clear t (frame m k) i) (c.lists v)
lists-more u t s v (Emit w m k why) P h i c = lists-out t (eqb w v) (frame m k) (waiting s v P) (c.lists v)
lists-more u t s v (SortDrop w m k) P h i c = lists-out t (eqb w v) (frame m k) (waiting s v P) (c.lists v)
lists-more u t s v _ P h i c = c.lists v

-- RINGS

ring_of-more : (t : FrameName → Bool) (w : Work) (flags : List Bool) (f : Bool) (xs : List FrameName) (a : FrameName) → length flags ≡ length xs
    → count t (ring_of w (flags ++ f ∷ []) (xs ++ a ∷ [])) ≤ bit (t a) + count t (ring_of w flags xs)
ring_of-more t Makes flags f xs a long = omega arith
ring_of-more t (Passes d) flags f xs a long = omega arith
ring_of-more t (Saves whole n) flags f xs a long = omega arith
ring_of-more t (Watches pre post preset) flags f xs a long = omega (arith, ring-push pre post preset flags f t xs a long)

rings-put : (t : FrameName → Bool) (s : Setting) (v w : ℕ) (f : Bool) (a : FrameName) (P : Past) (b : Bool) → t a ≡ false
    → count t (cond b [] (ring_of (node s v).work (firings v P) (puts v P))) ≡ 0
    → count t (cond b [] (ring_of (node s v).work (comes_at v w f (firings v P)) (comes_at v w a (puts v P)))) ≡ 0
rings-put t s v w f a P true none h = refl
rings-put t s v w f a P false none h =
    elim (eqb w v) as (λ b. count t (ring_of (node s v).work (cond b (firings v P ++ f ∷ []) (firings v P)) (cond b (puts v P ++ a ∷ []) (puts v P))) ≡ 0) [
      | true ↦ omega (arith, ring_of-more t (node s v).work (firings v P) f (puts v P) a (flags-puts v P), none-bit (t a) none, h)
      | false ↦ h
    ]

rings-settle : (t : FrameName → Bool) (b c : Bool) (xs : List FrameName) → count t (cond c [] xs) ≡ 0 → count t (cond (b || c) [] xs) ≡ 0
rings-settle t true c xs h = refl
rings-settle t false c xs h = h

rings-more : (u t : FrameName → Bool) (s : Setting) (v : ℕ) (e : Entry) (P : Past) → is_legal s (e ∷ P) ≡ true → count t (issued_by e) ≡ 0
    → ClearBy u t s P → count t (ring s v (e ∷ P)) ≡ 0
rings-more u t s v (Put r w m k f) P h i c = rings-put t s v w f (frame m k) P (is_settled v P) (made-clear t (frame m k) i) (c.rings v)
rings-more u t s v (Settle r w) P h i c = rings-settle t (eqb w v) (is_settled v P) (ring_of (node s v).work (firings v P) (puts v P)) (c.rings v)
rings-more u t s v _ P h i c = c.rings v

-- FILES

no_file : (t : FrameName → Bool) (s : Setting) (v : ℕ) (P : Past) → is_file (node s v).work ≡ false → count t (unsaved s v P) ≡ 0
no_file t s v P h = rw h refl

files-reclaim : (u t : FrameName → Bool) (s : Setting) (r v : ℕ) (e : Entry) (P : Past) → is_legal s P ≡ true → hand r P ≡ Some e → is_piece v e ≡ true
    → is_file (node s v).work ≡ true → ClearBy u t s P → count t (unsaved s v (Reclaim r ∷ P)) ≡ 0
files-reclaim u t s r v (Save q w m k g) P h held piece file c =
    let at_v : hand r P ≡ Some (Save q v m k g) = subst (λ (u : ℕ). hand r P ≡ Some (Save q u m k g)) (eqb-true w v piece) held in
    let none : t (frame m k) ≡ false = hand-clear (holds_by u t) r (Save q w m k g) P held c.roles in
    let back : count t (unsaved s v (Reclaim r ∷ P)) ≡ bit (t (frame m k)) + count t (unsaved s v P) =
    ap (count t) (unsaved-Reclaim s r v q m k g P h file at_v) ∙ count-cons t (frame m k) (unsaved s v P) in
    omega (arith, back, none-bit (t (frame m k)) none, c.files v)
files-reclaim u t s r v _ P h held piece file c = absurd (false≢true piece)

files-more : (u t : FrameName → Bool) (s : Setting) (v : ℕ) (e : Entry) (P : Past) → is_legal s (e ∷ P) ≡ true → count t (issued_by e) ≡ 0 → ClearBy u t s P
    → count t (unsaved s v (e ∷ P)) ≡ 0
files-more u t s v (Put r w m k f) P h i c =
    let legal : is_legal s P ≡ true = (and_parts _ _ h).0 in
    elim (cases_Bool (is_file (node s v).work)) [
      | inr none ↦ no_file t s v (Put r w m k f ∷ P) none
      | inl file ↦ elim (cases_Bool (eqb w v)) [
        | inl here ↦
            let clear : t (frame m k) ≡ false = made-clear t (frame m k) i in
            let more : count t (unsaved s v (Put r v m k f ∷ P)) ≡ count t (unsaved s v P) + count t (frame m k ∷ []) =
            ap (count t) (unsaved-Put s r v m k f P legal file) ∙ count-append t (unsaved s v P) (frame m k ∷ []) in
            subst (λ (u : ℕ). count t (unsaved s v (Put r u m k f ∷ P)) ≡ 0) (sym (eqb-true w v here))
            (omega (arith, more, count-cons t (frame m k) [], none-bit (t (frame m k)) clear, c.files v))
        | inr away ↦ ap (count t) (unsaved-Put_elsewhere s r v w m k f P (eqb-false w v away)) ∙ c.files v
      ]
    ]
files-more u t s v (Save r w m k g) P h i c =
    let legal : is_legal s P ≡ true = (and_parts _ _ h).0 in
    elim (cases_Bool (eqb w v)) [
      | inl here ↦
          let is : w ≡ v = eqb-true w v here in
          let row : first s P (Save r v m k g) ≡ true = subst (λ (u : ℕ). first s P (Save r u m k g) ≡ true) is (row_of s (Save r w m k g) P (λ d. refl) h) in
          let less : count t (unsaved s v P) ≡ bit (t (frame m k)) + count t (unsaved s v (Save r v m k g ∷ P)) =
          ap (count t) (unsaved-Save s r v m k g P legal row) ∙ count-cons t (frame m k) (unsaved s v (Save r v m k g ∷ P)) in
          subst (λ (u : ℕ). count t (unsaved s v (Save r u m k g ∷ P)) ≡ 0) (sym is) (omega (arith, less, c.files v))
      | inr away ↦ ap (count t) (unsaved-Save_elsewhere s r v w m k g P (eqb-false w v away)) ∙ c.files v
    ]
files-more u t s v (Reclaim r) P h i c =
    let legal : is_legal s P ≡ true = (and_parts _ _ h).0 in
    let e = reclaim_hand s r P h in
    elim (cases_Bool (is_file (node s v).work)) [
      | inr none ↦ no_file t s v (Reclaim r ∷ P) none
      | inl file ↦ elim (cases_Bool (is_piece v e.0)) [
        | inl piece ↦ files-reclaim u t s r v e.0 P legal e.1 piece file c
        | inr other ↦ ap (count t) (unsaved-Reclaim_other s r v e.0 P legal e.1 other) ∙ c.files v
      ]
    ]
files-more u t s v _ P h i c = c.files v

-- HANDS

one_more_hand : (p : Entry → Bool) (r : ℕ) (e : Entry) (hs : List Entry) → p e ≡ false → count p hs ≡ 0 → count p (e ∷ let_go r hs) ≡ 0
one_more_hand p r e hs none h = omega (arith, count-cons p e (let_go r hs), count-let_go-le p r hs, none-bit (p e) none, h)

fewer_hands : (p : Entry → Bool) (r : ℕ) (hs : List Entry) → count p hs ≡ 0 → count p (let_go r hs) ≡ 0
fewer_hands p r hs h = omega (arith, count-let_go-le p r hs, h)

or-none : (a b : Bool) → a ≡ false → b ≡ false → (a || b) ≡ false
or-none a b h g = rw h g

roles-more : (u t : FrameName → Bool) (s : Setting) (e : Entry) (P : Past) → is_legal s (e ∷ P) ≡ true → ClearBy u t s P → count u (made_by e) ≡ 0
    → count (holds_by u t) (hands (e ∷ P)) ≡ 0
roles-more u t s (Load r k b n f g x) P h c made = one_more_hand (holds_by u t) r (Load r k b n f g x) (hands P) (made-clear u (frame 0 k) made) c.roles
roles-more u t s (Take r v m k) P h c made =
    one_more_hand (holds_by u t) r (Take r v m k) (hands P) (take-clear u t s r v m k P (may-Take s r v m k P h) c) c.roles
roles-more u t s (TakeBlock f x r v m k b n g) P h c made =
    one_more_hand (holds_by u t) r (TakeBlock f x r v m k b n g) (hands P)
    (or-none (u (frame v k)) (t (frame m k)) (made-clear u (frame v k) made) (take-clear u t s r v m k P (may-TakeBlock s r v m k b n f g x P h) c)) c.roles
roles-more u t s (Save r v m k g) P h c made =
    one_more_hand (holds_by u t) r (Save r v m k g) (hands P) (front-clear t (frame m k) (unsaved s v P)
    (first_of-next (frame m k) (unsaved s v P) (save-facts s r v m k g P (row_of s (Save r v m k g) P (λ d. refl) h)).piece.front) (c.files v)) c.roles
roles-more u t s (Issue r k) P h c made = fewer_hands (holds_by u t) r (hands P) c.roles
roles-more u t s (Put r v m k f) P h c made = fewer_hands (holds_by u t) r (hands P) c.roles
roles-more u t s (Saved r v m k) P h c made = fewer_hands (holds_by u t) r (hands P) c.roles
roles-more u t s (Reclaim r) P h c made = fewer_hands (holds_by u t) r (hands P) c.roles
roles-more u t s _ P h c made = c.roles

-- WHAT IS CALLED FOR

carried-one : (v : ℕ) (t : FrameName → Bool) (d : Entry) → is_out_at v d ≡ true → carries t d ≡ out_of v t d
carried-one v t (Emit w m k why) h = sym (ap (λ (b : Bool). b && t (frame m k)) h)
carried-one v t (SortDrop w m k) h = sym (ap (λ (b : Bool). b && t (frame m k)) h)
carried-one v t _ h = absurd (false≢true h)

carried : (v : ℕ) (t : FrameName → Bool) (ds : List Entry) → AllOutAt v ds → count (carries t) ds ≡ count (out_of v t) ds
carried v t [] h = refl
carried v t (d ∷ ds) h =
    let p = and_parts (is_out_at v d) _ h in
    omega (arith, count-cons (carries t) d ds, count-cons (out_of v t) d ds, ap bit (carried-one v t d p.0), carried v t ds p.1)

look-clear : (t : FrameName → Bool) (s : Setting) (v : ℕ) (P : Past) (b : Bool) → count (waits t) (waiting s v P) ≡ 0
    → count (carries t) (cond b (look s v P) []) ≡ 0
look-clear t s v P true h = omega (arith, carried v t (look s v P) (goes_out-at s v _ _ _), count-look s v t P, h)
look-clear t s v P false h = refl

looks-clear : (t : FrameName → Bool) (s : Setting) (P : Past) (us : List ℕ) → ((v : ℕ) → count (waits t) (waiting s v P) ≡ 0)
    → count (carries t) (looks s P us) ≡ 0
looks-clear t s P [] h = refl
looks-clear t s P (u ∷ us) h =
    omega (
      arith,
      count-append (carries t) (cond (is_sorted s u) (look s u P) []) (looks s P us),
      look-clear t s u P (is_sorted s u) (h u),
      looks-clear t s P us h,
    )

offers-clear : (t : FrameName → Bool) (a : FrameName) (cs : List ℕ) → t a ≡ false → count (carries t) (map (offer a) cs) ≡ 0
offers-clear t a [] h = refl
offers-clear t a (c ∷ cs) h = omega (arith, count-cons (carries t) (offer a c) (map (offer a) cs), none-bit (t a) h, offers-clear t a cs h)

emits-clear : (t : FrameName → Bool) (v : ℕ) (why : Why) (xs : List FrameName) → count t xs ≡ 0 → count (carries t) (map (emit v why) xs) ≡ 0
emits-clear t v why [] h = refl
emits-clear t v why (x ∷ xs) h =
    let split = count-cons t x xs in
    omega (arith, count-cons (carries t) (emit v why x) (map (emit v why) xs), split, h, emits-clear t v why xs (omega (arith, split, h)))

one_emit-clear : (t : FrameName → Bool) (v : ℕ) (why : Why) (a : FrameName) → t a ≡ false → count (carries t) (emit v why a ∷ []) ≡ 0
one_emit-clear t v why a h = omega (arith, count-cons (carries t) (emit v why a) [], none-bit (t a) h)

only_if : (p : Entry → Bool) (b : Bool) (ds : List Entry) → count p ds ≡ 0 → count p (cond b ds []) ≡ 0
only_if p true ds h = h
only_if p false ds h = refl

sorted-clear : (u t : FrameName → Bool) (s : Setting) (v m k : ℕ) (f : Bool) (P : Past) → is_sorted s v ≡ true → t (frame m k) ≡ false → ClearBy u t s P
    → count (carries t) (sorted_result s v (frame m k) (waiting s v P) (Put 0 v m k f ∷ P)) ≡ 0
sorted-clear u t s v m k f P sorted none c =
    let new : Waiting = record { array = frame m k; tick = now P } in
    let is : waiting s v (Put 0 v m k f ∷ P) ≡ waiting s v P ++ new ∷ [] = waiting-put s v 0 m k f P sorted in
    let all : count (waits t) (waiting s v (Put 0 v m k f ∷ P)) ≡ count (waits t) (waiting s v P) + count (waits t) (new ∷ []) =
    ap (count (waits t)) is ∙ count-append (waits t) (waiting s v P) (new ∷ []) in
    let most = count-sorted_result s v t (frame m k) (now P) (waiting s v P) (Put 0 v m k f ∷ P) is in
    omega (
      arith,
      carried v t (sorted_result s v (frame m k) (waiting s v P) (Put 0 v m k f ∷ P)) (sorted_result-at s v (frame m k) (waiting s v P) (Put 0 v m k f ∷ P)),
      most,
      all,
      count-cons (waits t) new [],
      none-bit (t (frame m k)) none,
      c.lists v,
    )

either_clear : (p : Entry → Bool) (b : Bool) (xs ys : List Entry) → (b ≡ true → count p xs ≡ 0) → count p ys ≡ 0 → count p (cond b xs ys) ≡ 0
either_clear p true xs ys h g = h refl
either_clear p false xs ys h g = g

passed-clear : (u t : FrameName → Bool) (s : Setting) (v m k : ℕ) (f : Bool) (P : Past) → t (frame m k) ≡ false → ClearBy u t s P
    → count (carries t) (cond (is_sorted s v) (sorted_result s v (frame m k) (waiting s v P) (Put 0 v m k f ∷ P)) (emit v Plain (frame m k) ∷ [])) ≡ 0
passed-clear u t s v m k f P none c =
    either_clear (carries t) (is_sorted s v) (sorted_result s v (frame m k) (waiting s v P) (Put 0 v m k f ∷ P)) (emit v Plain (frame m k) ∷ [])
    (λ sorted. sorted-clear u t s v m k f P sorted none c) (one_emit-clear t v Plain (frame m k) none)

put-calls : (u t : FrameName → Bool) (s : Setting) (v m k : ℕ) (f : Bool) (P : Past) (w : Work) → t (frame m k) ≡ false → ClearBy u t s P
    → count (carries t) (result s v (frame m k) f P w) ≡ 0
put-calls u t s v m k f P Makes none c = passed-clear u t s v m k f P none c
put-calls u t s v m k f P (Passes d) none c = passed-clear u t s v m k f P none c
put-calls u t s v m k f P (Saves whole n) none c = refl
put-calls u t s v m k f P (Watches pre post preset) none c =
    let flags : List Bool = firings v P in
    let b : Bool = is_trigger post preset (flags ++ f ∷ []) (length flags) in
    let d : Bool = is_passed pre post preset (flags ++ f ∷ []) (length flags) in
    count-append (carries t) (cond b (map (emit v Ring) (ring s v P)) []) (cond d (emit v Now (frame m k) ∷ []) [])
    ∙ omega (
      arith,
      only_if (carries t) b (map (emit v Ring) (ring s v P)) (emits-clear t v Ring (ring s v P) (c.rings v)),
      only_if (carries t) d (emit v Now (frame m k) ∷ []) (one_emit-clear t v Now (frame m k) none),
    )

calls-clear : (u t : FrameName → Bool) (s : Setting) (e : Entry) (P : Past) → is_legal s (e ∷ P) ≡ true → count t (issued_by e) ≡ 0 → ClearBy u t s P
    → count (carries t) (calls_for s P e) ≡ 0
calls-clear u t s (Tick z) P h i c = looks-clear t s (Tick z ∷ P) (node_numbers s) c.lists
calls-clear u t s (Issue r k) P h i c = one_emit-clear t 0 Plain (frame 0 k) (made-clear t (frame 0 k) i)
calls-clear u t s (Emit v m k why) P h i c = offers-clear t (frame m k) (offered_to s P v) (emit-clear u t s v m k why P h c)
calls-clear u t s (Put r v m k f) P h i c = put-calls u t s v m k f P (node s v).work (made-clear t (frame m k) i) c
calls-clear u t s (Settle r v) P h i c =
    let ws : List Waiting = least_first s (waiting s v P) in
    omega (arith, carried v t (calls_for s P (Settle r v)) (flush-at v ws), count-flush v t ws, count-least_first s (waits t) (waiting s v P), c.lists v)
calls-clear u t s _ P h i c = refl

calls-more : (u t : FrameName → Bool) (s : Setting) (e : Entry) (P : Past) → is_legal s (e ∷ P) ≡ true → count t (issued_by e) ≡ 0 → ClearBy u t s P
    → count (carries t) (owed s (e ∷ P)) ≡ 0
calls-more u t s e P h i c =
    omega (arith, count-append (carries t) (calls_for s P e) (drop 1 (owed s P)), calls-clear u t s e P h i c, count-drop (carries t) (owed s P), c.calls)

-- before any entry
pub clear-start : (u t : FrameName → Bool) (s : Setting) → ClearBy u t s []
clear-start u t s = record {
  queues = λ v. refl;
  lists = λ v. refl;
  rings = λ v. no_ring t (node s v).work;
  files = λ v. elim (is_file (node s v).work) as (λ b. count t (cond {A = List FrameName} b [] []) ≡ 0) [ true ↦ refl | false ↦ refl ];
  roles = refl;
  calls = refl;
}
  where
    no_ring : (t : FrameName → Bool) (w : Work) → count t (ring_of w [] []) ≡ 0
    no_ring t Makes = refl
    no_ring t (Passes d) = refl
    no_ring t (Saves whole n) = refl
    no_ring t (Watches pre post preset) = ap (count t) (kept-nothing pre post preset)

-- one more entry
pub clear_by-more : (u t : FrameName → Bool) (s : Setting) (e : Entry) (P : Past) → is_legal s (e ∷ P) ≡ true → count u (made_by e) ≡ 0
    → count t (issued_by e) ≡ 0 → ClearBy u t s P → ClearBy u t s (e ∷ P)
clear_by-more u t s e P h made i c = record {
  queues = λ v. queues-more u t s v e P h c;
  lists = λ v. lists-more u t s v e P h i c;
  rings = λ v. rings-more u t s v e P h i c;
  files = λ v. files-more u t s v e P h i c;
  roles = roles-more u t s e P h c made;
  calls = calls-more u t s e P h i c;
}

issued-clear : (t : FrameName → Bool) (s : Setting) (e : Entry) (P : Past) → is_legal s (e ∷ P) ≡ true → Clear t s P → count t (issued_by e) ≡ 0
issued-clear t s (Issue r k) P h c = omega (arith, count-cons t (frame 0 k) [], none-bit (t (frame 0 k)) (issue-clear t s r k P h c))
issued-clear t s (Put r v m k f) P h c = omega (arith, count-cons t (frame m k) [], none-bit (t (frame m k)) (put-clear t s r v m k f P h c))
issued-clear t s _ P h c = refl

pub clear-more : (t : FrameName → Bool) (s : Setting) (e : Entry) (P : Past) → is_legal s (e ∷ P) ≡ true
    → count t (made_by e) ≡ 0 → Clear t s P → Clear t s (e ∷ P)
clear-more t s e P h made c = clear_by-more t t s e P h made (issued-clear t s e P h c) c
