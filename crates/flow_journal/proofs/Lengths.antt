-- How long a legal log can be: each entry is of a frame, of an arrival, or the only one of its node or role.
use Rattle.std.proofs.Common.{◌≡◌, ◌≢◌, ℕ, zero, suc, ◌+◌, ◌*◌, ◌≤◌, ◌<◌, Bool, true, false, ◌&&◌, cond, eqb, ltb, List, [], ◌∷◌, length, refl, sym, ap}
use Rattle.std.proofs.Common.{◌∙◌, subst, arith, Some, inl, inr, ◌⊎◌, length-append}
use Rattle.std.specs.Prelude.{flat_map}
use Rattle.std.proofs.lemmas.Bool.{and_parts, false≢true, true≢false, ne_eqb, eqb-true, eqb-false, ltb-true, ltb-false, lt-ltb, cases_Bool}
use Rattle.std.proofs.Math.Nat.{mul_comm, mul_assoc}
use Rattle.nd_base.specs.declared.frame.FrameName.{FrameName}
use Rattle.flow_journal.specs.declared.entry.Entry.{Entry}
use Rattle.flow_journal.specs.declared.entry.Entry.TheVariants.{Load, LoadRefused, Tick, Issue, Emit, Accept, Full, Take, TakeBlock, PoolDrop, Put}
use Rattle.flow_journal.specs.declared.entry.Entry.TheVariants.{SortDrop, Settle, Save, Saved, Close, Leave, Reclaim}
use Rattle.flow_journal.specs.Setting.{Setting, Node, node, numbers_from, node_numbers, last_role}
use Rattle.flow_journal.specs.Pasts.{Past, frame, comes_at}
use Rattle.flow_journal.specs.EntryTests.{is_reclaim, is_tick}
use Rattle.flow_journal.specs.Hands.{takes_up, let_go, hands, hand, standing, is_free}
use Rattle.flow_journal.specs.Ended.{settles, closes, leaves, leaves_as, reclaims}
use Rattle.flow_journal.specs.Offered.{loads, next_index, offered}
use Rattle.flow_journal.specs.Puts.{puts}
use Rattle.flow_journal.specs.Unsaved.{saves, standing_saves, is_file}
use Rattle.flow_journal.specs.FirstEntries.{may_load, pool_grants, pool_refuses}
use Rattle.flow_journal.specs.Histories.{is_legal}
use Rattle.flow_journal.specs.IndexLaws.{below}
use Rattle.flow_journal.specs.LengthLaws.{arrivals, most_entries, LengthLaws}
use Rattle.flow_journal.proofs.Rows.{row_laws, load-facts, take-facts}
use Rattle.flow_journal.proofs.Hands.{row_of, stood, stands-less}
use Rattle.flow_journal.proofs.Travels.{may-Take, may-TakeBlock}
use Rattle.flow_journal.proofs.Found.{found_up, none_counted}
use Rattle.flow_journal.proofs.Counts.{times_by, hand-standing}
use Rattle.flow_journal.proofs.EntryCounts.{count, bit, count-cons, count-append, count-let_go, count-let_go-le, arrives_at, arrives-le, leaves_at}
use Rattle.flow_journal.proofs.EntryCounts.{takes-le, puts_at}
use Rattle.flow_journal.proofs.Jobs.{reclaim_hand, puts-taken}
use Rattle.flow_journal.proofs.Outs.{out_of, of_index}
use Rattle.flow_journal.proofs.Offers.{is_number, none_arrives, none_numbered_0}
use Rattle.flow_journal.proofs.Issues.{comes-count, leaves-accepted}
use Rattle.flow_journal.proofs.Emissions.{outs-puts, puts-of_index}
use Rattle.flow_journal.proofs.Driver.{issues_at, issues-loads, outs-issued, is_offer, ticks-offers}
use Rattle.flow_journal.proofs.Once.{load-few, arrives-few}
use Rattle.flow_journal.proofs.Pieces.{rest_of, saves-front}
use Rattle.flow_journal.proofs.LastOuts.{any_array, none_out}
use Rattle.flow_journal.proofs.Indices.{index_laws}
use Rattle.flow_journal.proofs.Buckets.{sum_same, sum_nodes, AreBuckets, few_in_buckets, one_in_buckets}

-- WHAT STANDS

-- no hand passes the test
pub record PassNoHand (p : Entry → Bool) : Type 0 where
  pub load : (r k b n : ℕ) (f : Bool) (g : ℕ) (x : Bool) → p (Load r k b n f g x) ≡ false
  pub take : (r v m k : ℕ) → p (Take r v m k) ≡ false
  pub take_block : (f x : Bool) (r v m k b n g : ℕ) → p (TakeBlock f x r v m k b n g) ≡ false
  pub save : (r v m k g : ℕ) → p (Save r v m k g) ≡ false

no_hand : (p : Entry → Bool) → PassNoHand p → (r : ℕ) (e : Entry) → takes_up r e ≡ true → p e ≡ false
no_hand p h r (Load q k b n f g x) up = h.load q k b n f g x
no_hand p h r (Take q v m k) up = h.take q v m k
no_hand p h r (TakeBlock f x q v m k b n g) up = h.take_block f x q v m k b n g
no_hand p h r (Save q v m k g) up = h.save q v m k g
no_hand p h r _ up = absurd (false≢true up)

kept-let_go : (p : Entry → Bool) → PassNoHand p → (r : ℕ) (es : List Entry) → count p (let_go r es) ≡ count p es
kept-let_go p h r [] = refl
kept-let_go p h r (e ∷ es) =
    elim (cases_Bool (takes_up r e)) [
      | inl here ↦ rw here (omega (arith, count-cons p e es, ap bit (no_hand p h r e here)))
      | inr away ↦ rw away (omega (arith, kept-let_go p h r es, count-cons p e (let_go r es), count-cons p e es))
    ]

-- what is no hand stands
pub all-stand : (p : Entry → Bool) → PassNoHand p → (P : Past) → count p (standing P) ≡ count p P
all-stand p h [] = refl
all-stand p h (Reclaim r ∷ P) =
    let kept : count p (cond (is_free r P) (standing P) (let_go r (standing P))) ≡ count p (standing P) =
    elim (is_free r P) as (λ b. count p (cond b (standing P) (let_go r (standing P))) ≡ count p (standing P)) [
      | true ↦ refl
      | false ↦ kept-let_go p h r (standing P)
    ] in
    omega (arith, all-stand p h P, kept, count-cons p (Reclaim r) (cond (is_free r P) (standing P) (let_go r (standing P))), count-cons p (Reclaim r) P)
all-stand p h (e ∷ P) = omega (arith, all-stand p h P, count-cons p e (standing P), count-cons p e P)

-- each reclaim takes one entry back
pub stand-most : (s : Setting) (P : Past) (p : Entry → Bool) → is_legal s P ≡ true → count p P ≤ count p (standing P) + count is_reclaim P
stand-most s [] p h = omega arith
stand-most s (Reclaim r ∷ P) p h =
    let e = reclaim_hand s r P h in
    let legal : is_legal s P ≡ true = (and_parts _ _ h).0 in
    omega (
      arith,
      stand-most s P p legal,
      ap (count p) (stood r e.0 P e.1),
      count-let_go p r e.0 (standing P) (hand-standing s P r e.0 legal e.1),
      bit-le (p e.0),
      count-cons p (Reclaim r) (let_go r (standing P)),
      count-cons p (Reclaim r) P,
    )
  where
    bit-le : (b : Bool) → bit b ≤ 1
    bit-le true = omega arith
    bit-le false = omega arith
stand-most s (e ∷ P) p h = omega (arith, stand-most s P p (and_parts _ _ h).0, count-cons p e (standing P), count-cons p e P)

-- FRAMES

next-loaded : (s : Setting) (r : ℕ) (e : Entry) (P : Past) → is_legal s (Reclaim r ∷ P) ≡ true → hand r P ≡ Some e → next_index (Reclaim r ∷ P) ≤ next_index P
next-loaded s r (Load q k b n f g x) P h held = omega (arith, index_laws.reclaim s r q k b n f g x P h held)
next-loaded s r (Take q w m k) P h held = omega (arith, index_laws.reclaim_other s r (Take q w m k) P (and_parts _ _ h).0 held refl)
next-loaded s r (TakeBlock f x q w m k b n g) P h held =
    omega (arith, index_laws.reclaim_other s r (TakeBlock f x q w m k b n g) P (and_parts _ _ h).0 held refl)
next-loaded s r e P h held = omega (arith, index_laws.reclaim_other s r e P (and_parts _ _ h).0 held refl)

-- no frame beyond the stack is offered
next-within : (s : Setting) (P : Past) → is_legal s P ≡ true → next_index P ≤ length s.ids
next-within s [] h = omega arith
next-within s (Load r k b n f g x ∷ P) h =
    let facts = load-facts s r k P (and_parts (may_load s r k P) (pool_grants s 0 b n f g x P) (row_of s (Load r k b n f g x) P (λ d. refl) h)).0 in
    omega (arith, index_laws.load s r k b n f g x P h, facts.in_turn, facts.some)
next-within s (LoadRefused r k n z ∷ P) h =
    let facts = load-facts s r k P (and_parts (may_load s r k P) (pool_refuses s 0 n z P) (row_of s (LoadRefused r k n z) P (λ d. refl) h)).0 in
    omega (arith, index_laws.load_refused s r k n z P h, facts.in_turn, facts.some)
next-within s (Reclaim r ∷ P) h =
    let e = reclaim_hand s r P h in
    omega (arith, next-loaded s r e.0 P h e.1, next-within s P (and_parts _ _ h).0)
next-within s (e ∷ P) h = omega (arith, index_laws.others e P refl, next-within s P (and_parts _ _ h).0)

length-below : (n : ℕ) → length (below n) ≡ n
length-below zero = refl
length-below (suc n) = let rest = length-below n in omega (arith, rest)

offers-listed : (es : List Entry) → count is_offer es ≡ length (flat_map loads es)
offers-listed [] = refl
offers-listed (Load r k b n f g x ∷ es) = omega (arith, offers-listed es)
offers-listed (LoadRefused r k n z ∷ es) = omega (arith, offers-listed es)
offers-listed (_ ∷ es) = offers-listed es

-- the loads that stand and the refusals are no more than the frames
offers-few : (s : Setting) (P : Past) → is_legal s P ≡ true → count is_offer (standing P) ≤ length s.ids
offers-few s P h = omega (arith, offers-listed (standing P), ap length (index_laws.offered s P h), length-below (next_index P), next-within s P h)

abbrev is_issue : Entry → Bool
is_issue (Issue r k) = true
is_issue _ = false

abbrev index_of : Entry → ℕ
index_of (Issue r k) = k
index_of (Emit w m k why) = k
index_of (Accept w m k) = k
index_of (Full w m k) = k
index_of (Take r w m k) = k
index_of (TakeBlock f x r w m k b n g) = k
index_of (PoolDrop r w m k n z) = k
index_of (Put r w m k f) = k
index_of (SortDrop w m k) = k
index_of (Save r w m k g) = k
index_of (Saved r w m k) = k
index_of _ = 0

issues-buckets : AreBuckets is_issue index_of issues_at
issues-buckets (Issue r k) v = refl
issues-buckets _ v = refl

issues-few : (s : Setting) (P : Past) → is_legal s P ≡ true → count is_issue P ≤ length s.ids
issues-few s P h = one_in_buckets is_issue index_of issues_at issues-buckets (length s.ids) P (λ k. omega (arith, issues-loads s P k h, load-few s P k h))

-- ARRIVALS

-- the node of an entry of a node
abbrev node_of : Entry → ℕ
node_of (Emit w m k why) = w
node_of (Accept w m k) = w
node_of (Full w m k) = w
node_of (Take r w m k) = w
node_of (TakeBlock f x r w m k b n g) = w
node_of (PoolDrop r w m k n z) = w
node_of (Put r w m k f) = w
node_of (SortDrop w m k) = w
node_of (Save r w m k g) = w
node_of (Saved r w m k) = w
node_of (Settle r w) = w
node_of _ = 0

-- the entry is of an array at a node
abbrev flows : Entry → Bool
flows (Emit w m k why) = true
flows (Accept w m k) = true
flows (Full w m k) = true
flows (Take r w m k) = true
flows (TakeBlock f x r w m k b n g) = true
flows (PoolDrop r w m k n z) = true
flows (Put r w m k f) = true
flows (SortDrop w m k) = true
flows (Save r w m k g) = true
flows (Saved r w m k) = true
flows _ = false

abbrev flows_at : ℕ → Entry → Bool
flows_at v e = flows e && eqb (node_of e) v

abbrev flows_of : ℕ → ℕ → Entry → Bool
flows_of v k e = flows_at v e && eqb (index_of e) k

abbrev saves_at : ℕ → ℕ → Entry → Bool
saves_at v k (Save r w m j g) = eqb w v && eqb j k
saves_at v k _ = false

abbrev saved_at : ℕ → ℕ → Entry → Bool
saved_at v k (Saved r w m j) = eqb w v && eqb j k
saved_at v k _ = false

-- an array comes, leaves the queue, is put, goes out or is dropped, is saved, and comes back
parts : (v k : ℕ) (es : List Entry)
    → count (flows_of v k) es ≡ count (arrives_at v k) es + count (leaves_at v k) es + count (puts_at v k) es + count (out_of v (of_index k)) es
    + count (saves_at v k) es + count (saved_at v k) es
parts v k [] = refl
parts v k (Emit w m j why ∷ es) =
    omega (arith, parts v k es, count-cons (flows_of v k) (Emit w m j why) es, count-cons (out_of v (of_index k)) (Emit w m j why) es)
parts v k (SortDrop w m j ∷ es) =
    omega (arith, parts v k es, count-cons (flows_of v k) (SortDrop w m j) es, count-cons (out_of v (of_index k)) (SortDrop w m j) es)
parts v k (Accept w m j ∷ es) = omega (arith, parts v k es, count-cons (flows_of v k) (Accept w m j) es, count-cons (arrives_at v k) (Accept w m j) es)
parts v k (Full w m j ∷ es) = omega (arith, parts v k es, count-cons (flows_of v k) (Full w m j) es, count-cons (arrives_at v k) (Full w m j) es)
parts v k (Take r w m j ∷ es) = omega (arith, parts v k es, count-cons (flows_of v k) (Take r w m j) es, count-cons (leaves_at v k) (Take r w m j) es)
parts v k (TakeBlock f x r w m j b n g ∷ es) =
    omega (arith, parts v k es, count-cons (flows_of v k) (TakeBlock f x r w m j b n g) es, count-cons (leaves_at v k) (TakeBlock f x r w m j b n g) es)
parts v k (PoolDrop r w m j n z ∷ es) =
    omega (arith, parts v k es, count-cons (flows_of v k) (PoolDrop r w m j n z) es, count-cons (leaves_at v k) (PoolDrop r w m j n z) es)
parts v k (Put r w m j f ∷ es) = omega (arith, parts v k es, count-cons (flows_of v k) (Put r w m j f) es, count-cons (puts_at v k) (Put r w m j f) es)
parts v k (Save r w m j g ∷ es) = omega (arith, parts v k es, count-cons (flows_of v k) (Save r w m j g) es, count-cons (saves_at v k) (Save r w m j g) es)
parts v k (Saved r w m j ∷ es) = omega (arith, parts v k es, count-cons (flows_of v k) (Saved r w m j) es, count-cons (saved_at v k) (Saved r w m j) es)
parts v k (_ ∷ es) = parts v k es

-- what came back was saved
saved-saves : (s : Setting) (P : Past) (v k : ℕ) → is_legal s P ≡ true
    → count (saved_at v k) P + count (saves_at v k) (hands P) ≤ count (saves_at v k) (standing P)
saved-saves s [] v k h = omega arith
saved-saves s (Save r w m j g ∷ P) v k h =
    omega (
      arith,
      saved-saves s P v k (and_parts _ _ h).0,
      count-cons (saves_at v k) (Save r w m j g) (let_go r (hands P)),
      count-let_go-le (saves_at v k) r (hands P),
      count-cons (saves_at v k) (Save r w m j g) (standing P),
    )
saved-saves s (Load r j b n f g x ∷ P) v k h = omega (arith, saved-saves s P v k (and_parts _ _ h).0, count-let_go-le (saves_at v k) r (hands P))
saved-saves s (Take r w m j ∷ P) v k h = omega (arith, saved-saves s P v k (and_parts _ _ h).0, count-let_go-le (saves_at v k) r (hands P))
saved-saves s (TakeBlock f x r w m j b n g ∷ P) v k h = omega (arith, saved-saves s P v k (and_parts _ _ h).0, count-let_go-le (saves_at v k) r (hands P))
saved-saves s (Saved r w m j ∷ P) v k h =
    let piece = (row_laws.saved s P r w m j).0 (row_of s (Saved r w m j) P (λ d. refl) h) in
    omega (
      arith,
      saved-saves s P v k (and_parts _ _ h).0,
      count-cons (saved_at v k) (Saved r w m j) P,
      count-cons (saves_at v k) (Save r w m j piece.0) [],
      count-let_go (saves_at v k) r (Save r w m j piece.0) (hands P) piece.1,
    )
saved-saves s (Issue r j ∷ P) v k h = omega (arith, saved-saves s P v k (and_parts _ _ h).0, count-let_go-le (saves_at v k) r (hands P))
saved-saves s (Put r w m j f ∷ P) v k h = omega (arith, saved-saves s P v k (and_parts _ _ h).0, count-let_go-le (saves_at v k) r (hands P))
saved-saves s (Reclaim r ∷ P) v k h =
    let e = reclaim_hand s r P h in
    let legal : is_legal s P ≡ true = (and_parts _ _ h).0 in
    omega (
      arith,
      saved-saves s P v k legal,
      ap (count (saves_at v k)) (stood r e.0 P e.1),
      count-let_go (saves_at v k) r e.0 (hands P) e.1,
      count-let_go (saves_at v k) r e.0 (standing P) (hand-standing s P r e.0 legal e.1),
    )
saved-saves s (_ ∷ P) v k h = saved-saves s P v k (and_parts _ _ h).0

saves-listed : (v k : ℕ) (es : List Entry) → count (saves_at v k) es ≡ times_by (of_index k) (saves v es)
saves-listed v k [] = refl
saves-listed v k (Save r w m j g ∷ es) = omega (arith, saves-listed v k es, count-cons (saves_at v k) (Save r w m j g) es, comes-count v w m j k (saves v es))
saves-listed v k (_ ∷ es) = saves-listed v k es

puts-listed : (v k : ℕ) (es : List Entry) → count (puts_at v k) es ≡ times_by (of_index k) (puts v es)
puts-listed v k [] = refl
puts-listed v k (Put r w m j f ∷ es) = omega (arith, puts-listed v k es, count-cons (puts_at v k) (Put r w m j f) es, comes-count v w m j k (puts v es))
puts-listed v k (_ ∷ es) = puts-listed v k es

-- what is saved was put
saves-puts : (s : Setting) (P : Past) (v k : ℕ) → is_legal s P ≡ true → count (saves_at v k) (standing P) ≤ count (puts_at v k) P
saves-puts s P v k h =
    omega (
      arith,
      saves-listed v k (standing P),
      puts-listed v k P,
      ap (times_by (of_index k)) (saves-front s P v h),
      count-append (of_index k) (standing_saves v P) (rest_of v P),
    )

-- only file nodes save
no_saves : (s : Setting) (P : Past) (v k : ℕ) → is_file (node s v).work ≡ false → is_legal s P ≡ true → count (saves_at v k) (standing P) ≡ 0
no_saves s [] v k plain h = refl
no_saves s (Save r w m j g ∷ P) v k plain h =
    let file = ((row_laws.save s P r w m j g).0 (row_of s (Save r w m j g) P (λ d. refl) h)).piece.file in
    let away : eqb w v ≡ false = elsewhere (cases_Bool (eqb w v)) file in
    omega (arith, no_saves s P v k plain (and_parts _ _ h).0, count-cons (saves_at v k) (Save r w m j g) (standing P), ap (λ b. bit (b && eqb j k)) away)
  where
    elsewhere : (eqb w v ≡ true) ⊎ (eqb w v ≡ false) → is_file (node s w).work ≡ true → eqb w v ≡ false
    elsewhere (inr away) file = away
    elsewhere (inl here) file = absurd (true≢false (sym file ∙ (ap (λ (u : ℕ). is_file (node s u).work) (eqb-true w v here) ∙ plain)))
no_saves s (Reclaim r ∷ P) v k plain h =
    omega (arith, no_saves s P v k plain (and_parts _ _ h).0, ap (count (saves_at v k)) (stands-less s r P h), count-let_go-le (saves_at v k) r (standing P))
no_saves s (_ ∷ P) v k plain h = no_saves s P v k plain (and_parts _ _ h).0

one-le : (b c : Bool) → bit (b && c) ≤ bit (b && true)
one-le true true = omega arith
one-le true false = omega arith
one-le false c = omega arith

outs-any : (v k : ℕ) (es : List Entry) → count (out_of v (of_index k)) es ≤ count (out_of v any_array) es
outs-any v k [] = omega arith
outs-any v k (Emit w m j why ∷ es) =
    omega (
      arith,
      outs-any v k es,
      one-le (eqb w v) (eqb j k),
      count-cons (out_of v (of_index k)) (Emit w m j why) es,
      count-cons (out_of v any_array) (Emit w m j why) es,
    )
outs-any v k (SortDrop w m j ∷ es) =
    omega (
      arith,
      outs-any v k es,
      one-le (eqb w v) (eqb j k),
      count-cons (out_of v (of_index k)) (SortDrop w m j) es,
      count-cons (out_of v any_array) (SortDrop w m j) es,
    )
outs-any v k (_ ∷ es) = outs-any v k es

-- at a node an array that was put goes out or is dropped, or is saved and comes back
after-puts : (s : Setting) (P : Past) (v k : ℕ) → v ≢ 0 → is_legal s P ≡ true
    → count (out_of v (of_index k)) P + count (saves_at v k) (standing P) + count (saved_at v k) P ≤ count (puts_at v k) P + count (puts_at v k) P
after-puts s P v k nz h =
    let back = saved-saves s P v k h in
    elim (cases_Bool (is_file (node s v).work)) [
      | inl file ↦ omega (arith, back, saves-puts s P v k h, outs-any v k P, none_out s P v file h)
      | inr plain ↦ omega (arith, back, no_saves s P v k plain h, outs-puts s P v (of_index k) nz h, puts-of_index v k P)
    ]

arrivals-stand : (v k : ℕ) → PassNoHand (arrives_at v k)
arrivals-stand v k = record { load = λ _ _ _ _ _ _ _. refl; take = λ _ _ _ _. refl; take_block = λ _ _ _ _ _ _ _ _ _. refl; save = λ _ _ _ _ _. refl }

puts-stand : (v k : ℕ) → PassNoHand (puts_at v k)
puts-stand v k = record { load = λ _ _ _ _ _ _ _. refl; take = λ _ _ _ _. refl; take_block = λ _ _ _ _ _ _ _ _ _. refl; save = λ _ _ _ _ _. refl }

outs-stand : (v k : ℕ) → PassNoHand (out_of v (of_index k))
outs-stand v k = record { load = λ _ _ _ _ _ _ _. refl; take = λ _ _ _ _. refl; take_block = λ _ _ _ _ _ _ _ _ _. refl; save = λ _ _ _ _ _. refl }

saved-stand : (v k : ℕ) → PassNoHand (saved_at v k)
saved-stand v k = record { load = λ _ _ _ _ _ _ _. refl; take = λ _ _ _ _. refl; take_block = λ _ _ _ _ _ _ _ _ _. refl; save = λ _ _ _ _ _. refl }

standing-parts : (P : Past) (v k : ℕ)
    → count (flows_of v k) (standing P) ≡ count (arrives_at v k) P + count (leaves_at v k) (standing P) + count (puts_at v k) P
    + count (out_of v (of_index k)) P + count (saves_at v k) (standing P) + count (saved_at v k) P
standing-parts P v k =
    omega (
      arith,
      parts v k (standing P),
      all-stand (arrives_at v k) (arrivals-stand v k) P,
      all-stand (puts_at v k) (puts-stand v k) P,
      all-stand (out_of v (of_index k)) (outs-stand v k) P,
      all-stand (saved_at v k) (saved-stand v k) P,
    )

-- five entries an arrival
flows-few : (s : Setting) (P : Past) (v k : ℕ) → v ≢ 0 → is_legal s P ≡ true → count (flows_of v k) (standing P) ≤ 5 * count (arrives_at v k) P
flows-few s P v k nz h =
    omega (arith, standing-parts P v k, leaves-accepted s P v k h, arrives-le v k P, puts-taken s P v k h, takes-le v k (standing P), after-puts s P v k nz h)

-- at the driver only its emissions
driver-few : (s : Setting) (P : Past) (k : ℕ) → is_legal s P ≡ true → count (flows_of 0 k) (standing P) ≤ bit (ltb k (length s.ids))
driver-few s P k h =
    let none = none_arrives s P 0 k (none_numbered_0 s) h in
    omega (
      arith,
      standing-parts P 0 k,
      none,
      leaves-accepted s P 0 k h,
      arrives-le 0 k P,
      puts-taken s P 0 k h,
      takes-le 0 k (standing P),
      no_saves s P 0 k refl h,
      saved-saves s P 0 k h,
      outs-issued s P k h,
      issues-loads s P k h,
      load-few s P k h,
    )

-- what isn't numbered has no arrivals
pub not_numbered : (s : Setting) (v : ℕ) → length s.nodes < v → count (is_number v) (node_numbers s) ≡ 0
not_numbered s v high = beyond v 1 s.nodes (omega (arith, high))
  where
    beyond : (v u : ℕ) (ns : List Node) → length ns + u ≤ v → count (is_number v) (numbers_from u ns) ≡ 0
    beyond v u [] h = refl
    beyond v u (n ∷ ns) h =
        let ne : u ≢ v = λ e. absurd (omega (arith, h, e)) in
        omega (arith, count-cons (is_number v) u (numbers_from (u + 1) ns), ap bit (ne_eqb u v ne), beyond v (u + 1) ns (omega (arith, h)))

-- how many entries of one frame there can be at a node
abbrev weight : Setting → ℕ → ℕ
weight s v = cond (ltb v (suc (length s.nodes))) (cond (eqb v 0) 1 5) 0

weighed : (s : Setting) (P : Past) (v k : ℕ) → is_legal s P ≡ true → count (flows_of v k) (standing P) ≤ cond (ltb k (length s.ids)) (weight s v) 0
weighed s P v k h =
    elim (cases_Bool (eqb v 0)) [
      | inl driver ↦ at_driver (eqb-true v 0 driver)
      | inr at_node ↦
          let nz : v ≢ 0 = eqb-false v 0 at_node in
          let few = flows-few s P v k nz h in
          elim (cases_Bool (ltb v (suc (length s.nodes)))) [
            | inl known ↦
                let w : weight s v ≡ 5 = rw (known, at_node) refl in
                omega (arith, few, arrives-few s P v k h, five (ltb k (length s.ids)) (weight s v) w)
            | inr beyond ↦
                let high : length s.nodes < v = omega (arith, ltb-false v (suc (length s.nodes)) beyond) in
                omega (arith, few, none_arrives s P v k (not_numbered s v high) h)
          ]
    ]
  where
    five : (b : Bool) (n : ℕ) → n ≡ 5 → cond b n 0 ≡ 5 * bit b
    five true n is = is
    five false n is = refl

    one : (b : Bool) (n : ℕ) → n ≡ 1 → cond b n 0 ≡ bit b
    one true n is = is
    one false n is = refl

    low : ltb 0 (suc (length s.nodes)) ≡ true
    low = lt-ltb 0 (suc (length s.nodes)) (omega arith)

    at_driver : v ≡ 0 → count (flows_of v k) (standing P) ≤ cond (ltb k (length s.ids)) (weight s v) 0
    at_driver is =
        subst (λ (u : ℕ). count (flows_of u k) (standing P) ≤ cond (ltb k (length s.ids)) (weight s u) 0) (sym is)
        (omega (arith, driver-few s P k h, one (ltb k (length s.ids)) (weight s 0) (ap (λ (b : Bool). cond {A = ℕ} b 1 0) low)))

flows-node : (s : Setting) (P : Past) (v : ℕ) → is_legal s P ≡ true
    → count (flows_at v) (standing P) ≤ cond (ltb v (suc (length s.nodes))) (length s.ids * cond (eqb v 0) 1 5) 0
flows-node s P v h =
    let few : count (flows_at v) (standing P) ≤ length s.ids * weight s v =
    omega (
      arith,
      few_in_buckets (flows_at v) index_of (flows_of v) (λ e k. refl) (length s.ids) (λ k. weight s v) (standing P) (λ k. weighed s P v k h),
      sum_same (weight s v) (length s.ids),
    ) in
    omega (arith, few, out (ltb v (suc (length s.nodes))) (cond (eqb v 0) 1 5))
  where
    out : (b : Bool) (n : ℕ) → length s.ids * cond b n 0 ≡ cond b (length s.ids * n) 0
    out true n = refl
    out false n = omega arith

-- all that is of arrays
flows-all : (s : Setting) (P : Past) → is_legal s P ≡ true → count flows (standing P) ≤ length s.ids + 5 * arrivals s
flows-all s P h =
    let bound : ℕ → ℕ = λ v. cond (eqb v 0) (length s.ids) (length s.ids * 5) in
    let few : (v : ℕ) → count (flows_at v) (standing P) ≤ cond (ltb v (suc (length s.nodes))) (bound v) 0 =
    λ v. omega (arith, flows-node s P v h, out (ltb v (suc (length s.nodes))) (eqb v 0)) in
    let all = few_in_buckets flows node_of flows_at (λ e v. refl) (suc (length s.nodes)) bound (standing P) few in
    omega (arith, all, sum_nodes (length s.ids) (length s.ids * 5) (length s.nodes), turned)
  where
    turned : length s.nodes * (length s.ids * 5) ≡ 5 * (length s.ids * length s.nodes)
    turned =
        sym (mul_assoc (length s.nodes) (length s.ids) 5)
        ∙ (mul_comm (length s.nodes * length s.ids) 5 ∙ ap (λ (n : ℕ). 5 * n) (mul_comm (length s.nodes) (length s.ids)))

    out : (b c : Bool) → cond b (length s.ids * cond c 1 5) 0 ≡ cond b (cond c (length s.ids) (length s.ids * 5)) 0
    out true true = omega arith
    out true false = refl
    out false c = refl

-- ONCE EACH

abbrev is_settle : Entry → Bool
is_settle (Settle r v) = true
is_settle _ = false

settle-buckets : AreBuckets is_settle node_of settles
settle-buckets (Settle r w) v = refl
settle-buckets _ v = refl

settles-once : (s : Setting) (P : Past) (v : ℕ) → is_legal s P ≡ true → count (settles v) P ≤ cond (ltb v (suc (length s.nodes))) (cond (eqb v 0) 0 1) 0
settles-once s [] v h = omega arith
settles-once s (Settle r w ∷ P) v h =
    let before = settles-once s P v (and_parts _ _ h).0 in
    let facts = ((row_laws.settle s P r w).0 (row_of s (Settle r w) P (λ d. refl) h)).1 in
    let one = count-cons (settles v) (Settle r w) P in
    elim (cases_Bool (eqb w v)) [
      | inl here ↦
          let is : w ≡ v = eqb-true w v here in
          let none : count (settles v) P ≡ 0 = subst (λ (u : ℕ). count (settles u) P ≡ 0) is (none_counted (settles w) P facts.unsettled) in
          let low : ltb v (suc (length s.nodes)) ≡ true = lt-ltb v (suc (length s.nodes)) (omega (arith, facts.known, is)) in
          let nz : eqb v 0 ≡ false = ne_eqb v 0 (λ e. absurd (omega (arith, facts.above, is, e))) in
          let room : cond {A = ℕ} (ltb v (suc (length s.nodes))) (cond {A = ℕ} (eqb v 0) 0 1) 0 ≡ 1 = rw (low, nz) refl in
          omega (arith, one, none, ap bit here, room)
      | inr away ↦ omega (arith, before, one, ap bit away)
    ]
settles-once s (_ ∷ P) v h = settles-once s P v (and_parts _ _ h).0

settles-few : (s : Setting) (P : Past) → is_legal s P ≡ true → count is_settle P ≤ length s.nodes
settles-few s P h =
    omega (
      arith,
      few_in_buckets is_settle node_of settles settle-buckets (suc (length s.nodes)) (λ v. cond (eqb v 0) 0 1) P (λ v. settles-once s P v h),
      sum_nodes 0 1 (length s.nodes),
    )

closes-once : (s : Setting) (P : Past) → is_legal s P ≡ true → count closes P ≤ 1
closes-once s [] h = omega arith
closes-once s (Close r ∷ P) h =
    let facts = ((row_laws.close s P r).0 (row_of s (Close r) P (λ d. refl) h)).1 in
    omega (arith, count-cons closes (Close r) P, none_counted closes P facts.open_)
closes-once s (_ ∷ P) h = closes-once s P (and_parts _ _ h).0

abbrev role_of : Entry → ℕ
role_of (Leave r) = r
role_of (Reclaim r) = r
role_of _ = 0

leave-buckets : AreBuckets leaves role_of (λ r e. leaves_as r e)
leave-buckets (Leave q) r = refl
leave-buckets _ r = refl

leaves-once : (s : Setting) (P : Past) (r : ℕ) → is_legal s P ≡ true → count (leaves_as r) P ≤ bit (ltb r (suc (last_role s)))
leaves-once s [] r h = omega arith
leaves-once s (Leave q ∷ P) r h =
    let before = leaves-once s P r (and_parts _ _ h).0 in
    let facts = (row_laws.leave s P q).0 (row_of s (Leave q) P (λ d. refl) h) in
    let one = count-cons (leaves_as r) (Leave q) P in
    elim (cases_Bool (eqb q r)) [
      | inl here ↦
          let is : q ≡ r = eqb-true q r here in
          let none : count (leaves_as r) P ≡ 0 = subst (λ (u : ℕ). count (leaves_as u) P ≡ 0) is (none_counted (leaves_as q) P facts.1) in
          omega (arith, one, none, ap bit here, ap bit (lt-ltb r (suc (last_role s)) (omega (arith, facts.0, is))))
      | inr away ↦ omega (arith, before, one, ap bit away)
    ]
leaves-once s (_ ∷ P) r h = leaves-once s P r (and_parts _ _ h).0

leaves-few : (s : Setting) (P : Past) → is_legal s P ≡ true → count leaves P ≤ suc (last_role s)
leaves-few s P h = one_in_buckets leaves role_of (λ r e. leaves_as r e) leave-buckets (suc (last_role s)) P (λ r. leaves-once s P r h)

-- only roles have hands
pub role-idle : (s : Setting) (P : Past) (r : ℕ) → last_role s < r → is_legal s P ≡ true → count (takes_up r) (hands P) ≡ 0
role-idle s [] r high h = refl
role-idle s (Load q k b n f g x ∷ P) r high h =
    let facts = load-facts s q k P (and_parts (may_load s q k P) (pool_grants s 0 b n f g x P) (row_of s (Load q k b n f g x) P (λ d. refl) h)).0 in
    let ne : q ≢ r = λ e. absurd (omega (arith, facts.acts.role, high, e)) in
    omega (
      arith,
      role-idle s P r high (and_parts _ _ h).0,
      count-cons (takes_up r) (Load q k b n f g x) (let_go q (hands P)),
      count-let_go-le (takes_up r) q (hands P),
      ap bit (ne_eqb q r ne),
    )
role-idle s (Take q v m k ∷ P) r high h =
    let facts = take-facts s q v (frame m k) P (may-Take s q v m k P h) in
    let ne : q ≢ r = λ e. absurd (omega (arith, facts.acts.role, high, e)) in
    omega (
      arith,
      role-idle s P r high (and_parts _ _ h).0,
      count-cons (takes_up r) (Take q v m k) (let_go q (hands P)),
      count-let_go-le (takes_up r) q (hands P),
      ap bit (ne_eqb q r ne),
    )
role-idle s (TakeBlock f x q v m k b n g ∷ P) r high h =
    let facts = take-facts s q v (frame m k) P (may-TakeBlock s q v m k b n f g x P h) in
    let ne : q ≢ r = λ e. absurd (omega (arith, facts.acts.role, high, e)) in
    omega (
      arith,
      role-idle s P r high (and_parts _ _ h).0,
      count-cons (takes_up r) (TakeBlock f x q v m k b n g) (let_go q (hands P)),
      count-let_go-le (takes_up r) q (hands P),
      ap bit (ne_eqb q r ne),
    )
role-idle s (Save q v m k g ∷ P) r high h =
    let facts = (row_laws.save s P q v m k g).0 (row_of s (Save q v m k g) P (λ d. refl) h) in
    let ne : q ≢ r = λ e. absurd (omega (arith, facts.role, high, e)) in
    omega (
      arith,
      role-idle s P r high (and_parts _ _ h).0,
      count-cons (takes_up r) (Save q v m k g) (let_go q (hands P)),
      count-let_go-le (takes_up r) q (hands P),
      ap bit (ne_eqb q r ne),
    )
role-idle s (Issue q k ∷ P) r high h = omega (arith, role-idle s P r high (and_parts _ _ h).0, count-let_go-le (takes_up r) q (hands P))
role-idle s (Put q v m k f ∷ P) r high h = omega (arith, role-idle s P r high (and_parts _ _ h).0, count-let_go-le (takes_up r) q (hands P))
role-idle s (Saved q v m k ∷ P) r high h = omega (arith, role-idle s P r high (and_parts _ _ h).0, count-let_go-le (takes_up r) q (hands P))
role-idle s (Reclaim q ∷ P) r high h = omega (arith, role-idle s P r high (and_parts _ _ h).0, count-let_go-le (takes_up r) q (hands P))
role-idle s (_ ∷ P) r high h = role-idle s P r high (and_parts _ _ h).0

reclaim-buckets : AreBuckets is_reclaim role_of (λ r e. reclaims r e)
reclaim-buckets (Reclaim q) r = refl
reclaim-buckets _ r = refl

reclaims-once : (s : Setting) (P : Past) (r : ℕ) → is_legal s P ≡ true → count (reclaims r) P ≤ bit (ltb r (last_role s))
reclaims-once s [] r h = omega arith
reclaims-once s (Reclaim q ∷ P) r h =
    let legal : is_legal s P ≡ true = (and_parts _ _ h).0 in
    let before = reclaims-once s P r legal in
    let facts = (row_laws.reclaim s P q).0 (row_of s (Reclaim q) P (λ d. refl) h) in
    let one = count-cons (reclaims r) (Reclaim q) P in
    elim (cases_Bool (eqb q r)) [
      | inl here ↦
          let is : q ≡ r = eqb-true q r here in
          let none : count (reclaims r) P ≡ 0 = subst (λ (u : ℕ). count (reclaims u) P ≡ 0) is (none_counted (reclaims q) P facts.once) in
          omega (
            arith,
            one,
            none,
            ap bit here,
            ap bit (lt-ltb r (last_role s) (subst (λ (u : ℕ). u < last_role s) is (worker legal facts.holds.0 facts.holds.1 facts.worker))),
          )
      | inr away ↦ omega (arith, before, one, ap bit away)
    ]
  where
    below_it : q ≤ last_role s → q ≢ last_role s → q < last_role s
    below_it within ne = omega (arith, within, ne)

    worker : is_legal s P ≡ true → (e : Entry) → hand q P ≡ Some e → q ≢ last_role s → q < last_role s
    worker legal e held ne =
        let some = count-let_go (takes_up q) q e (hands P) held in
        let up = ap bit (found_up (takes_up q) e (hands P) held) in
        elim (cases_Bool (ltb (last_role s) q)) [
          | inl high ↦ absurd (omega (arith, role-idle s P q (ltb-true (last_role s) q high) legal, some, up))
          | inr low ↦ let within : q ≤ last_role s = ltb-false (last_role s) q low in below_it within ne
        ]
reclaims-once s (_ ∷ P) r h = reclaims-once s P r (and_parts _ _ h).0

pub reclaims-few : (s : Setting) (P : Past) → is_legal s P ≡ true → count is_reclaim P ≤ last_role s
reclaims-few s P h = one_in_buckets is_reclaim role_of (λ r e. reclaims r e) reclaim-buckets (last_role s) P (λ r. reclaims-once s P r h)

-- ALL ENTRIES

by_kind : (es : List Entry)
    → length es ≡ count is_offer es + count is_tick es + count is_issue es + count flows es + count is_settle es + count closes es
    + count leaves es + count is_reclaim es
by_kind [] = refl
by_kind (Load r k b n f g x ∷ es) = omega (arith, by_kind es)
by_kind (LoadRefused r k n z ∷ es) = omega (arith, by_kind es)
by_kind (Tick t ∷ es) = omega (arith, by_kind es)
by_kind (Issue r k ∷ es) = omega (arith, by_kind es)
by_kind (Settle r v ∷ es) = omega (arith, by_kind es)
by_kind (Close r ∷ es) = omega (arith, by_kind es)
by_kind (Leave r ∷ es) = omega (arith, by_kind es)
by_kind (Reclaim r ∷ es) = omega (arith, by_kind es)
by_kind (_ ∷ es) = omega (arith, by_kind es)

ticks-stand : PassNoHand is_tick
ticks-stand = record { load = λ _ _ _ _ _ _ _. refl; take = λ _ _ _ _. refl; take_block = λ _ _ _ _ _ _ _ _ _. refl; save = λ _ _ _ _ _. refl }

issues-stand : PassNoHand is_issue
issues-stand = record { load = λ _ _ _ _ _ _ _. refl; take = λ _ _ _ _. refl; take_block = λ _ _ _ _ _ _ _ _ _. refl; save = λ _ _ _ _ _. refl }

settles-stand : PassNoHand is_settle
settles-stand = record { load = λ _ _ _ _ _ _ _. refl; take = λ _ _ _ _. refl; take_block = λ _ _ _ _ _ _ _ _ _. refl; save = λ _ _ _ _ _. refl }

closes-stand : PassNoHand closes
closes-stand = record { load = λ _ _ _ _ _ _ _. refl; take = λ _ _ _ _. refl; take_block = λ _ _ _ _ _ _ _ _ _. refl; save = λ _ _ _ _ _. refl }

leaves-stand : PassNoHand leaves
leaves-stand = record { load = λ _ _ _ _ _ _ _. refl; take = λ _ _ _ _. refl; take_block = λ _ _ _ _ _ _ _ _ _. refl; save = λ _ _ _ _ _. refl }

reclaims-stand : PassNoHand is_reclaim
reclaims-stand = record { load = λ _ _ _ _ _ _ _. refl; take = λ _ _ _ _. refl; take_block = λ _ _ _ _ _ _ _ _ _. refl; save = λ _ _ _ _ _. refl }

-- a load that is reclaimed leaves its tick
ticks-few : (s : Setting) (P : Past) → is_legal s P ≡ true → count is_tick P ≤ length s.ids + count is_reclaim P
ticks-few s P h = omega (arith, ticks-offers s P h, stand-most s P is_offer h, offers-few s P h)

all_pass : (es : List Entry) → count (λ e. true) es ≡ length es
all_pass [] = refl
all_pass (e ∷ es) = let rest = all_pass es in omega (arith, rest)

pub log-short : (s : Setting) (P : Past) → is_legal s P ≡ true → length P ≤ most_entries s
log-short s P h =
    let once = reclaims-few s P h in
    omega (
      arith,
      all_pass P,
      all_pass (standing P),
      stand-most s P (λ e. true) h,
      by_kind (standing P),
      once,
      offers-few s P h,
      all-stand is_tick ticks-stand P,
      ticks-few s P h,
      all-stand is_issue issues-stand P,
      issues-few s P h,
      flows-all s P h,
      all-stand is_settle settles-stand P,
      settles-few s P h,
      all-stand closes closes-stand P,
      closes-once s P h,
      all-stand leaves leaves-stand P,
      leaves-few s P h,
      all-stand is_reclaim reclaims-stand P,
    )

-- OFFERS

abbrev arrives : Entry → Bool
arrives (Accept w m k) = true
arrives (Full w m k) = true
arrives _ = false

abbrev arrives_there : ℕ → Entry → Bool
arrives_there v e = arrives e && eqb (node_of e) v

there-buckets : (v : ℕ) → AreBuckets (arrives_there v) index_of (arrives_at v)
there-buckets v (Accept w m j) k = refl
there-buckets v (Full w m j) k = refl
there-buckets v _ k = refl

comes-one : (v w : ℕ) (a : FrameName) (xs : List FrameName) → length (comes_at v w a xs) ≡ bit (eqb w v) + length xs
comes-one v w a xs =
    elim (cases_Bool (eqb w v)) [
      | inl here ↦ rw here (omega (arith, length-append xs (a ∷ [])))
      | inr away ↦ rw away (omega arith)
    ]

offered-listed : (v : ℕ) (P : Past) → length (offered v P) ≡ count (arrives_there v) P
offered-listed v [] = refl
offered-listed v (Accept w m k ∷ P) = comes-one v w (frame m k) (offered v P) ∙ omega (arith, offered-listed v P, count-cons (arrives_there v) (Accept w m k) P)
offered-listed v (Full w m k ∷ P) = comes-one v w (frame m k) (offered v P) ∙ omega (arith, offered-listed v P, count-cons (arrives_there v) (Full w m k) P)
offered-listed v (_ ∷ P) = offered-listed v P

offers-short : (s : Setting) (P : Past) (v : ℕ) → is_legal s P ≡ true → length (offered v P) ≤ length s.ids
offers-short s P v h =
    omega (arith, offered-listed v P, one_in_buckets (arrives_there v) index_of (arrives_at v) (there-buckets v) (length s.ids) P (λ k. arrives-few s P v k h))

pub length_laws : LengthLaws
length_laws = record {
  offers = offers-short;
  entries = log-short;
  within_limits = λ s P nodes roles h. omega (arith, log-short s P h, nodes, roles);
}

-- as many numbers as nodes
pub numbers-length : (v : ℕ) (ns : List Node) → length (numbers_from v ns) ≡ length ns
numbers-length v [] = refl
numbers-length v (n ∷ ns) = ap suc (numbers-length (v + 1) ns)
