-- The driver emits a frame once.
use Rattle.std.proofs.Common.{◌≡◌, ◌≢◌, ℕ, ◌+◌, ◌≤◌, Bool, true, false, ◌&&◌, cond, eqb, List, [], ◌∷◌, map, drop, refl, sym, ap, ◌∙◌, subst, arith, inl, inr}
use Rattle.std.specs.Prelude.{flat_map}
use Rattle.std.proofs.lemmas.Bool.{and_parts, and_from, true≢false, eq-eqb, eqb-true, cases_Bool}
use Rattle.nd_base.specs.declared.frame.FrameName.{FrameName}
use Rattle.flow_journal.specs.declared.entry.Entry.{Entry}
use Rattle.flow_journal.specs.declared.entry.Entry.TheVariants.{Emit, Accept, Take, TakeBlock, PoolDrop, Put, Settle}
use Rattle.flow_journal.specs.declared.entry.Why.{Why}
use Rattle.flow_journal.specs.Setting.{Setting, is_role, is_sorted}
use Rattle.flow_journal.specs.Pasts.{Past, frame, comes_at}
use Rattle.flow_journal.specs.Hands.{hands, standing}
use Rattle.flow_journal.specs.QueueCounts.{gone_at}
use Rattle.flow_journal.specs.Accepted.{accepts}
use Rattle.flow_journal.specs.Waiting.{waiting}
use Rattle.flow_journal.specs.FirstEntries.{may_settle}
use Rattle.flow_journal.specs.Following.{offer, look, owed}
use Rattle.flow_journal.specs.Histories.{is_legal}
use Rattle.flow_journal.proofs.Hands.{row_of}
use Rattle.flow_journal.proofs.Counts.{times_by, queued-by}
use Rattle.flow_journal.proofs.EntryCounts.{count, bit, count-cons, count-append, count-let_go, emits_at, accepts_at, takes_at, takes-le, leaves_at}
use Rattle.flow_journal.proofs.EntryCounts.{owed-answered, answers-by_Emit}
use Rattle.flow_journal.proofs.Jobs.{puts-taken, putting_hand}
use Rattle.flow_journal.proofs.Outs.{out_of, of_index, none_elsewhere, goes_out-at, waits, count-look}
use Rattle.flow_journal.proofs.Offers.{is_number, none_at_driver}
use Rattle.flow_journal.proofs.Rows.{settle-facts}

-- TAKES

pub comes-count : (v w m i k : ℕ) (xs : List FrameName)
    → times_by (of_index k) (comes_at v w (frame m i) xs) ≡ times_by (of_index k) xs + bit (eqb w v && eqb i k)
comes-count v w m i k xs =
    elim (cases_Bool (eqb w v)) [
      | inl here ↦ rw here (count-append (of_index k) xs (frame m i ∷ []) ∙ omega (arith, count-cons (of_index k) (frame m i) []))
      | inr away ↦ rw away (omega arith)
    ]

pub accepts-count : (v k : ℕ) (P : Past) → times_by (of_index k) (accepts v P) ≡ count (accepts_at v k) P
accepts-count v k [] = refl
accepts-count v k (Accept w m i ∷ P) = comes-count v w m i k (accepts v P) ∙ omega (arith, accepts-count v k P, count-cons (accepts_at v k) (Accept w m i) P)
accepts-count v k (_ ∷ P) = accepts-count v k P

gone-leaves : (v k : ℕ) (P : Past) → times_by (of_index k) (flat_map (gone_at v) P) ≡ count (leaves_at v k) P
gone-leaves v k [] = refl
gone-leaves v k (Take r w m i ∷ P) =
    omega (
      arith,
      gone-leaves v k P,
      comes-count v w m i k [],
      count-append (of_index k) (comes_at v w (frame m i) []) (flat_map (gone_at v) P),
      count-cons (leaves_at v k) (Take r w m i) P,
    )
gone-leaves v k (TakeBlock f x r w m i b n g ∷ P) =
    omega (
      arith,
      gone-leaves v k P,
      comes-count v w m i k [],
      count-append (of_index k) (comes_at v w (frame m i) []) (flat_map (gone_at v) P),
      count-cons (leaves_at v k) (TakeBlock f x r w m i b n g) P,
    )
gone-leaves v k (PoolDrop r w m i n z ∷ P) =
    omega (
      arith,
      gone-leaves v k P,
      comes-count v w m i k [],
      count-append (of_index k) (comes_at v w (frame m i) []) (flat_map (gone_at v) P),
      count-cons (leaves_at v k) (PoolDrop r w m i n z) P,
    )
gone-leaves v k (_ ∷ P) = gone-leaves v k P

-- what left the queue was accepted
pub leaves-accepted : (s : Setting) (P : Past) (v k : ℕ) → is_legal s P ≡ true → count (leaves_at v k) (standing P) ≤ count (accepts_at v k) P
leaves-accepted s P v k h = omega (arith, queued-by s P v (of_index k) h, accepts-count v k P, gone-leaves v k (standing P))

-- what is taken was accepted
pub takes-accepted : (s : Setting) (P : Past) (v k : ℕ) → is_legal s P ≡ true → count (takes_at v k) (standing P) ≤ count (accepts_at v k) P
takes-accepted s P v k h = omega (arith, leaves-accepted s P v k h, takes-le v k (standing P))

-- who puts does so at a node
pub puts_at_node : (s : Setting) (r w m i : ℕ) (f : Bool) (P : Past) → is_legal s (Put r w m i f ∷ P) ≡ true → w ≢ 0
puts_at_node s r w m i f P h at_0 =
    let legal : is_legal s P ≡ true = (and_parts _ _ h).0 in
    let e = putting_hand s r w m i f P h in
    let is : takes_at 0 i e.0 ≡ true = e.2 0 i ∙ and_from _ _ (eq-eqb w 0 at_0) (eq-eqb i i refl) in
    omega (
      arith,
      count-let_go (takes_at 0 i) r e.0 (hands P) e.1,
      ap bit is,
      puts-taken s P 0 i legal,
      takes-accepted s P 0 i legal,
      none_at_driver s P i legal,
    )

pub settles_node : (s : Setting) (r w : ℕ) (P : Past) → is_legal s (Settle r w ∷ P) ≡ true → w ≢ 0
settles_node s r w P h at_0 =
    let row : (is_role s r && may_settle s w P) ≡ true = row_of s (Settle r w) P (λ d. refl) h in
    omega (arith, (settle-facts s w P (and_parts (is_role s r) (may_settle s w P) row).1).above, at_0)

-- LOOKS

-- what goes out after a tick
abbrev pub looks : Setting → Past → List ℕ → List Entry
looks s P us = flat_map (λ u. cond (is_sorted s u) (look s u P) []) us

look_if-elsewhere : (s : Setting) (P : Past) (v u : ℕ) (t : FrameName → Bool) (b : Bool) → u ≢ v → count (out_of v t) (cond b (look s u P) []) ≡ 0
look_if-elsewhere s P v u t true ne = none_elsewhere u v t (look s u P) ne (goes_out-at s u _ _ _)
look_if-elsewhere s P v u t false ne = refl

look_if-here : (s : Setting) (P : Past) (v : ℕ) (t : FrameName → Bool) (b : Bool)
    → count (out_of v t) (cond b (look s v P) []) ≤ cond b (count (waits t) (waiting s v P)) 0
look_if-here s P v t true = count-look s v t P
look_if-here s P v t false = omega arith

pub looks-none : (s : Setting) (P : Past) (v : ℕ) (t : FrameName → Bool) (us : List ℕ) → count (is_number v) us ≡ 0 → count (out_of v t) (looks s P us) ≡ 0
looks-none s P v t [] h = refl
looks-none s P v t (u ∷ us) h =
    elim (cases_Bool (eqb u v)) [
      | inl here ↦ absurd (omega (arith, count-cons (is_number v) u us, ap bit here, h))
      | inr away ↦
          let ne : u ≢ v = λ e. true≢false (sym (eq-eqb u v e) ∙ away) in
          let left : count (is_number v) us ≡ 0 = omega (arith, count-cons (is_number v) u us, h) in
          omega (
            arith,
            count-append (out_of v t) (cond (is_sorted s u) (look s u P) []) (looks s P us),
            look_if-elsewhere s P v u t (is_sorted s u) ne,
            looks-none s P v t us left,
          )
    ]

pub looks-le : (s : Setting) (P : Past) (v : ℕ) (t : FrameName → Bool) (us : List ℕ) → count (is_number v) us ≤ 1
    → count (out_of v t) (looks s P us) ≤ cond (is_sorted s v) (count (waits t) (waiting s v P)) 0
looks-le s P v t [] h = omega arith
looks-le s P v t (u ∷ us) h =
    elim (cases_Bool (eqb u v)) [
      | inl here ↦
          let is : u ≡ v = eqb-true u v here in
          let left : count (is_number v) us ≡ 0 = omega (arith, count-cons (is_number v) u us, ap bit here, h) in
          let first_look : count (out_of v t) (cond (is_sorted s u) (look s u P) []) ≤ cond (is_sorted s v) (count (waits t) (waiting s v P)) 0 =
          subst (λ (x : ℕ). count (out_of v t) (cond (is_sorted s x) (look s x P) []) ≤ cond (is_sorted s v) (count (waits t) (waiting s v P)) 0) (sym is)
          (look_if-here s P v t (is_sorted s v)) in
          omega (arith, count-append (out_of v t) (cond (is_sorted s u) (look s u P) []) (looks s P us), first_look, looks-none s P v t us left)
      | inr away ↦
          let ne : u ≢ v = λ e. true≢false (sym (eq-eqb u v e) ∙ away) in
          let left : count (is_number v) us ≤ 1 = omega (arith, count-cons (is_number v) u us, h) in
          omega (
            arith,
            count-append (out_of v t) (cond (is_sorted s u) (look s u P) []) (looks s P us),
            look_if-elsewhere s P v u t (is_sorted s u) ne,
            looks-le s P v t us left,
          )
    ]

pub no_emits_in_offers : (v k : ℕ) (a : FrameName) (cs : List ℕ) → count (emits_at v k) (map (offer a) cs) ≡ 0
no_emits_in_offers v k a [] = refl
no_emits_in_offers v k a (c ∷ cs) = no_emits_in_offers v k a cs

-- the head of what was owed, and the rest
pub owed-Emit : (s : Setting) (w m i : ℕ) (why : Why) (P : Past) (v k : ℕ) → is_legal s (Emit w m i why ∷ P) ≡ true
    → count (emits_at v k) (owed s P) ≡ bit (eqb w v && eqb i k) + count (emits_at v k) (drop 1 (owed s P))
owed-Emit s w m i why P v k h =
    let a = owed-answered s (Emit w m i why) P refl h in
    let same = answers-by_Emit s P w m i why a.head a.answer in
    let was : count (emits_at v k) (owed s P) ≡ bit (eqb w v && eqb i k) + count (emits_at v k) a.rest =
    ap (count (emits_at v k)) a.is
    ∙ (count-cons (emits_at v k) a.head a.rest ∙ ap (λ (d : Entry). bit (emits_at v k d) + count (emits_at v k) a.rest) same.1) in
    let left : count (emits_at v k) (drop 1 (owed s P)) ≡ count (emits_at v k) a.rest = ap (λ (ds : List Entry). count (emits_at v k) (drop 1 ds)) a.is in
    omega (arith, was, left)
