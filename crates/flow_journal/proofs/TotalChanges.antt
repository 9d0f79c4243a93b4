-- How each entry changes the total of the arrays that pass a test.
use Rattle.std.proofs.Common.{◌≡◌, ◌≢◌, ℕ, ◌+◌, Bool, true, false, ◌&&◌, eqb, [], ◌∷◌, refl, sym, ap, ◌∙◌, arith, Some, inl, inr}
use Rattle.std.proofs.lemmas.Bool.{and_parts, and_from, eq-eqb, ne_eqb, eqb-true, cases_Bool, true≢false, false≢true}
use Rattle.nd_base.specs.declared.frame.FrameName.{FrameName}
use Rattle.flow_journal.specs.declared.entry.Entry.{Entry}
use Rattle.flow_journal.specs.declared.entry.Entry.TheVariants.{Load, Issue, Emit, Accept, Take, TakeBlock, PoolDrop, Put, SortDrop, Settle, Save, Saved}
use Rattle.flow_journal.specs.declared.entry.Entry.TheVariants.{Reclaim}
use Rattle.flow_journal.specs.declared.entry.Why.{Why}
use Rattle.flow_journal.specs.Setting.{Setting, node_numbers, is_sorted}
use Rattle.flow_journal.specs.Pasts.{Past, frame, same}
use Rattle.flow_journal.specs.Hands.{takes_up, hands, hand, let_go}
use Rattle.flow_journal.specs.Queued.{queued}
use Rattle.flow_journal.specs.Waiting.{waiting}
use Rattle.flow_journal.specs.Rings.{ring}
use Rattle.flow_journal.specs.Unsaved.{unsaved}
use Rattle.flow_journal.specs.FirstEntries.{first}
use Rattle.flow_journal.specs.Histories.{is_legal}
use Rattle.flow_journal.proofs.Steps.{same_refl}
use Rattle.flow_journal.proofs.EntryCounts.{count, bit, count-cons, count-append}
use Rattle.flow_journal.proofs.Found.{found_up}
use Rattle.flow_journal.proofs.Hands.{row_of, takes-alone}
use Rattle.flow_journal.proofs.Outs.{waits}
use Rattle.flow_journal.proofs.Rows.{row_laws}
use Rattle.flow_journal.proofs.Emissions.{removed, owed-waits, owed-Emit_out, owed-SortDrop_out, waiting-unsorted}
use Rattle.flow_journal.proofs.Places.{arrays-count}
use Rattle.flow_journal.proofs.Changes.{queue_laws, put_laws, ring_laws, save_laws}
use Rattle.flow_journal.proofs.Totals.{sum_of, sum-let_go, held_by, at_node, total, nodes-but, nodes-same}

-- AT A NODE

-- how many of what waits, is in the ring and unsaved pass
abbrev pub kept_count : (FrameName → Bool) → Setting → Past → ℕ → ℕ
kept_count t s P v = count (waits t) (waiting s v P) + count t (ring s v P) + count t (unsaved s v P)

at-parts : (t : FrameName → Bool) (s : Setting) (P : Past) (v : ℕ) → at_node t s P v ≡ count t (queued v P) + kept_count t s P v
at-parts t s P v = omega (arith, arrays-count t s P v)

at-same : (t : FrameName → Bool) (s : Setting) (P Q : Past) (v : ℕ) → queued v Q ≡ queued v P → waiting s v Q ≡ waiting s v P → ring s v Q ≡ ring s v P
    → unsaved s v Q ≡ unsaved s v P → at_node t s Q v ≡ at_node t s P v
at-same t s P Q v q w r f =
    omega (arith, arrays-count t s P v, arrays-count t s Q v, ap (count t) q, ap (count (waits t)) w, ap (count t) r, ap (count t) f)

-- one array joins or leaves at one node, and no other node's arrays change
joins : (t : FrameName → Bool) (s : Setting) (e : Entry) (P : Past) (v n : ℕ) → is_legal s (e ∷ P) ≡ true
    → ((u : ℕ) → u ≢ v → at_node t s (e ∷ P) u ≡ at_node t s P u) → at_node t s (e ∷ P) v ≡ at_node t s P v + n
    → sum_of (at_node t s (e ∷ P)) (node_numbers s) ≡ sum_of (at_node t s P) (node_numbers s) + n
joins t s e P v n h other here = omega (arith, nodes-but t s e P v h other, here)

leaves : (t : FrameName → Bool) (s : Setting) (e : Entry) (P : Past) (v n : ℕ) → is_legal s (e ∷ P) ≡ true
    → ((u : ℕ) → u ≢ v → at_node t s (e ∷ P) u ≡ at_node t s P u) → at_node t s P v ≡ at_node t s (e ∷ P) v + n
    → sum_of (at_node t s P) (node_numbers s) ≡ sum_of (at_node t s (e ∷ P)) (node_numbers s) + n
leaves t s e P v n h other here = omega (arith, nodes-but t s e P v h other, here)

turn : {a b : ℕ} → a ≢ b → b ≢ a
turn ne e = ne (sym e)

-- QUEUES

pub total-accept : (t : FrameName → Bool) (s : Setting) (v m k : ℕ) (P : Past) → is_legal s (Accept v m k ∷ P) ≡ true
    → total t s (Accept v m k ∷ P) ≡ total t s P + bit (t (frame m k))
total-accept t s v m k P h =
    let e : Entry = Accept v m k in
    let longer : count t (queued v (e ∷ P)) ≡ count t (queued v P) + bit (t (frame m k)) =
    ap (count t) (queue_laws.accept v m k P) ∙ omega (arith, count-append t (queued v P) (frame m k ∷ []), count-cons t (frame m k) []) in
    let here : at_node t s (e ∷ P) v ≡ at_node t s P v + bit (t (frame m k)) = omega (arith, at-parts t s (e ∷ P) v, at-parts t s P v, longer) in
    let nodes =
    joins t s e P v (bit (t (frame m k))) h (λ u ne. at-same t s P (e ∷ P) u (queue_laws.accept_elsewhere u v m k P (turn ne)) refl refl refl) here in
    omega (arith, nodes)

-- what is taken away at the front
shorter : (t : FrameName → Bool) (s : Setting) (v m k : ℕ) (e : Entry) (P : Past) → queued v P ≡ frame m k ∷ queued v (e ∷ P)
    → kept_count t s (e ∷ P) v ≡ kept_count t s P v → at_node t s P v ≡ at_node t s (e ∷ P) v + bit (t (frame m k))
shorter t s v m k e P front kept_same =
    omega (arith, at-parts t s (e ∷ P) v, at-parts t s P v, ap (count t) front, count-cons t (frame m k) (queued v (e ∷ P)), kept_same)

pub total-take : (t : FrameName → Bool) (s : Setting) (r v m k : ℕ) (P : Past) → is_legal s (Take r v m k ∷ P) ≡ true
    → total t s (Take r v m k ∷ P) ≡ total t s P
total-take t s r v m k P h =
    let e : Entry = Take r v m k in
    let row : first s P e ≡ true = row_of s e P (λ d. refl) h in
    let nodes =
    leaves t s e P v (bit (t (frame m k))) h (λ u ne. at-same t s P (e ∷ P) u (queue_laws.take_elsewhere r u v m k P (turn ne)) refl refl refl)
    (shorter t s v m k e P (queue_laws.take s r v m k P row) refl) in
    omega (arith, nodes, ap (sum_of (held_by t)) (takes-alone s r e P (eq-eqb r r refl) h))

pub total-take_block : (t : FrameName → Bool) (s : Setting) (r v m k b n : ℕ) (f : Bool) (g : ℕ) (x : Bool) (P : Past)
    → is_legal s (TakeBlock f x r v m k b n g ∷ P) ≡ true → total t s (TakeBlock f x r v m k b n g ∷ P) ≡ total t s P + bit (t (frame v k))
total-take_block t s r v m k b n f g x P h =
    let e : Entry = TakeBlock f x r v m k b n g in
    let row : first s P e ≡ true = row_of s e P (λ d. refl) h in
    let nodes =
    leaves t s e P v (bit (t (frame m k))) h (λ u ne. at-same t s P (e ∷ P) u (queue_laws.take_block_elsewhere r u v m k b n f g x P (turn ne)) refl refl refl)
    (shorter t s v m k e P (queue_laws.take_block s r v m k b n f g x P row) refl) in
    omega (arith, nodes, ap (sum_of (held_by t)) (takes-alone s r e P (eq-eqb r r refl) h))

pub total-pool_drop : (t : FrameName → Bool) (s : Setting) (r v m k n z : ℕ) (P : Past) → is_legal s (PoolDrop r v m k n z ∷ P) ≡ true
    → total t s P ≡ total t s (PoolDrop r v m k n z ∷ P) + bit (t (frame m k))
total-pool_drop t s r v m k n z P h =
    let e : Entry = PoolDrop r v m k n z in
    let row : first s P e ≡ true = row_of s e P (λ d. refl) h in
    let nodes =
    leaves t s e P v (bit (t (frame m k))) h (λ u ne. at-same t s P (e ∷ P) u (queue_laws.pool_drop_elsewhere r u v m k n z P (turn ne)) refl refl refl)
    (shorter t s v m k e P (queue_laws.pool_drop s r v m k n z P row) refl) in
    omega (arith, nodes)

-- HANDS

pub total-issue : (t : FrameName → Bool) (s : Setting) (r k : ℕ) (P : Past) → is_legal s (Issue r k ∷ P) ≡ true
    → total t s P ≡ total t s (Issue r k ∷ P) + bit (t (frame 0 k))
total-issue t s r k P h =
    let l = (row_laws.issue s P r k).0 (row_of s (Issue r k) P (λ d. refl) h) in
    let gone : sum_of (held_by t) (hands P) ≡ bit (t (frame 0 k)) + sum_of (held_by t) (let_go r (hands P)) =
    sum-let_go (held_by t) r (Load r k l.0 l.1 l.2 l.3 l.4) (hands P) l.5 in
    omega (arith, gone, nodes-same t s P (Issue r k ∷ P) (λ v. refl))

pub total-saved : (t : FrameName → Bool) (s : Setting) (r v m k : ℕ) (P : Past) → is_legal s (Saved r v m k ∷ P) ≡ true
    → total t s P ≡ total t s (Saved r v m k ∷ P) + bit (t (frame m k))
total-saved t s r v m k P h =
    let l = (row_laws.saved s P r v m k).0 (row_of s (Saved r v m k) P (λ d. refl) h) in
    let gone : sum_of (held_by t) (hands P) ≡ bit (t (frame m k)) + sum_of (held_by t) (let_go r (hands P)) =
    sum-let_go (held_by t) r (Save r v m k l.0) (hands P) l.1 in
    omega (arith, gone, nodes-same t s P (Saved r v m k ∷ P) (λ u. refl))

-- SORT LISTS

pub sorted_node : (s : Setting) (v : ℕ) → is_sorted s v ≡ true → v ≢ 0
sorted_node s v sorted e = true≢false (sym sorted ∙ ap (is_sorted s) e)

pub total-emit : (t : FrameName → Bool) (s : Setting) (v m k : ℕ) (why : Why) (P : Past) → is_sorted s v ≡ true → is_legal s (Emit v m k why ∷ P) ≡ true
    → total t s P ≡ total t s (Emit v m k why ∷ P) + bit (t (frame m k))
total-emit t s v m k why P sorted h =
    let e : Entry = Emit v m k why in
    let legal : is_legal s P ≡ true = (and_parts _ _ h).0 in
    let itself : FrameName → Bool = λ x. same x (frame m k) in
    let there = owed-Emit_out s v m k why P v itself h in
    let hit : (eqb v v && itself (frame m k)) ≡ true = and_from _ _ (eq-eqb v v refl) (same_refl (frame m k)) in
    let some = removed (frame m k) t (waiting s v P) (omega (arith, owed-waits s P v itself (sorted_node s v sorted) sorted legal, there, ap bit hit)) in
    let fewer : count (waits t) (waiting s v P) ≡ bit (t (frame m k)) + count (waits t) (waiting s v (e ∷ P)) =
    some ∙ ap (λ ws. bit (t (frame m k)) + count (waits t) ws) (sym (put_laws.goes s v m k why P)) in
    let here : at_node t s P v ≡ at_node t s (e ∷ P) v + bit (t (frame m k)) = omega (arith, at-parts t s (e ∷ P) v, at-parts t s P v, fewer) in
    let nodes =
    leaves t s e P v (bit (t (frame m k))) h (λ u ne. at-same t s P (e ∷ P) u refl (put_laws.goes_elsewhere s u v m k why P (turn ne)) refl refl) here in
    omega (arith, nodes)

pub total-emit_unsorted : (t : FrameName → Bool) (s : Setting) (v m k : ℕ) (why : Why) (P : Past) → is_sorted s v ≡ false
    → total t s (Emit v m k why ∷ P) ≡ total t s P
total-emit_unsorted t s v m k why P plain =
    let e : Entry = Emit v m k why in
    let same_list : (u : ℕ) → waiting s u (e ∷ P) ≡ waiting s u P = λ u. elim (cases_Bool (eqb v u)) [
      | inl here ↦
          let off : is_sorted s u ≡ false = ap (is_sorted s) (sym (eqb-true v u here)) ∙ plain in
          waiting-unsorted s u (e ∷ P) off ∙ sym (waiting-unsorted s u P off)
      | inr away ↦ rw away refl
    ] in
    omega (arith, nodes-same t s P (e ∷ P) (λ u. at-same t s P (e ∷ P) u refl (same_list u) refl refl))

pub total-sort_drop : (t : FrameName → Bool) (s : Setting) (v m k : ℕ) (P : Past) → is_sorted s v ≡ true → is_legal s (SortDrop v m k ∷ P) ≡ true
    → total t s P ≡ total t s (SortDrop v m k ∷ P) + bit (t (frame m k))
total-sort_drop t s v m k P sorted h =
    let e : Entry = SortDrop v m k in
    let legal : is_legal s P ≡ true = (and_parts _ _ h).0 in
    let itself : FrameName → Bool = λ x. same x (frame m k) in
    let there = owed-SortDrop_out s v m k P v itself h in
    let hit : (eqb v v && itself (frame m k)) ≡ true = and_from _ _ (eq-eqb v v refl) (same_refl (frame m k)) in
    let some = removed (frame m k) t (waiting s v P) (omega (arith, owed-waits s P v itself (sorted_node s v sorted) sorted legal, there, ap bit hit)) in
    let fewer : count (waits t) (waiting s v P) ≡ bit (t (frame m k)) + count (waits t) (waiting s v (e ∷ P)) =
    some ∙ ap (λ ws. bit (t (frame m k)) + count (waits t) ws) (sym (put_laws.dropped s v m k P)) in
    let here : at_node t s P v ≡ at_node t s (e ∷ P) v + bit (t (frame m k)) = omega (arith, at-parts t s (e ∷ P) v, at-parts t s P v, fewer) in
    let nodes =
    leaves t s e P v (bit (t (frame m k))) h (λ u ne. at-same t s P (e ∷ P) u refl (put_laws.dropped_elsewhere s u v m k P (turn ne)) refl refl) here in
    omega (arith, nodes)

-- RINGS AND FILES

pub total-settle : (t : FrameName → Bool) (s : Setting) (r v : ℕ) (P : Past) → is_legal s (Settle r v ∷ P) ≡ true
    → total t s P ≡ total t s (Settle r v ∷ P) + count t (ring s v P)
total-settle t s r v P h =
    let e : Entry = Settle r v in
    let none : count t (ring s v (e ∷ P)) ≡ 0 = ap (count t) (ring_laws.settle s r v P) in
    let here : at_node t s P v ≡ at_node t s (e ∷ P) v + count t (ring s v P) = omega (arith, at-parts t s (e ∷ P) v, at-parts t s P v, none) in
    let nodes =
    leaves t s e P v (count t (ring s v P)) h (λ u ne. at-same t s P (e ∷ P) u refl refl (ring_laws.settle_elsewhere s r u v P (turn ne)) refl) here in
    omega (arith, nodes)

pub total-save : (t : FrameName → Bool) (s : Setting) (r v m k g : ℕ) (P : Past) → is_legal s (Save r v m k g ∷ P) ≡ true
    → total t s (Save r v m k g ∷ P) ≡ total t s P
total-save t s r v m k g P h =
    let e : Entry = Save r v m k g in
    let legal : is_legal s P ≡ true = (and_parts _ _ h).0 in
    let row : first s P e ≡ true = row_of s e P (λ d. refl) h in
    let fewer : count t (unsaved s v P) ≡ bit (t (frame m k)) + count t (unsaved s v (e ∷ P)) =
    ap (count t) (save_laws.save s r v m k g P legal row) ∙ count-cons t (frame m k) (unsaved s v (e ∷ P)) in
    let here : at_node t s P v ≡ at_node t s (e ∷ P) v + bit (t (frame m k)) = omega (arith, at-parts t s (e ∷ P) v, at-parts t s P v, fewer) in
    let nodes =
    leaves t s e P v (bit (t (frame m k))) h (λ u ne. at-same t s P (e ∷ P) u refl refl refl (save_laws.save_elsewhere s r u v m k g P (turn ne))) here in
    omega (arith, nodes, ap (sum_of (held_by t)) (takes-alone s r e P (eq-eqb r r refl) h))

-- PUTS

list_elsewhere : (s : Setting) (r u v m k : ℕ) (f : Bool) (P : Past) → u ≢ v → waiting s u (Put r v m k f ∷ P) ≡ waiting s u P
list_elsewhere s r u v m k f P ne =
    elim (cases_Bool (is_sorted s u)) [
      | inl sorted ↦ put_laws.waits_elsewhere s r u v m k f P sorted (turn ne)
      | inr plain ↦ waiting-unsorted s u (Put r v m k f ∷ P) plain ∙ sym (waiting-unsorted s u P plain)
    ]

pub total-put : (t : FrameName → Bool) (s : Setting) (r v m k : ℕ) (f : Bool) (d : Entry) (P : Past) → is_legal s (Put r v m k f ∷ P) ≡ true → hand r P ≡ Some d
    → total t s (Put r v m k f ∷ P) + held_by t d + kept_count t s P v ≡ total t s P + kept_count t s (Put r v m k f ∷ P) v
total-put t s r v m k f d P h held =
    let e : Entry = Put r v m k f in
    let gone : sum_of (held_by t) (hands P) ≡ held_by t d + sum_of (held_by t) (hands (e ∷ P)) = sum-let_go (held_by t) r d (hands P) held in
    let nodes =
    nodes-but t s e P v h (λ u ne. at-same t s P (e ∷ P) u refl (list_elsewhere s r u v m k f P ne) (ring_laws.put_elsewhere s r u v m k f P (turn ne))
    (save_laws.put_elsewhere s r u v m k f P (turn ne))) in
    omega (arith, gone, nodes, at-parts t s P v, at-parts t s (e ∷ P) v)

-- RECLAIMS

-- how many of the arrays that are made in the hand pass
abbrev pub made_in : (FrameName → Bool) → Entry → ℕ
made_in t (Load r k b n f g x) = bit (t (frame 0 k))
made_in t (TakeBlock f x r v m k b n g) = bit (t (frame v k))
made_in t _ = 0

pub total-reclaim : (t : FrameName → Bool) (s : Setting) (r : ℕ) (d : Entry) (P : Past) → is_legal s (Reclaim r ∷ P) ≡ true → hand r P ≡ Some d
    → total t s P ≡ total t s (Reclaim r ∷ P) + made_in t d
total-reclaim t s r (Load q k b n f g x) P h held =
    let d : Entry = Load q k b n f g x in
    let e : Entry = Reclaim r in
    let legal : is_legal s P ≡ true = (and_parts _ _ h).0 in
    let gone : sum_of (held_by t) (hands P) ≡ held_by t d + sum_of (held_by t) (hands (e ∷ P)) = sum-let_go (held_by t) r d (hands P) held in
    omega (
      arith,
      gone,
      nodes-same t s P
          (e ∷ P) (λ u. at-same t s P (e ∷ P) u (queue_laws.reclaim_other u r d P held refl) refl refl (save_laws.reclaim_other s r u d P legal held refl)),
    )
total-reclaim t s r (Take q v m k) P h held =
    let d : Entry = Take q v m k in
    let e : Entry = Reclaim r in
    let legal : is_legal s P ≡ true = (and_parts _ _ h).0 in
    let gone : sum_of (held_by t) (hands P) ≡ held_by t d + sum_of (held_by t) (hands (e ∷ P)) = sum-let_go (held_by t) r d (hands P) held in
    let longer : count t (queued v (e ∷ P)) ≡ bit (t (frame m k)) + count t (queued v P) =
    ap (count t) (queue_laws.reclaim v r q m k P held) ∙ count-cons t (frame m k) (queued v P) in
    let file : unsaved s v (e ∷ P) ≡ unsaved s v P = save_laws.reclaim_other s r v d P legal held refl in
    let here : at_node t s (e ∷ P) v ≡ at_node t s P v + bit (t (frame m k)) =
    omega (arith, at-parts t s (e ∷ P) v, at-parts t s P v, longer, ap (count t) file) in
    let nodes =
    joins t s e P v (bit (t (frame m k))) h (λ u ne. at-same t s P (e ∷ P) u (queue_laws.reclaim_other u r d P held (ne_eqb v u (turn ne))) refl refl
    (save_laws.reclaim_other s r u d P legal held refl)) here in
    omega (arith, gone, nodes)
total-reclaim t s r (TakeBlock f x q v m k b n g) P h held =
    let d : Entry = TakeBlock f x q v m k b n g in
    let e : Entry = Reclaim r in
    let legal : is_legal s P ≡ true = (and_parts _ _ h).0 in
    let gone : sum_of (held_by t) (hands P) ≡ held_by t d + sum_of (held_by t) (hands (e ∷ P)) = sum-let_go (held_by t) r d (hands P) held in
    let longer : count t (queued v (e ∷ P)) ≡ bit (t (frame m k)) + count t (queued v P) =
    ap (count t) (queue_laws.reclaim_block v r q m k b n f g x P held) ∙ count-cons t (frame m k) (queued v P) in
    let file : unsaved s v (e ∷ P) ≡ unsaved s v P = save_laws.reclaim_other s r v d P legal held refl in
    let here : at_node t s (e ∷ P) v ≡ at_node t s P v + bit (t (frame m k)) =
    omega (arith, at-parts t s (e ∷ P) v, at-parts t s P v, longer, ap (count t) file) in
    let nodes =
    joins t s e P v (bit (t (frame m k))) h (λ u ne. at-same t s P (e ∷ P) u (queue_laws.reclaim_other u r d P held (ne_eqb v u (turn ne))) refl refl
    (save_laws.reclaim_other s r u d P legal held refl)) here in
    omega (arith, gone, nodes)
total-reclaim t s r (Save q v m k g) P h held =
    let d : Entry = Save q v m k g in
    let e : Entry = Reclaim r in
    let legal : is_legal s P ≡ true = (and_parts _ _ h).0 in
    let gone : sum_of (held_by t) (hands P) ≡ held_by t d + sum_of (held_by t) (hands (e ∷ P)) = sum-let_go (held_by t) r d (hands P) held in
    let longer : count t (unsaved s v (e ∷ P)) ≡ bit (t (frame m k)) + count t (unsaved s v P) =
    ap (count t) (save_laws.reclaim s r v q m k g P legal held) ∙ count-cons t (frame m k) (unsaved s v P) in
    let queue : queued v (e ∷ P) ≡ queued v P = queue_laws.reclaim_other v r d P held refl in
    let here : at_node t s (e ∷ P) v ≡ at_node t s P v + bit (t (frame m k)) =
    omega (arith, at-parts t s (e ∷ P) v, at-parts t s P v, longer, ap (count t) queue) in
    let nodes =
    joins t s e P v (bit (t (frame m k))) h (λ u ne. at-same t s P (e ∷ P) u (queue_laws.reclaim_other u r d P held refl) refl refl
    (save_laws.reclaim_other s r u d P legal held (ne_eqb v u (turn ne)))) here in
    omega (arith, gone, nodes)
total-reclaim t s r d P h held = absurd (false≢true (found_up (takes_up r) d (hands P) held))
