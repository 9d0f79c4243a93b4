-- The driver emits a frame once, and only after it issued it; and each tick is that of a load.
use Rattle.std.proofs.Common.{◌≡◌, ℕ, ◌+◌, ◌≤◌, Bool, true, false, eqb, List, [], ◌∷◌, map, drop, refl, ap, ◌∙◌, arith}
use Rattle.std.proofs.lemmas.Bool.{and_parts}
use Rattle.flow_journal.specs.declared.entry.Entry.{Entry}
use Rattle.flow_journal.specs.declared.entry.Entry.TheVariants.{Load, LoadRefused, Tick, Issue, Emit, Take, TakeBlock, Put, SortDrop, Settle, Save, Saved}
use Rattle.flow_journal.specs.declared.entry.Entry.TheVariants.{Reclaim}
use Rattle.flow_journal.specs.declared.entry.Why.TheVariants.{Plain}
use Rattle.flow_journal.specs.Setting.{Setting, node, node_numbers}
use Rattle.flow_journal.specs.Turns.{offered_to}
use Rattle.flow_journal.specs.Pasts.{Past, frame}
use Rattle.flow_journal.specs.Hands.{let_go, hands, standing}
use Rattle.flow_journal.specs.Ended.{now}
use Rattle.flow_journal.specs.Waiting.{waiting, least_first}
use Rattle.flow_journal.specs.Following.{offer, calls_for, owed}
use Rattle.flow_journal.specs.Histories.{is_legal}
use Rattle.flow_journal.proofs.Hands.{stood}
use Rattle.flow_journal.proofs.Counts.{hand-standing}
use Rattle.flow_journal.proofs.EntryCounts.{count, bit, count-cons, count-append, count-drop, count-let_go, count-let_go-le, emits_at, loads_at}
use Rattle.flow_journal.proofs.EntryCounts.{owed-answered, answers-by_Tick}
use Rattle.flow_journal.proofs.Jobs.{issued_hand, reclaim_hand}
use Rattle.flow_journal.proofs.Outs.{out_of, of_index, emits-le, none_elsewhere, result-at, flush-at}
use Rattle.flow_journal.proofs.Offers.{none_numbered_0}
use Rattle.flow_journal.proofs.Issues.{looks-none, puts_at_node, settles_node}
use Rattle.flow_journal.proofs.Emissions.{no_ticks, no_ticks_in_offers, looks-ticks, owed-Emit_out, owed-SortDrop_out, no_outs_in_offers}
use Rattle.flow_journal.specs.EntryTests.{is_tick}

-- the entry issues frame k
abbrev pub issues_at : ℕ → Entry → Bool
issues_at k (Issue r j) = eqb j k
issues_at k _ = false

-- what is issued was loaded, and so is what is in hand
pub issues-loads : (s : Setting) (P : Past) (k : ℕ) → is_legal s P ≡ true
    → count (issues_at k) P + count (loads_at k) (hands P) ≤ count (loads_at k) (standing P)
issues-loads s [] k h = omega arith
issues-loads s (Load r i b n f g x ∷ P) k h =
    omega (
      arith,
      issues-loads s P k (and_parts _ _ h).0,
      count-cons (loads_at k) (Load r i b n f g x) (let_go r (hands P)),
      count-let_go-le (loads_at k) r (hands P),
      count-cons (loads_at k) (Load r i b n f g x) (standing P),
    )
issues-loads s (Issue r i ∷ P) k h =
    let e = issued_hand s r i P h in
    omega (arith, issues-loads s P k (and_parts _ _ h).0, count-cons (issues_at k) (Issue r i) P, count-let_go (loads_at k) r e.0 (hands P) e.1, ap bit (e.2 k))
issues-loads s (Put r w m i f ∷ P) k h = omega (arith, issues-loads s P k (and_parts _ _ h).0, count-let_go-le (loads_at k) r (hands P))
issues-loads s (Saved r w m i ∷ P) k h = omega (arith, issues-loads s P k (and_parts _ _ h).0, count-let_go-le (loads_at k) r (hands P))
issues-loads s (Reclaim r ∷ P) k h =
    let e = reclaim_hand s r P h in
    let legal : is_legal s P ≡ true = (and_parts _ _ h).0 in
    omega (
      arith,
      issues-loads s P k legal,
      count-let_go (loads_at k) r e.0 (hands P) e.1,
      count-let_go (loads_at k) r e.0 (standing P) (hand-standing s P r e.0 legal e.1),
      ap (count (loads_at k)) (stood r e.0 P e.1),
    )
issues-loads s (Take r w m i ∷ P) k h = omega (arith, issues-loads s P k (and_parts _ _ h).0, count-let_go-le (loads_at k) r (hands P))
issues-loads s (TakeBlock f x r w m i b n g ∷ P) k h = omega (arith, issues-loads s P k (and_parts _ _ h).0, count-let_go-le (loads_at k) r (hands P))
issues-loads s (Save r w m i g ∷ P) k h = omega (arith, issues-loads s P k (and_parts _ _ h).0, count-let_go-le (loads_at k) r (hands P))
issues-loads s (_ ∷ P) k h = issues-loads s P k (and_parts _ _ h).0

-- what goes out of the driver was issued
pub outs-issued : (s : Setting) (P : Past) (k : ℕ) → is_legal s P ≡ true
    → count (out_of 0 (of_index k)) P + count (out_of 0 (of_index k)) (owed s P) ≤ count (issues_at k) P
outs-issued s [] k h = omega arith
outs-issued s (Issue r i ∷ P) k h =
    omega (
      arith,
      outs-issued s P k (and_parts _ _ h).0,
      count-drop (out_of 0 (of_index k)) (owed s P),
      count-cons (out_of 0 (of_index k)) (Emit 0 0 i Plain) (drop 1 (owed s P)),
      count-cons (issues_at k) (Issue r i) P,
    )
outs-issued s (Emit w m i why ∷ P) k h =
    omega (
      arith,
      outs-issued s P k (and_parts _ _ h).0,
      owed-Emit_out s w m i why P 0 (of_index k) h,
      count-append (out_of 0 (of_index k)) (map (offer (frame m i)) (offered_to s P w)) (drop 1 (owed s P)),
      no_outs_in_offers 0 (of_index k) (frame m i) (offered_to s P w),
      count-cons (out_of 0 (of_index k)) (Emit w m i why) P,
    )
outs-issued s (SortDrop w m i ∷ P) k h =
    omega (arith, outs-issued s P k (and_parts _ _ h).0, owed-SortDrop_out s w m i P 0 (of_index k) h, count-cons (out_of 0 (of_index k)) (SortDrop w m i) P)
outs-issued s (Tick t ∷ P) k h =
    omega (
      arith,
      outs-issued s P k (and_parts _ _ h).0,
      count-append (out_of 0 (of_index k)) (calls_for s P (Tick t)) (drop 1 (owed s P)),
      looks-none s (Tick t ∷ P) 0 (of_index k) (node_numbers s) (none_numbered_0 s),
      count-drop (out_of 0 (of_index k)) (owed s P),
    )
outs-issued s (Put r w m i f ∷ P) k h =
    omega (
      arith,
      outs-issued s P k (and_parts _ _ h).0,
      count-append (out_of 0 (of_index k)) (calls_for s P (Put r w m i f)) (drop 1 (owed s P)),
      none_elsewhere w 0 (of_index k) (calls_for s P (Put r w m i f)) (puts_at_node s r w m i f P h) (result-at s w (frame m i) f P (node s w).work),
      count-drop (out_of 0 (of_index k)) (owed s P),
    )
outs-issued s (Settle r w ∷ P) k h =
    omega (
      arith,
      outs-issued s P k (and_parts _ _ h).0,
      count-append (out_of 0 (of_index k)) (calls_for s P (Settle r w)) (drop 1 (owed s P)),
      none_elsewhere w 0 (of_index k) (calls_for s P (Settle r w)) (settles_node s r w P h) (flush-at w (least_first s (waiting s w P))),
      count-drop (out_of 0 (of_index k)) (owed s P),
    )
outs-issued s (_ ∷ P) k h = omega (arith, outs-issued s P k (and_parts _ _ h).0, count-drop (out_of 0 (of_index k)) (owed s P))

-- so what the driver emitted was loaded
pub emits-loaded : (s : Setting) (P : Past) (k : ℕ) → is_legal s P ≡ true → count (emits_at 0 k) P ≤ count (loads_at k) (standing P)
emits-loaded s P k h = omega (arith, outs-issued s P k h, issues-loads s P k h, emits-le 0 k P)

-- the entry offers a frame at the driver
abbrev pub is_offer : Entry → Bool
is_offer (Load r k b n f g x) = true
is_offer (LoadRefused r k n z) = true
is_offer _ = false

-- each tick is that of a load, or of a load that was refused
pub ticks-offers : (s : Setting) (P : Past) → is_legal s P ≡ true → count is_tick P + count is_tick (owed s P) ≤ count is_offer P
ticks-offers s [] h = omega arith
ticks-offers s (Load r k b n f g x ∷ P) h =
    omega (arith, ticks-offers s P (and_parts _ _ h).0, count-drop is_tick (owed s P), count-cons is_tick (Tick (now P)) (drop 1 (owed s P)))
ticks-offers s (LoadRefused r k n z ∷ P) h =
    omega (arith, ticks-offers s P (and_parts _ _ h).0, count-drop is_tick (owed s P), count-cons is_tick (Tick (now P)) (drop 1 (owed s P)))
ticks-offers s (Tick t ∷ P) h =
    let a = owed-answered s (Tick t) P refl h in
    let is = answers-by_Tick s P t a.head a.answer in
    let was : count is_tick (owed s P) ≡ 1 + count is_tick a.rest =
    ap (count is_tick) a.is ∙ (count-cons is_tick a.head a.rest ∙ ap (λ (d : Entry). bit (is_tick d) + count is_tick a.rest) is.1) in
    let left : count is_tick (drop 1 (owed s P)) ≡ count is_tick a.rest = ap (λ (ds : List Entry). count is_tick (drop 1 ds)) a.is in
    omega (
      arith,
      ticks-offers s P (and_parts _ _ h).0,
      was,
      left,
      count-append is_tick (calls_for s P (Tick t)) (drop 1 (owed s P)),
      looks-ticks s (Tick t ∷ P) (node_numbers s),
    )
ticks-offers s (Emit w m i why ∷ P) h =
    omega (
      arith,
      ticks-offers s P (and_parts _ _ h).0,
      count-append is_tick (map (offer (frame m i)) (offered_to s P w)) (drop 1 (owed s P)),
      no_ticks_in_offers (frame m i) (offered_to s P w),
      count-drop is_tick (owed s P),
    )
ticks-offers s (Put r w m i f ∷ P) h =
    omega (
      arith,
      ticks-offers s P (and_parts _ _ h).0,
      count-append is_tick (calls_for s P (Put r w m i f)) (drop 1 (owed s P)),
      no_ticks w (calls_for s P (Put r w m i f)) (result-at s w (frame m i) f P (node s w).work),
      count-drop is_tick (owed s P),
    )
ticks-offers s (Settle r w ∷ P) h =
    omega (
      arith,
      ticks-offers s P (and_parts _ _ h).0,
      count-append is_tick (calls_for s P (Settle r w)) (drop 1 (owed s P)),
      no_ticks w (calls_for s P (Settle r w)) (flush-at w (least_first s (waiting s w P))),
      count-drop is_tick (owed s P),
    )
ticks-offers s (_ ∷ P) h = omega (arith, ticks-offers s P (and_parts _ _ h).0, count-drop is_tick (owed s P))
