-- What was put at a sorted node went out, was dropped or waits; and what was put at a node that makes nothing was accepted there.
use Rattle.std.proofs.Common.{◌≡◌, ◌≢◌, ℕ, ◌+◌, ◌≤◌, Bool, true, false, ◌&&◌, eqb, List, [], ◌∷◌, refl, sym, ap, ◌∙◌, arith, inl, inr, ◌⊎◌}
use Rattle.std.specs.Prelude.{flat_map}
use Rattle.std.proofs.lemmas.Bool.{and_parts, true≢false, eqb-true, cases_Bool, eq-eqb}
use Rattle.nd_base.specs.declared.frame.FrameName.{FrameName}
use Rattle.flow_journal.specs.declared.entry.Entry.{Entry}
use Rattle.flow_journal.specs.declared.entry.Entry.TheVariants.{Issue, Emit, Take, TakeBlock, PoolDrop, Put, SortDrop, Saved, Reclaim, Load, Save}
use Rattle.flow_journal.specs.Setting.{Setting, is_maker, is_sorted}
use Rattle.flow_journal.specs.Pasts.{Past, frame, same, comes_at}
use Rattle.flow_journal.specs.Hands.{hands, standing, let_go}
use Rattle.flow_journal.specs.QueueCounts.{gone_at}
use Rattle.flow_journal.specs.Waiting.{Waiting}
use Rattle.flow_journal.specs.Accepted.{accepts}
use Rattle.flow_journal.specs.Histories.{is_legal}
use Rattle.flow_journal.proofs.Rows.{row_laws}
use Rattle.flow_journal.proofs.Hands.{row_of, takes-alone, stood}
use Rattle.flow_journal.proofs.Counts.{times_by, queued-by, hand-standing}
use Rattle.flow_journal.proofs.EntryCounts.{count, bit, count-cons, count-append, count-let_go, puts_at, puts_of, emits_at}
use Rattle.flow_journal.proofs.Jobs.{reclaim_hand}
use Rattle.flow_journal.proofs.Outs.{out_of, of_index, waits}
use Rattle.flow_journal.proofs.Emissions.{puts-of_index, sorted-outs}
use Rattle.flow_journal.specs.EntryTests.{is_sort_drop}
use Rattle.run_laws.proofs.Tallies.{no_sort_drops}
use Rattle.run_laws.proofs.Jobs.{hands-fit, found-fits}

-- the entry is a take at v of an array that passes the test
abbrev pub takes_of : ℕ → (FrameName → Bool) → Entry → Bool
takes_of v t (Take r w m j) = eqb w v && t (frame m j)
takes_of v t (TakeBlock f x r w m j b n g) = eqb w v && t (frame m j)
takes_of v t _ = false

-- the entry is a drop of the sort list of v, of index k
abbrev pub sort_drops_at : ℕ → ℕ → Entry → Bool
sort_drops_at v k (SortDrop w m j) = eqb w v && eqb j k
sort_drops_at v k _ = false

pub outs-split : (v k : ℕ) (P : Past) → count (out_of v (of_index k)) P ≡ count (emits_at v k) P + count (sort_drops_at v k) P
outs-split v k [] = refl
outs-split v k (Emit w m i why ∷ P) =
    omega (arith, outs-split v k P, count-cons (out_of v (of_index k)) (Emit w m i why) P, count-cons (emits_at v k) (Emit w m i why) P)
outs-split v k (SortDrop w m i ∷ P) =
    omega (arith, outs-split v k P, count-cons (out_of v (of_index k)) (SortDrop w m i) P, count-cons (sort_drops_at v k) (SortDrop w m i) P)
outs-split v k (_ ∷ P) = outs-split v k P

-- what waits with this name has this index
pub waits-le : (m i : ℕ) (ws : List Waiting) → count (waits (λ a. same a (frame m i))) ws ≤ count (waits (of_index i)) ws
waits-le m i [] = omega arith
waits-le m i (w ∷ ws) =
    let one : bit (same w.array (frame m i)) ≤ bit (eqb w.array.index i) =
    elim (eqb w.array.maker m) as (λ b. bit (b && eqb w.array.index i) ≤ bit (eqb w.array.index i)) [ true ↦ omega arith | false ↦ omega arith ] in
    omega (arith, one, waits-le m i ws, count-cons (waits (λ a. same a (frame m i))) w ws, count-cons (waits (of_index i)) w ws)

pub none-at : (v k : ℕ) (P : Past) → count (sort_drops_at v k) P ≤ count (is_sort_drop v) P
none-at v k [] = omega arith
none-at v k (SortDrop w m i ∷ P) =
    let one : bit (eqb w v && eqb i k) ≤ bit (eqb w v) =
    elim (eqb w v) as (λ b. bit (b && eqb i k) ≤ bit b) [
      | true ↦ elim (eqb i k) as (λ c. bit c ≤ 1) [ true ↦ omega arith | false ↦ omega arith ]
      | false ↦ omega arith
    ] in
    omega (arith, none-at v k P, one, count-cons (sort_drops_at v k) (SortDrop w m i) P, count-cons (is_sort_drop v) (SortDrop w m i) P)
none-at v k (_ ∷ P) = none-at v k P

-- no more results of an index are dropped than were put
pub sort-le : (s : Setting) (P : Past) (v k : ℕ) → v ≢ 0 → is_legal s P ≡ true → count (sort_drops_at v k) P ≤ count (puts_at v k) P
sort-le s P v k nz h =
    elim (cases_Bool (is_sorted s v)) [
      | inl sorted ↦ omega (arith, sorted-outs s P v (of_index k) nz sorted h, outs-split v k P, puts-of_index v k P)
      | inr plain ↦ omega (arith, none-at v k P, no_sort_drops s P v plain h)
    ]

-- what was put at a node that makes nothing was taken there by this name
puts-taken-of : (s : Setting) (P : Past) (v : ℕ) (t : FrameName → Bool) → is_maker s v ≡ false → is_legal s P ≡ true
    → count (puts_of v t) P + count (takes_of v t) (hands P) ≡ count (takes_of v t) (standing P)
puts-taken-of s [] v t pass h = refl
puts-taken-of s (Take r w m i ∷ P) v t pass h =
    omega (
      arith,
      puts-taken-of s P v t pass (and_parts _ _ h).0,
      ap (count (takes_of v t)) (takes-alone s r (Take r w m i) P (eq-eqb r r refl) h),
      count-cons (takes_of v t) (Take r w m i) (let_go r (hands P)),
      count-cons (takes_of v t) (Take r w m i) (standing P),
    )
puts-taken-of s (TakeBlock f x r w m i b n g ∷ P) v t pass h =
    omega (
      arith,
      puts-taken-of s P v t pass (and_parts _ _ h).0,
      ap (count (takes_of v t)) (takes-alone s r (TakeBlock f x r w m i b n g) P (eq-eqb r r refl) h),
      count-cons (takes_of v t) (TakeBlock f x r w m i b n g) (let_go r (hands P)),
      count-cons (takes_of v t) (TakeBlock f x r w m i b n g) (standing P),
    )
puts-taken-of s (Issue r i ∷ P) v t pass h =
    let l = (row_laws.issue s P r i).0 (row_of s (Issue r i) P (λ d. refl) h) in
    omega (arith, puts-taken-of s P v t pass (and_parts _ _ h).0, count-let_go (takes_of v t) r _ (hands P) l.5)
puts-taken-of s (Saved r w m i ∷ P) v t pass h =
    let l = (row_laws.saved s P r w m i).0 (row_of s (Saved r w m i) P (λ d. refl) h) in
    omega (arith, puts-taken-of s P v t pass (and_parts _ _ h).0, count-let_go (takes_of v t) r _ (hands P) l.1)
puts-taken-of s (Put r w m i f ∷ P) v t pass h =
    let legal : is_legal s P ≡ true = (and_parts _ _ h).0 in
    let before = puts-taken-of s P v t pass legal in
    elim ((row_laws.put s P r w m i f).0 (row_of s (Put r w m i f) P (λ d. refl) h)).0 [
      | inl job ↦ omega (arith, before, count-let_go (takes_of v t) r (Take r w m i) (hands P) job, count-cons (puts_of v t) (Put r w m i f) P)
      | inr making ↦
          let e : Entry = TakeBlock making.1.3 making.1.5 r w making.1.0 i making.1.1 making.1.2 making.1.4 in
          let maker : is_maker s w ≡ true = found-fits s r e (hands P) (hands-fit s P legal) making.1.6 in
          let away : eqb w v ≡ false = other (cases_Bool (eqb w v)) maker in
          let a : takes_of v t e ≡ false = ap (λ (x : Bool). x && t (frame making.1.0 i)) away in
          let b : puts_of v t (Put r w m i f) ≡ false = ap (λ (x : Bool). x && t (frame m i)) away in
          omega (arith, before, count-let_go (takes_of v t) r e (hands P) making.1.6, ap bit a, ap bit b, count-cons (puts_of v t) (Put r w m i f) P)
    ]
  where
    other : (eqb w v ≡ true) ⊎ (eqb w v ≡ false) → is_maker s w ≡ true → eqb w v ≡ false
    other (inr away) maker = away
    other (inl here) maker = absurd (true≢false (sym maker ∙ (ap (is_maker s) (eqb-true w v here) ∙ pass)))
puts-taken-of s (Reclaim r ∷ P) v t pass h =
    let e = reclaim_hand s r P h in
    let legal : is_legal s P ≡ true = (and_parts _ _ h).0 in
    omega (
      arith,
      puts-taken-of s P v t pass legal,
      ap (count (takes_of v t)) (stood r e.0 P e.1),
      count-let_go (takes_of v t) r e.0 (hands P) e.1,
      count-let_go (takes_of v t) r e.0 (standing P) (hand-standing s P r e.0 legal e.1),
    )
puts-taken-of s (Load r i b n f g x ∷ P) v t pass h =
    omega (arith, puts-taken-of s P v t pass (and_parts _ _ h).0, ap (count (takes_of v t)) (takes-alone s r (Load r i b n f g x) P (eq-eqb r r refl) h))
puts-taken-of s (Save r w m i g ∷ P) v t pass h =
    omega (arith, puts-taken-of s P v t pass (and_parts _ _ h).0, ap (count (takes_of v t)) (takes-alone s r (Save r w m i g) P (eq-eqb r r refl) h))
puts-taken-of s (_ ∷ P) v t pass h = puts-taken-of s P v t pass (and_parts _ _ h).0

pub comes-of : (v w : ℕ) (t : FrameName → Bool) (a : FrameName) → times_by t (comes_at v w a []) ≡ bit (eqb w v && t a)
comes-of v w t a =
    elim (cases_Bool (eqb w v)) [
      | inl here ↦ rw here (omega (arith, count-cons t a []))
      | inr away ↦ rw away refl
    ]

gone-of : (v : ℕ) (t : FrameName → Bool) (P : Past) → count (takes_of v t) P ≤ times_by t (flat_map (gone_at v) P)
gone-of v t [] = omega arith
gone-of v t (Take r w m i ∷ P) =
    omega (
      arith,
      gone-of v t P,
      comes-of v w t (frame m i),
      count-append t (comes_at v w (frame m i) []) (flat_map (gone_at v) P),
      count-cons (takes_of v t) (Take r w m i) P,
    )
gone-of v t (TakeBlock f x r w m i b n g ∷ P) =
    omega (
      arith,
      gone-of v t P,
      comes-of v w t (frame m i),
      count-append t (comes_at v w (frame m i) []) (flat_map (gone_at v) P),
      count-cons (takes_of v t) (TakeBlock f x r w m i b n g) P,
    )
gone-of v t (PoolDrop r w m i n z ∷ P) = omega (arith, gone-of v t P, count-append t (comes_at v w (frame m i) []) (flat_map (gone_at v) P))
gone-of v t (_ ∷ P) = gone-of v t P

-- and so it was accepted
pub puts-accepted : (s : Setting) (P : Past) (v : ℕ) (t : FrameName → Bool) → is_maker s v ≡ false → is_legal s P ≡ true
    → count (puts_of v t) P ≤ times_by t (accepts v P)
puts-accepted s P v t pass h = omega (arith, puts-taken-of s P v t pass h, gone-of v t (standing P), queued-by s P v t h)
