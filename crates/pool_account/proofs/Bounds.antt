-- Each entry adds one block at most to those that are known, and one place at most to those of a block.
use Rattle.std.proofs.Common.{◌≡◌, ℕ, ◌+◌, ◌≤◌, Bool, true, false, not, eqb, List, [], ◌∷◌, ◌++◌, length, refl, sym, ap, ◌∙◌, arith, inl, inr, Some}
use Rattle.std.specs.Prelude.{filter}
use Rattle.std.proofs.lemmas.Bool.{and_parts, false≢true, eqb-true, cases_Bool}
use Rattle.nd_base.specs.declared.frame.FrameName.{FrameName}
use Rattle.trig_window.specs.Windows.{kept}
use Rattle.pool_ledger.specs.Grants.{Block, Granted, has_number, largest_free, known_after}
use Rattle.flow_journal.specs.declared.entry.Entry.{Entry}
use Rattle.flow_journal.specs.declared.entry.Entry.TheVariants.{Load, Issue, Emit, Accept, Take, TakeBlock, PoolDrop, Put, SortDrop, Settle, Saved, Reclaim}
use Rattle.flow_journal.specs.Setting.{Setting, Work, Makes, Passes, Watches, Saves, node, node_numbers, may_sort, is_sorted}
use Rattle.flow_journal.specs.Pasts.{Past, frame}
use Rattle.flow_journal.specs.Hands.{takes_up, hands, hand}
use Rattle.flow_journal.specs.Waiting.{waiting}
use Rattle.flow_journal.specs.Puts.{puts, firings}
use Rattle.flow_journal.specs.Unsaved.{is_file}
use Rattle.flow_journal.specs.FirstEntries.{first}
use Rattle.flow_journal.specs.Accounts.{block_of, refs, is_unplaced, known}
use Rattle.flow_journal.specs.AccountLaws.{times_among, times_held, kept_at}
use Rattle.flow_journal.specs.Histories.{is_legal}
use Rattle.flow_journal.proofs.EntryCounts.{count, bit}
use Rattle.flow_journal.proofs.AccountChanges.{block_laws, count_laws, refs-more}
use Rattle.flow_journal.proofs.Found.{found_up}
use Rattle.flow_journal.proofs.Kept.{kept_laws}
use Rattle.flow_journal.proofs.Hands.{row_of}
use Rattle.flow_journal.proofs.Rows.{row_laws}
use Rattle.flow_journal.proofs.Outs.{waits}
use Rattle.flow_journal.proofs.Emissions.{flags-puts, waiting-unsorted}
use Rattle.flow_journal.proofs.RingCounts.{ring-push}
use Rattle.flow_journal.proofs.Settled.{put-unsettled}
use Rattle.flow_journal.proofs.Changes.{ring_laws}
use Rattle.flow_journal.proofs.Offers.{is_number}
use Rattle.flow_journal.proofs.FrameBlocks.{has}
use Rattle.flow_journal.proofs.Travels.{clear-start}
use Rattle.flow_journal.proofs.Places.{arrays-count}
use Rattle.flow_journal.proofs.Totals.{sum_of, at_node, frame-count, blocks-count, nodes-same, refs-total}
use Rattle.pool_account.proofs.Carrying.{times-cons, held-one, held-more}
use Rattle.pool_account.proofs.Ledgers.{one-among}

few-filtered : (test : Block → Bool) (bs : List Block) → length (filter test bs) ≤ length bs
few-filtered test [] = omega arith
few-filtered test (b ∷ bs) =
    let rest = few-filtered test bs in elim (cases_Bool (test b)) [ inl t ↦ rw t (omega (arith, rest)) | inr f ↦ rw f (omega (arith, rest)) ]

few-after : (free : ℕ → Bool) (b n : ℕ) (f : Bool) (g : ℕ) (bs : List Block) → length (known_after free (Granted b n f g) bs) ≤ length bs + 1
few-after free b n false g bs = omega arith
few-after free b n true g bs = omega (arith, few-filtered (λ c. not (has_number c.number (largest_free g free bs))) bs)

pub known-few : (s : Setting) (P : Past) → length (known s P) ≤ length P
known-few s [] = omega arith
known-few s (Load r k b n f g x ∷ P) = omega (arith, few-after (is_unplaced s P) b n f g (known s P), known-few s P)
known-few s (TakeBlock f x r v m k b n g ∷ P) = omega (arith, few-after (is_unplaced s P) b n f g (known s P), known-few s P)
known-few s (e ∷ P) = omega (arith, known-few s P)

-- PLACES

none-at : (t : FrameName → Bool) (s : Setting) (us : List ℕ) → sum_of (at_node t s []) us ≡ 0
none-at t s [] = refl
none-at t s (v ∷ us) =
    let c = clear-start t t s in
    omega (arith, arrays-count t s [] v, c.queues v, c.lists v, c.rings v, c.files v, none-at t s us)

-- at the beginning no block has a place
pub none-placed : (s : Setting) (b : ℕ) → refs s [] b ≡ 0
none-placed s b = omega (arith, refs-total s b [] refl, none-at (has (is_number b) []) s (node_numbers s))

pub few-times : (b : ℕ) (bs : List ℕ) → times_among b bs ≤ length bs
few-times b [] = omega arith
few-times b (c ∷ bs) = omega (arith, times-cons b c bs, one-among b c, few-bit (eqb c b), few-times b bs)
  where
    few-bit : (t : Bool) → bit t ≤ 1
    few-bit true = omega arith
    few-bit false = omega arith

few-held : (P : Past) (b : ℕ) (a : FrameName) → times_held P b (a ∷ []) ≤ 1
few-held P b a = omega (arith, held-one P b a (block_of P a) refl, few-times b (block_of P a), block_laws.one P a)

few-bs : (b c : ℕ) → times_among b (c ∷ []) ≤ 1
few-bs b c = few-times b (c ∷ [])

-- A PUT

-- what a node keeps after a put is what it kept before, and the result
abbrev KeepsOne : Setting → Past → Entry → (v b : ℕ) → Type 0
KeepsOne s P e v b = times_held P b (kept_at s (e ∷ P) v) ≤ times_held P b (kept_at s P v) + 1

keeps-more : (s : Setting) (r v m k : ℕ) (f : Bool) (P : Past) (b : ℕ)
    → kept_at s (Put r v m k f ∷ P) v ≡ kept_at s P v ++ frame m k ∷ [] → KeepsOne s P (Put r v m k f) v b
keeps-more s r v m k f P b more = omega (arith, held-more s P r v m k f b more, few-held P b (frame m k))

keeps-ring : (s : Setting) (r v m k : ℕ) (f : Bool) (pre post preset : ℕ) (P : Past) (b : ℕ) → (node s v).work ≡ Watches pre post preset → is_legal s P ≡ true
    → first s P (Put r v m k f) ≡ true → KeepsOne s P (Put r v m k f) v b
keeps-ring s r v m k f pre post preset P b work legal row =
    let t : FrameName → Bool = has (is_number b) P in
    let before : times_held P b (kept_at s P v) ≡ count t (kept pre post preset (firings v P) (puts v P)) =
    ap (times_held P b) (kept_laws.watched s v pre post preset P work ∙ ring_laws.kept_is s v P pre post preset work (put-unsettled s r v m k f P legal row))
    ∙ blocks-count (is_number b) P (kept pre post preset (firings v P) (puts v P)) in
    let after : times_held P b (kept_at s (Put r v m k f ∷ P) v) ≡ count t (kept pre post preset (firings v P ++ f ∷ []) (puts v P ++ frame m k ∷ [])) =
    ap (times_held P b) (kept_laws.watched s v pre post preset (Put r v m k f ∷ P) work ∙ ring_laws.put s r v m k f P pre post preset work legal row)
    ∙ blocks-count (is_number b) P (kept pre post preset (firings v P ++ f ∷ []) (puts v P ++ frame m k ∷ [])) in
    omega (
      arith,
      before,
      after,
      ring-push pre post preset (firings v P) f t (puts v P) (frame m k) (flags-puts v P),
      few-held P b (frame m k),
      held-one P b (frame m k) (block_of P (frame m k)) refl,
      frame-count (is_number b) P (frame m k),
    )

keeps-one : (s : Setting) (r v m k : ℕ) (f : Bool) (P : Past) (b : ℕ) → is_legal s P ≡ true
    → first s P (Put r v m k f) ≡ true → KeepsOne s P (Put r v m k f) v b
keeps-one s r v m k f P b legal row = by_work (node s v).work refl
  where
    passes : may_sort (node s v).work ≡ true → KeepsOne s P (Put r v m k f) v b
    passes may =
        elim (cases_Bool (is_sorted s v)) [
          | inl sorted ↦ keeps-more s r v m k f P b (kept_laws.sorted s r v m k f P sorted)
          | inr plain ↦ omega (arith, ap (times_held P b) (kept_laws.unsorted s v (Put r v m k f ∷ P) may plain))
        ]

    by_work : (w : Work) → (node s v).work ≡ w → KeepsOne s P (Put r v m k f) v b
    by_work Makes is = passes (ap may_sort is)
    by_work (Passes deals) is = passes (ap may_sort is)
    by_work (Watches pre post preset) is = keeps-ring s r v m k f pre post preset P b is legal row
    by_work (Saves whole_groups n) is = keeps-more s r v m k f P b (kept_laws.file s r v m k f P (ap is_file is) legal)

-- ONE MORE ENTRY

-- one more place at most
abbrev AddsOne : Setting → Past → Entry → ℕ → Type 0
AddsOne s P e b = refs s (e ∷ P) b ≤ refs s P b + 1

adds-put : (s : Setting) (r v m k : ℕ) (f : Bool) (P : Past) (b : ℕ) → is_legal s (Put r v m k f ∷ P) ≡ true → AddsOne s P (Put r v m k f) b
adds-put s r v m k f P b h =
    let row : first s P (Put r v m k f) ≡ true = row_of s (Put r v m k f) P (λ d. refl) h in
    let kept_then = keeps-one s r v m k f P b (and_parts _ _ h).0 row in
    elim ((row_laws.put s P r v m k f).0 row).0 [
      | inl job ↦ omega (arith, count_laws.put s r v m k f (Take r v m k) P b h job, kept_then)
      | inr making ↦
          omega (
            arith,
            count_laws.put s r v m k f (TakeBlock making.1.3 making.1.5 r v making.1.0 k making.1.1 making.1.2 making.1.4) P b h making.1.6,
            kept_then,
          )
    ]

-- at a node without a sort list nothing goes out of it
drops-nothing : (s : Setting) (v m k : ℕ) (P : Past) (b : ℕ) → is_sorted s v ≡ false → is_legal s (SortDrop v m k ∷ P) ≡ true
    → refs s (SortDrop v m k ∷ P) b ≡ refs s P b
drops-nothing s v m k P b plain h =
    let e : Entry = SortDrop v m k in
    let t : FrameName → Bool = has (is_number b) P in
    let same_list : (u : ℕ) → waiting s u (e ∷ P) ≡ waiting s u P = λ u. elim (cases_Bool (eqb v u)) [
      | inl here ↦
          let off : is_sorted s u ≡ false = ap (is_sorted s) (sym (eqb-true v u here)) ∙ plain in
          waiting-unsorted s u (e ∷ P) off ∙ sym (waiting-unsorted s u P off)
      | inr away ↦ rw away refl
    ] in
    let nodes = nodes-same t s P (e ∷ P) (λ u. omega (arith, arrays-count t s P u, arrays-count t s (e ∷ P) u, ap (count (waits t)) (same_list u))) in
    omega (arith, refs-more s e P b refl h, refs-total s b P (and_parts _ _ h).0, nodes)

adds-reclaim : (s : Setting) (r : ℕ) (d : Entry) (P : Past) (b : ℕ) → is_legal s (Reclaim r ∷ P) ≡ true → hand r P ≡ Some d → AddsOne s P (Reclaim r) b
adds-reclaim s r (Load q k c n f g x) P b h held = omega (arith, count_laws.reclaim_load s r q k c n f g x P b h held)
adds-reclaim s r (TakeBlock f x q v m k c n g) P b h held = omega (arith, count_laws.reclaim_block s r q v m k c n f g x P b h held)
adds-reclaim s r (Reclaim q) P b h held = absurd (false≢true (found_up (takes_up r) (Reclaim q) (hands P) held))
adds-reclaim s r d P b h held = omega (arith, count_laws.reclaim_other s r d P b h held refl)

adds-one : (s : Setting) (e : Entry) (P : Past) (b : ℕ) → is_legal s (e ∷ P) ≡ true → AddsOne s P e b
adds-one s (Load r k c n f g x) P b h = omega (arith, count_laws.load s r k c n f g x P b h, few-bs b c)
adds-one s (TakeBlock f x r v m k c n g) P b h = omega (arith, count_laws.take_block s r v m k c n f g x P b h, few-bs b c)
adds-one s (Accept v m k) P b h = omega (arith, count_laws.accept s v m k P b h, few-held P b (frame m k))
adds-one s (Issue r k) P b h = omega (arith, count_laws.issue s r k P b h)
adds-one s (PoolDrop r v m k n z) P b h = omega (arith, count_laws.pool_drop s r v m k n z P b h)
adds-one s (Saved r v m k) P b h = omega (arith, count_laws.saved s r v m k P b h)
adds-one s (SortDrop v m k) P b h =
    elim (cases_Bool (is_sorted s v)) [
      | inl sorted ↦ omega (arith, count_laws.sort_drop s v m k P b sorted h)
      | inr plain ↦ omega (arith, drops-nothing s v m k P b plain h)
    ]
adds-one s (Emit v m k why) P b h =
    elim (cases_Bool (is_sorted s v)) [
      | inl sorted ↦ omega (arith, count_laws.emit_sorted s v m k why P b sorted h)
      | inr plain ↦ omega (arith, count_laws.emit_unsorted s v m k why P b plain h)
    ]
adds-one s (Settle r v) P b h = omega (arith, count_laws.settle s r v P b h)
adds-one s (Put r v m k f) P b h = adds-put s r v m k f P b h
adds-one s (Reclaim r) P b h =
    let facts = (row_laws.reclaim s P r).0 (row_of s (Reclaim r) P (λ d. refl) h) in adds-reclaim s r facts.holds.0 P b h facts.holds.1
adds-one s e P b h = omega (arith, count_laws.others s e P b refl h)

-- a block has no more places than the log has entries
pub refs-few : (s : Setting) (P : Past) (b : ℕ) → is_legal s P ≡ true → refs s P b ≤ length P
refs-few s [] b h = omega (arith, none-placed s b)
refs-few s (e ∷ P) b h = omega (arith, adds-one s e P b h, refs-few s P b (and_parts _ _ h).0)
