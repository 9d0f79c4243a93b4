-- How each entry changes the block of a frame, the count of a block and the known blocks.
use Rattle.std.proofs.Common.{◌≡◌, ℕ, ◌+◌, ◌≤◌, Bool, true, false, cond, eqb, List, [], ◌∷◌, ◌++◌, length, map, refl, sym, ap, ◌∙◌, subst, arith, Some}
use Rattle.std.specs.Prelude.{flat_map}
use Rattle.std.specs.List.{list_any, find}
use Rattle.std.proofs.lemmas.Bool.{and_parts, eqb-true, true≢false, false≢true, eq-eqb}
use Rattle.nd_base.specs.declared.frame.FrameName.{FrameName}
use Rattle.flow_journal.specs.declared.entry.Entry.{Entry}
use Rattle.flow_journal.specs.declared.entry.Entry.TheVariants.{Load, LoadRefused, Tick, Issue, Emit, Accept, Full, Take, TakeBlock, PoolDrop, Put}
use Rattle.flow_journal.specs.declared.entry.Entry.TheVariants.{SortDrop, Settle, Save, Saved, Close, Leave, Reclaim}
use Rattle.flow_journal.specs.Setting.{Setting}
use Rattle.flow_journal.specs.Pasts.{Past, frame}
use Rattle.flow_journal.specs.Hands.{takes_up, hands, hand, standing}
use Rattle.flow_journal.specs.Waiting.{waiting}
use Rattle.flow_journal.specs.Rings.{ring}
use Rattle.flow_journal.specs.Unsaved.{unsaved}
use Rattle.flow_journal.specs.Accounts.{granted_for, first_of, block_of, blocks_in_hand, refs, known, held}
use Rattle.flow_journal.specs.Histories.{is_legal}
use Rattle.flow_journal.specs.AccountLaws.{times_among, times_held, kept_at, moves_blocks, BlockLaws, keeps_counts, CountLaws, grants}
use Rattle.flow_journal.proofs.Steps.{same_refl}
use Rattle.flow_journal.proofs.EntryCounts.{bit, count-cons, count-append}
use Rattle.flow_journal.proofs.Found.{found_up}
use Rattle.flow_journal.proofs.Counts.{hand-standing}
use Rattle.flow_journal.proofs.Hands.{takes_up-one, flat-let_go, stood, takes-alone}
use Rattle.flow_journal.proofs.Offers.{is_number}
use Rattle.flow_journal.proofs.FrameBlocks.{Stands, has, or-false, load-block, take-block}
use Rattle.flow_journal.proofs.Making.{unloaded-nowhere, reclaimed-nowhere, untaken-nowhere, untaken-again}
use Rattle.flow_journal.proofs.Places.{map-count}
use Rattle.flow_journal.proofs.Totals.{held_by, total, hand-count, blocks-count, refs-total, tests-same, sum_of}
use Rattle.flow_journal.proofs.TotalChanges.{kept_count, total-accept, total-take, total-take_block, total-pool_drop, total-issue, total-saved, total-emit}
use Rattle.flow_journal.proofs.TotalChanges.{total-emit_unsorted, total-sort_drop, total-settle, total-save, total-put, made_in, total-reclaim}

-- BLOCKS OF FRAMES

first_of-few : (bs : List ℕ) → length (first_of bs) ≤ 1
first_of-few [] = omega arith
first_of-few (b ∷ bs) = omega arith

block_others : (e : Entry) (P : Past) (a : FrameName) → moves_blocks e ≡ false → block_of (e ∷ P) a ≡ block_of P a
block_others (Load r k b n f g x) P a h = absurd (true≢false h)
block_others (TakeBlock f x r v m k b n g) P a h = absurd (true≢false h)
block_others (Reclaim r) P a h = absurd (true≢false h)
block_others _ P a h = refl

none_granted : (e : Entry) (a : FrameName) → moves_blocks e ≡ false → granted_for a e ≡ []
none_granted (Load r k b n f g x) a h = absurd (true≢false h)
none_granted (TakeBlock f x r v m k b n g) a h = absurd (true≢false h)
none_granted _ a h = refl

block-reclaimed : (s : Setting) (r : ℕ) (e : Entry) (P : Past) (a : FrameName) → is_legal s P ≡ true → hand r P ≡ Some e → granted_for a e ≡ []
    → block_of (Reclaim r ∷ P) a ≡ block_of P a
block-reclaimed s r e P a legal held none =
    ap (λ (es : List Entry). first_of (flat_map (granted_for a) es)) (stood r e P held)
    ∙ ap first_of (flat-let_go (granted_for a) r e (standing P) (hand-standing s P r e legal held) none)

-- the newest hand stands
newest_load : (s : Setting) (r k b n : ℕ) (f : Bool) (g : ℕ) (x : Bool) (P : Past) → is_legal s (Load r k b n f g x ∷ P) ≡ true
    → block_of (Load r k b n f g x ∷ P) (frame 0 k) ≡ b ∷ []
newest_load s r k b n f g x P h = ap (λ (c : Bool). first_of (cond c (b ∷ []) [] ++ flat_map (granted_for (frame 0 k)) (standing P))) (same_refl (frame 0 k))

newest_block : (s : Setting) (r v m k b n : ℕ) (f : Bool) (g : ℕ) (x : Bool) (P : Past) → is_legal s (TakeBlock f x r v m k b n g ∷ P) ≡ true
    → block_of (TakeBlock f x r v m k b n g ∷ P) (frame v k) ≡ b ∷ []
newest_block s r v m k b n f g x P h =
    ap (λ (c : Bool). first_of (cond c (b ∷ []) [] ++ flat_map (granted_for (frame v k)) (standing P))) (same_refl (frame v k))

held_load : (s : Setting) (r q k b n : ℕ) (f : Bool) (g : ℕ) (x : Bool) (P : Past) → is_legal s P ≡ true
    → hand r P ≡ Some (Load q k b n f g x) → block_of P (frame 0 k) ≡ b ∷ []
held_load s r q k b n f g x P legal held =
    let own : q ≡ r = eqb-true q r (found_up (takes_up r) (Load q k b n f g x) (hands P) held) in
    let mine : hand r P ≡ Some (Load r k b n f g x) = subst (λ (p : ℕ). hand r P ≡ Some (Load p k b n f g x)) own held in
    load-block s P r k b n f g x legal (hand-standing s P r (Load r k b n f g x) legal mine)

held_block : (s : Setting) (r q v m k b n : ℕ) (f : Bool) (g : ℕ) (x : Bool) (P : Past) → is_legal s P ≡ true
    → hand r P ≡ Some (TakeBlock f x q v m k b n g) → block_of P (frame v k) ≡ b ∷ []
held_block s r q v m k b n f g x P legal held =
    let own : q ≡ r = eqb-true q r (found_up (takes_up r) (TakeBlock f x q v m k b n g) (hands P) held) in
    let mine : hand r P ≡ Some (TakeBlock f x r v m k b n g) = subst (λ (p : ℕ). hand r P ≡ Some (TakeBlock f x p v m k b n g)) own held in
    take-block s P r v m k b n f g x legal (hand-standing s P r (TakeBlock f x r v m k b n g) legal mine)

pub block_laws : BlockLaws
block_laws = record {
  one = λ P a. first_of-few (flat_map (granted_for a) (standing P));
  load = newest_load;
  load_other = λ r k b n f g x P a h. ap (λ (c : Bool). first_of (cond c (b ∷ []) [] ++ flat_map (granted_for a) (standing P))) h;
  take_block = newest_block;
  take_block_other = λ r v m k b n f g x P a h. ap (λ (c : Bool). first_of (cond c (b ∷ []) [] ++ flat_map (granted_for a) (standing P))) h;
  in_hand_load = held_load;
  in_hand_block = held_block;
  reclaim_load = λ s r q k b n f g x P a legal held h. block-reclaimed s r (Load q k b n f g x) P a legal held (ap (λ (c : Bool). cond c (b ∷ []) []) h);
  reclaim_block =
      λ s r q v m k b n f g x P a legal held h. block-reclaimed s r (TakeBlock f x q v m k b n g) P a legal held (ap (λ (c : Bool). cond c (b ∷ []) []) h);
  reclaim_other = λ s r e P a legal held h. block-reclaimed s r e P a legal held (none_granted e a h);
  others = block_others;
}

-- COUNTS

-- how many of one array have the block
one_held : (P : Past) (b : ℕ) (a : FrameName) → times_held P b (a ∷ []) ≡ bit (has (is_number b) P a)
one_held P b a = omega (arith, blocks-count (is_number b) P (a ∷ []), count-cons (has (is_number b) P) a [])

-- where no frame's block changes, the count goes by the same test
pub refs-more : (s : Setting) (e : Entry) (P : Past) (b : ℕ) → moves_blocks e ≡ false → is_legal s (e ∷ P) ≡ true
    → refs s (e ∷ P) b ≡ total (has (is_number b) P) s (e ∷ P)
refs-more s e P b none h =
    refs-total s b (e ∷ P) h ∙ ap (λ (t : FrameName → Bool). total t s (e ∷ P)) (λ i a. list_any (is_number b) (block_others e P a none i))

before : (s : Setting) (e : Entry) (P : Past) (b : ℕ) → is_legal s (e ∷ P) ≡ true → refs s P b ≡ total (has (is_number b) P) s P
before s e P b h = refs-total s b P (and_parts _ _ h).0

kept-blocks : (s : Setting) (P Q : Past) (b v : ℕ) → times_held P b (kept_at s Q v) ≡ kept_count (has (is_number b) P) s Q v
kept-blocks s P Q b v =
    let t : FrameName → Bool = has (is_number b) P in
    let ws : List FrameName = map (λ w. w.array) (waiting s v Q) in
    blocks-count (is_number b) P (kept_at s Q v)
    ∙ omega (arith, count-append t (ws ++ ring s v Q) (unsaved s v Q), count-append t ws (ring s v Q), map-count t (waiting s v Q))

one_among : (b c : ℕ) → times_among b (c ∷ []) ≡ bit (eqb c b)
one_among b c = omega (arith, count-cons (is_number b) c [])

-- a load gives the frame that it makes its block, and no other place has that frame
load-count : (s : Setting) (r k c n : ℕ) (f : Bool) (g : ℕ) (x : Bool) (P : Past) (b : ℕ) → is_legal s (Load r k c n f g x ∷ P) ≡ true
    → refs s (Load r k c n f g x ∷ P) b ≡ refs s P b + times_among b (c ∷ [])
load-count s r k c n f g x P b h =
    let e : Entry = Load r k c n f g x in
    let t : FrameName → Bool = has (is_number b) P in
    let u : FrameName → Bool = has (is_number b) (e ∷ P) in
    let made : u (frame 0 k) ≡ list_any (is_number b) (c ∷ []) = ap (list_any (is_number b)) (newest_load s r k c n f g x P h) in
    let others : total u s P ≡ total t s P =
    tests-same u t (frame 0 k) s P (λ a other. ap (list_any (is_number b)) (block_laws.load_other r k c n f g x P a other))
    (unloaded-nowhere s r k c n f g x P h) in
    let whole : total u s (e ∷ P) ≡ bit (u (frame 0 k)) + total u s P = omega (arith, ap (sum_of (held_by u)) (takes-alone s r e P (eq-eqb r r refl) h)) in
    omega (arith, refs-total s b (e ∷ P) h, whole, ap bit (made ∙ or-false (eqb c b)), others, before s e P b h, one_among b c)

take_block-count : (s : Setting) (r v m k c n : ℕ) (f : Bool) (g : ℕ) (x : Bool) (P : Past) (b : ℕ) → is_legal s (TakeBlock f x r v m k c n g ∷ P) ≡ true
    → refs s (TakeBlock f x r v m k c n g ∷ P) b ≡ refs s P b + times_among b (c ∷ [])
take_block-count s r v m k c n f g x P b h =
    let e : Entry = TakeBlock f x r v m k c n g in
    let t : FrameName → Bool = has (is_number b) P in
    let u : FrameName → Bool = has (is_number b) (e ∷ P) in
    let made : u (frame v k) ≡ list_any (is_number b) (c ∷ []) = ap (list_any (is_number b)) (newest_block s r v m k c n f g x P h) in
    let others : total u s P ≡ total t s P =
    tests-same u t (frame v k) s P (λ a other. ap (list_any (is_number b)) (block_laws.take_block_other r v m k c n f g x P a other))
    (untaken-nowhere s r v m k c n f g x P h) in
    omega (
      arith,
      refs-total s b (e ∷ P) h,
      total-take_block u s r v m k c n f g x P h,
      ap bit (made ∙ or-false (eqb c b)),
      others,
      before s e P b h,
      one_among b c,
    )

-- where a hand is reclaimed in which a frame was made, its block goes with it
reclaim_load-count : (s : Setting) (r q k c n : ℕ) (f : Bool) (g : ℕ) (x : Bool) (P : Past) (b : ℕ) → is_legal s (Reclaim r ∷ P) ≡ true
    → hand r P ≡ Some (Load q k c n f g x) → refs s P b ≡ refs s (Reclaim r ∷ P) b + times_among b (c ∷ [])
reclaim_load-count s r q k c n f g x P b h held =
    let e : Entry = Load q k c n f g x in
    let legal : is_legal s P ≡ true = (and_parts _ _ h).0 in
    let t : FrameName → Bool = has (is_number b) P in
    let u : FrameName → Bool = has (is_number b) (Reclaim r ∷ P) in
    let made : t (frame 0 k) ≡ list_any (is_number b) (c ∷ []) = ap (list_any (is_number b)) (held_load s r q k c n f g x P legal held) in
    let others : total u s (Reclaim r ∷ P) ≡ total t s (Reclaim r ∷ P) =
    tests-same u t (frame 0 k) s (Reclaim r ∷ P) (λ a other. ap (list_any (is_number b)) (block_laws.reclaim_load s r q k c n f g x P a legal held other))
    (reclaimed-nowhere s r q k c n f g x P h held) in
    omega (
      arith,
      refs-total s b (Reclaim r ∷ P) h,
      refs-total s b P legal,
      total-reclaim t s r e P h held,
      others,
      ap bit (made ∙ or-false (eqb c b)),
      one_among b c,
    )

reclaim_block-count : (s : Setting) (r q v m k c n : ℕ) (f : Bool) (g : ℕ) (x : Bool) (P : Past) (b : ℕ) → is_legal s (Reclaim r ∷ P) ≡ true
    → hand r P ≡ Some (TakeBlock f x q v m k c n g) → refs s P b ≡ refs s (Reclaim r ∷ P) b + times_among b (c ∷ [])
reclaim_block-count s r q v m k c n f g x P b h held =
    let e : Entry = TakeBlock f x q v m k c n g in
    let legal : is_legal s P ≡ true = (and_parts _ _ h).0 in
    let t : FrameName → Bool = has (is_number b) P in
    let u : FrameName → Bool = has (is_number b) (Reclaim r ∷ P) in
    let made : t (frame v k) ≡ list_any (is_number b) (c ∷ []) = ap (list_any (is_number b)) (held_block s r q v m k c n f g x P legal held) in
    let others : total u s (Reclaim r ∷ P) ≡ total t s (Reclaim r ∷ P) =
    tests-same u t (frame v k) s (Reclaim r ∷ P) (λ a other. ap (list_any (is_number b)) (block_laws.reclaim_block s r q v m k c n f g x P a legal held other))
    (untaken-again s r q v m k c n f g x P h held) in
    omega (
      arith,
      refs-total s b (Reclaim r ∷ P) h,
      refs-total s b P legal,
      total-reclaim t s r e P h held,
      others,
      ap bit (made ∙ or-false (eqb c b)),
      one_among b c,
    )

reclaim_other-count : (s : Setting) (r : ℕ) (e : Entry) (P : Past) (b : ℕ) → is_legal s (Reclaim r ∷ P) ≡ true → hand r P ≡ Some e → moves_blocks e ≡ false
    → refs s (Reclaim r ∷ P) b ≡ refs s P b
reclaim_other-count s r e P b h held none =
    let legal : is_legal s P ≡ true = (and_parts _ _ h).0 in
    let t : FrameName → Bool = has (is_number b) P in
    let kept_blocks : total (has (is_number b) (Reclaim r ∷ P)) s (Reclaim r ∷ P) ≡ total t s (Reclaim r ∷ P) =
    ap (λ (u : FrameName → Bool). total u s (Reclaim r ∷ P)) (λ i a. list_any (is_number b) (block_laws.reclaim_other s r e P a legal held none i)) in
    omega (arith, refs-total s b (Reclaim r ∷ P) h, refs-total s b P legal, total-reclaim t s r e P h held, kept_blocks, nothing_made t e none)
  where
    nothing_made : (t : FrameName → Bool) (e : Entry) → moves_blocks e ≡ false → made_in t e ≡ 0
    nothing_made t (Load r k b n f g x) h = absurd (true≢false h)
    nothing_made t (TakeBlock f x r v m k b n g) h = absurd (true≢false h)
    nothing_made t _ h = refl

stands_in_hand : (s : Setting) (r : ℕ) (d : Entry) (P : Past) → is_legal s P ≡ true → hand r P ≡ Some d → Stands P d
stands_in_hand s r d P legal held q up =
    let own : r ≡ q = eqb-true r q (sym (takes_up-one r q d (found_up (takes_up r) d (hands P) held)) ∙ up) in
    subst (λ (p : ℕ). find (takes_up p) (standing P) ≡ Some d) own (hand-standing s P r d legal held)

put-count : (s : Setting) (r v m k : ℕ) (f : Bool) (d : Entry) (P : Past) (b : ℕ) → is_legal s (Put r v m k f ∷ P) ≡ true → hand r P ≡ Some d
    → refs s (Put r v m k f ∷ P) b + times_among b (blocks_in_hand P d) + times_held P b (kept_at s P v)
    ≡ refs s P b + times_held P b (kept_at s (Put r v m k f ∷ P) v)
put-count s r v m k f d P b h held =
    let e : Entry = Put r v m k f in
    let legal : is_legal s P ≡ true = (and_parts _ _ h).0 in
    let t : FrameName → Bool = has (is_number b) P in
    let in_hand : times_among b (blocks_in_hand P d) ≡ held_by t d = hand-count s (is_number b) P d legal (stands_in_hand s r d P legal held) in
    omega (arith, refs-more s e P b refl h, before s e P b h, total-put t s r v m k f d P h held, in_hand, kept-blocks s P P b v, kept-blocks s P (e ∷ P) b v)

no_change : (s : Setting) (e : Entry) (P : Past) (b : ℕ) → keeps_counts e ≡ true → is_legal s (e ∷ P) ≡ true → refs s (e ∷ P) b ≡ refs s P b
no_change s (Take r v m k) P b k_ h =
    omega (arith, refs-more s (Take r v m k) P b refl h, before s (Take r v m k) P b h, total-take (has (is_number b) P) s r v m k P h)
no_change s (Save r v m k g) P b k_ h =
    omega (arith, refs-more s (Save r v m k g) P b refl h, before s (Save r v m k g) P b h, total-save (has (is_number b) P) s r v m k g P h)
no_change s (LoadRefused r k n z) P b k_ h = refs-more s (LoadRefused r k n z) P b refl h ∙ sym (before s (LoadRefused r k n z) P b h)
no_change s (Tick u) P b k_ h = refs-more s (Tick u) P b refl h ∙ sym (before s (Tick u) P b h)
no_change s (Full v m k) P b k_ h = refs-more s (Full v m k) P b refl h ∙ sym (before s (Full v m k) P b h)
no_change s (Close r) P b k_ h = refs-more s (Close r) P b refl h ∙ sym (before s (Close r) P b h)
no_change s (Leave r) P b k_ h = refs-more s (Leave r) P b refl h ∙ sym (before s (Leave r) P b h)
no_change s _ P b k_ h = absurd (false≢true k_)

pub count_laws : CountLaws
count_laws = record {
  load = load-count;
  take_block = take_block-count;
  accept =
      λ s v m k P b h. let t = has (is_number b) P in
      omega (arith, refs-more s (Accept v m k) P b refl h, before s (Accept v m k) P b h, total-accept t s v m k P h, one_held P b (frame m k));
  issue =
      λ s r k P b h. let t = has (is_number b) P in
      omega (arith, refs-more s (Issue r k) P b refl h, before s (Issue r k) P b h, total-issue t s r k P h, one_held P b (frame 0 k));
  pool_drop =
      λ s r v m k n z P b h. let t = has (is_number b) P in omega (
        arith,
        refs-more s (PoolDrop r v m k n z) P b refl h,
        before s (PoolDrop r v m k n z) P b h,
        total-pool_drop t s r v m k n z P h,
        one_held P b (frame m k),
      );
  saved =
      λ s r v m k P b h. let t = has (is_number b) P in
      omega (arith, refs-more s (Saved r v m k) P b refl h, before s (Saved r v m k) P b h, total-saved t s r v m k P h, one_held P b (frame m k));
  sort_drop =
      λ s v m k P b sorted h. let t = has (is_number b) P in
      omega (arith, refs-more s (SortDrop v m k) P b refl h, before s (SortDrop v m k) P b h, total-sort_drop t s v m k P sorted h, one_held P b (frame m k));
  emit_sorted =
      λ s v m k why P b sorted h. let t = has (is_number b) P in
      omega (arith, refs-more s (Emit v m k why) P b refl h, before s (Emit v m k why) P b h, total-emit t s v m k why P sorted h, one_held P b (frame m k));
  emit_unsorted =
      λ s v m k why P b plain h. let t = has (is_number b) P in
      omega (arith, refs-more s (Emit v m k why) P b refl h, before s (Emit v m k why) P b h, total-emit_unsorted t s v m k why P plain);
  settle =
      λ s r v P b h. let t = has (is_number b) P in
      omega (arith, refs-more s (Settle r v) P b refl h, before s (Settle r v) P b h, total-settle t s r v P h, blocks-count (is_number b) P (ring s v P));
  put = put-count;
  reclaim_load = reclaim_load-count;
  reclaim_block = reclaim_block-count;
  reclaim_other = reclaim_other-count;
  others = no_change;
}

-- KNOWN BLOCKS

pub known_others : (s : Setting) (e : Entry) (P : Past) → grants e ≡ false → known s (e ∷ P) ≡ known s P
known_others s (Load r k b n f g x) P h = absurd (true≢false h)
known_others s (TakeBlock f x r v m k b n g) P h = absurd (true≢false h)
known_others s _ P h = refl
