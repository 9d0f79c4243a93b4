-- What a node accepted is queued or in hand, was put, or the pool dropped it; and only sorted nodes drop results.
use Rattle.std.proofs.Common.{◌≡◌, ◌≢◌, ℕ, ◌+◌, Bool, true, false, ◌&&◌, cond, eqb, ltb, List, [], ◌∷◌, ◌++◌, map, drop, length, refl, sym, ap, ◌∙◌, subst}
use Rattle.std.proofs.Common.{arith, inl, inr, ℤ}
use Rattle.std.specs.Prelude.{flat_map}
use Rattle.std.specs.List.{list_all}
use Rattle.std.proofs.lemmas.Bool.{and_parts, false≢true, eqb-true, eqb-false, cases_Bool, eq-eqb}
use Rattle.nd_base.specs.declared.frame.FrameName.{FrameName}
use Rattle.trig_window.specs.Windows.{is_trigger, is_passed}
use Rattle.flow_journal.specs.declared.entry.Entry.{Entry}
use Rattle.flow_journal.specs.declared.entry.Entry.TheVariants.{Tick, Issue, Emit, Take, TakeBlock, PoolDrop, Put, SortDrop, Settle, Saved, Reclaim, Load, Save}
use Rattle.flow_journal.specs.declared.entry.Why.{Why}
use Rattle.flow_journal.specs.declared.entry.Why.TheVariants.{Flush, Ring, Now}
use Rattle.flow_journal.specs.Setting.{Setting, Work, Makes, Passes, Watches, Saves, node, id_at, is_sorted, node_numbers}
use Rattle.flow_journal.specs.Turns.{offered_to}
use Rattle.flow_journal.specs.Pasts.{Past, frame, comes_at}
use Rattle.flow_journal.specs.Hands.{takes_up, hands, standing, let_go}
use Rattle.flow_journal.specs.Queued.{queued}
use Rattle.flow_journal.specs.QueueCounts.{gone_at}
use Rattle.flow_journal.specs.Puts.{firings}
use Rattle.flow_journal.specs.Rings.{ring}
use Rattle.flow_journal.specs.Waiting.{Waiting, waiting, least_first}
use Rattle.flow_journal.specs.Accepted.{accepts}
use Rattle.queue_sort.specs.Sorting.{keeps_step}
use Rattle.flow_journal.specs.Following.{offer, emit, goes_out, look, result, calls_for, owed}
use Rattle.flow_journal.specs.Histories.{is_legal}
use Rattle.flow_journal.proofs.Rows.{row_laws}
use Rattle.flow_journal.proofs.Hands.{row_of, takes-alone, stood}
use Rattle.flow_journal.proofs.Found.{found_up}
use Rattle.flow_journal.proofs.Counts.{times_by, queued-by, hand-standing}
use Rattle.flow_journal.proofs.EntryCounts.{count, bit, count-cons, count-append, count-drop, count-let_go, takes_at, puts_at, owed-answered}
use Rattle.flow_journal.proofs.EntryCounts.{answers-by_SortDrop}
use Rattle.flow_journal.proofs.Jobs.{putting_hand, reclaim_hand}
use Rattle.flow_journal.proofs.Outs.{of_index, is_out_at, AllOutAt, result-at}
use Rattle.flow_journal.proofs.Issues.{comes-count}
use Rattle.flow_journal.specs.EntryTests.{is_sort_drop}

-- the entry is a drop of the pool at v, of index k
abbrev pub pool_drops_at : ℕ → ℕ → Entry → Bool
pool_drops_at v k (PoolDrop r w m j n h) = eqb w v && eqb j k
pool_drops_at v k _ = false

-- what left the queue was taken or dropped
gone-split : (v k : ℕ) (P : Past) → times_by (of_index k) (flat_map (gone_at v) P) ≡ count (takes_at v k) P + count (pool_drops_at v k) P
gone-split v k [] = refl
gone-split v k (Take r w m i ∷ P) =
    omega (
      arith,
      gone-split v k P,
      comes-count v w m i k [],
      count-append (of_index k) (comes_at v w (frame m i) []) (flat_map (gone_at v) P),
      count-cons (takes_at v k) (Take r w m i) P,
    )
gone-split v k (TakeBlock f x r w m i b n g ∷ P) =
    omega (
      arith,
      gone-split v k P,
      comes-count v w m i k [],
      count-append (of_index k) (comes_at v w (frame m i) []) (flat_map (gone_at v) P),
      count-cons (takes_at v k) (TakeBlock f x r w m i b n g) P,
    )
gone-split v k (PoolDrop r w m i n z ∷ P) =
    omega (
      arith,
      gone-split v k P,
      comes-count v w m i k [],
      count-append (of_index k) (comes_at v w (frame m i) []) (flat_map (gone_at v) P),
      count-cons (pool_drops_at v k) (PoolDrop r w m i n z) P,
    )
gone-split v k (_ ∷ P) = gone-split v k P

-- a drop is no hand, and so it stands
hand_no_drop : (v k r : ℕ) (e : Entry) → takes_up r e ≡ true → pool_drops_at v k e ≡ false
hand_no_drop v k r (PoolDrop q w m i n z) h = absurd (false≢true h)
hand_no_drop v k r _ h = refl

drops-stand : (s : Setting) (P : Past) (v k : ℕ) → is_legal s P ≡ true → count (pool_drops_at v k) (standing P) ≡ count (pool_drops_at v k) P
drops-stand s [] v k h = refl
drops-stand s (PoolDrop r w m i n z ∷ P) v k h =
    omega (
      arith,
      drops-stand s P v k (and_parts _ _ h).0,
      count-cons (pool_drops_at v k) (PoolDrop r w m i n z) P,
      count-cons (pool_drops_at v k) (PoolDrop r w m i n z) (standing P),
    )
drops-stand s (Reclaim r ∷ P) v k h =
    let e = reclaim_hand s r P h in
    let legal : is_legal s P ≡ true = (and_parts _ _ h).0 in
    let found = hand-standing s P r e.0 legal e.1 in
    omega (
      arith,
      drops-stand s P v k legal,
      ap (count (pool_drops_at v k)) (stood r e.0 P e.1),
      count-let_go (pool_drops_at v k) r e.0 (standing P) found,
      ap bit (hand_no_drop v k r e.0 (found_up (takes_up r) e.0 (standing P) found)),
    )
drops-stand s (_ ∷ P) v k h = drops-stand s P v k (and_parts _ _ h).0

-- what was taken for good was put or is in hand
puts-taken-all : (s : Setting) (P : Past) (v k : ℕ) → is_legal s P ≡ true
    → count (puts_at v k) P + count (takes_at v k) (hands P) ≡ count (takes_at v k) (standing P)
puts-taken-all s [] v k h = refl
puts-taken-all s (Take r w m i ∷ P) v k h =
    omega (
      arith,
      puts-taken-all s P v k (and_parts _ _ h).0,
      ap (count (takes_at v k)) (takes-alone s r (Take r w m i) P (eq-eqb r r refl) h),
      count-cons (takes_at v k) (Take r w m i) (let_go r (hands P)),
      count-cons (takes_at v k) (Take r w m i) (standing P),
    )
puts-taken-all s (TakeBlock f x r w m i b n g ∷ P) v k h =
    omega (
      arith,
      puts-taken-all s P v k (and_parts _ _ h).0,
      ap (count (takes_at v k)) (takes-alone s r (TakeBlock f x r w m i b n g) P (eq-eqb r r refl) h),
      count-cons (takes_at v k) (TakeBlock f x r w m i b n g) (let_go r (hands P)),
      count-cons (takes_at v k) (TakeBlock f x r w m i b n g) (standing P),
    )
puts-taken-all s (Issue r i ∷ P) v k h =
    let l = (row_laws.issue s P r i).0 (row_of s (Issue r i) P (λ d. refl) h) in
    omega (arith, puts-taken-all s P v k (and_parts _ _ h).0, count-let_go (takes_at v k) r _ (hands P) l.5)
puts-taken-all s (Saved r w m i ∷ P) v k h =
    let l = (row_laws.saved s P r w m i).0 (row_of s (Saved r w m i) P (λ d. refl) h) in
    omega (arith, puts-taken-all s P v k (and_parts _ _ h).0, count-let_go (takes_at v k) r _ (hands P) l.1)
puts-taken-all s (Put r w m i f ∷ P) v k h =
    let e = putting_hand s r w m i f P h in
    let less = count-let_go (takes_at v k) r e.0 (hands P) e.1 in
    let match : bit (takes_at v k e.0) ≡ bit (puts_at v k (Put r w m i f)) = ap bit (e.2 v k) in
    omega (arith, puts-taken-all s P v k (and_parts _ _ h).0, less, match, count-cons (puts_at v k) (Put r w m i f) P)
puts-taken-all s (Reclaim r ∷ P) v k h =
    let e = reclaim_hand s r P h in
    let legal : is_legal s P ≡ true = (and_parts _ _ h).0 in
    omega (
      arith,
      puts-taken-all s P v k legal,
      ap (count (takes_at v k)) (stood r e.0 P e.1),
      count-let_go (takes_at v k) r e.0 (hands P) e.1,
      count-let_go (takes_at v k) r e.0 (standing P) (hand-standing s P r e.0 legal e.1),
    )
puts-taken-all s (Load r i b n f g x ∷ P) v k h =
    omega (arith, puts-taken-all s P v k (and_parts _ _ h).0, ap (count (takes_at v k)) (takes-alone s r (Load r i b n f g x) P (eq-eqb r r refl) h))
puts-taken-all s (Save r w m i g ∷ P) v k h =
    omega (arith, puts-taken-all s P v k (and_parts _ _ h).0, ap (count (takes_at v k)) (takes-alone s r (Save r w m i g) P (eq-eqb r r refl) h))
puts-taken-all s (_ ∷ P) v k h = puts-taken-all s P v k (and_parts _ _ h).0

-- each accepted array of an index is in one of four places
pub accepts-all : (s : Setting) (P : Past) (v k : ℕ) → is_legal s P ≡ true
    → times_by (of_index k) (accepts v P)
    ≡ times_by (of_index k) (queued v P) + count (takes_at v k) (hands P) + count (puts_at v k) P + count (pool_drops_at v k) P
accepts-all s P v k h = omega (arith, queued-by s P v (of_index k) h, gone-split v k (standing P), drops-stand s P v k h, puts-taken-all s P v k h)

-- NO DROPS OF RESULTS WITHOUT A SORT LIST

out_elsewhere : (v w : ℕ) (e : Entry) → w ≢ v → is_out_at w e ≡ true → is_sort_drop v e ≡ false
out_elsewhere v w (SortDrop u m i) ne h =
    elim (cases_Bool (eqb u v)) [
      | inl here ↦ absurd (ne (sym (eqb-true u w h) ∙ eqb-true u v here))
      | inr away ↦ away
    ]
out_elsewhere v w _ ne h = refl

none-elsewhere : (v w : ℕ) (ds : List Entry) → w ≢ v → AllOutAt w ds → count (is_sort_drop v) ds ≡ 0
none-elsewhere v w [] ne h = refl
none-elsewhere v w (d ∷ ds) ne h =
    let p = and_parts (is_out_at w d) (list_all (is_out_at w) ds) h in
    omega (arith, count-cons (is_sort_drop v) d ds, ap bit (out_elsewhere v w d ne p.0), none-elsewhere v w ds ne p.1)

none-emitted : (v w : ℕ) (why : Why) (xs : List FrameName) → count (is_sort_drop v) (map (emit w why) xs) ≡ 0
none-emitted v w why [] = refl
none-emitted v w why (x ∷ xs) = none-emitted v w why xs

none-flushed : (v w : ℕ) (ws : List Waiting) → count (is_sort_drop v) (map (λ (u : Waiting). emit w Flush u.array) ws) ≡ 0
none-flushed v w [] = refl
none-flushed v w (u ∷ us) = none-flushed v w us

none-offered : (v : ℕ) (a : FrameName) (cs : List ℕ) → count (is_sort_drop v) (map (offer a) cs) ≡ 0
none-offered v a [] = refl
none-offered v a (c ∷ cs) = none-offered v a cs

none-goes_out : (s : Setting) (v w : ℕ) (before : ℤ) (now : ℕ) (ws : List Waiting) → count (is_sort_drop v) (goes_out s w before now ws) ≡ 0
none-goes_out s v w before now [] = refl
none-goes_out s v w before now (u ∷ us) =
    let more = none-goes_out s v w (id_at s u.array.index) now us in
    elim (cases_Bool (keeps_step before (id_at s u.array.index))) [
      | inl step ↦ rw step more
      | inr out ↦ elim (cases_Bool (ltb (u.tick + (node s w).sort_time) now)) [
        | inl late ↦ rw (out, late) more
        | inr early ↦ rw (out, early) refl
      ]
    ]

none-if : (s : Setting) (v w : ℕ) (P : Past) (b : Bool) → count (is_sort_drop v) (cond b (look s w P) []) ≡ 0
none-if s v w P true = none-goes_out s v w _ _ _
none-if s v w P false = refl

none-looked : (s : Setting) (v : ℕ) (P : Past) (us : List ℕ) → count (is_sort_drop v) (flat_map (λ u. cond (is_sorted s u) (look s u P) []) us) ≡ 0
none-looked s v P [] = refl
none-looked s v P (u ∷ us) =
    omega (
      arith,
      count-append (is_sort_drop v) (cond (is_sorted s u) (look s u P) []) (flat_map (λ w. cond (is_sorted s w) (look s w P) []) us),
      none-if s v u P (is_sorted s u),
      none-looked s v P us,
    )

none-ring : (v : ℕ) (b : Bool) (xs : List FrameName) → count (is_sort_drop v) (cond b (map (emit v Ring) xs) []) ≡ 0
none-ring v true xs = none-emitted v v Ring xs
none-ring v false xs = refl

none-now : (v : ℕ) (b : Bool) (a : FrameName) → count (is_sort_drop v) (cond b (emit v Now a ∷ []) []) ≡ 0
none-now v true a = refl
none-now v false a = refl

none-result : (s : Setting) (v : ℕ) (a : FrameName) (f : Bool) (P : Past) (w : Work) → is_sorted s v ≡ false → count (is_sort_drop v) (result s v a f P w) ≡ 0
none-result s v a f P (Watches pre post preset) plain =
    let flags : List Bool = firings v P in
    let b : Bool = is_trigger post preset (flags ++ f ∷ []) (length flags) in
    let d : Bool = is_passed pre post preset (flags ++ f ∷ []) (length flags) in
    omega (
      arith,
      count-append (is_sort_drop v) (cond b (map (emit v Ring) (ring s v P)) []) (cond d (emit v Now a ∷ []) []),
      none-ring v b (ring s v P),
      none-now v d a,
    )
none-result s v a f P (Saves whole n) plain = refl
none-result s v a f P Makes plain = rw plain refl
none-result s v a f P (Passes d) plain = rw plain refl

none-owed : (s : Setting) (P : Past) (v : ℕ) → is_sorted s v ≡ false → count (is_sort_drop v) (owed s P) ≡ 0
none-owed s [] v plain = refl
none-owed s (Put r w m i f ∷ P) v plain =
    let calls : count (is_sort_drop v) (calls_for s P (Put r w m i f)) ≡ 0 =
    elim (cases_Bool (eqb w v)) [
      | inl here ↦
          let is : w ≡ v = eqb-true w v here in
          subst (λ (u : ℕ). count (is_sort_drop v) (calls_for s P (Put r u m i f)) ≡ 0) (sym is) (none-result s v (frame m i) f P (node s v).work plain)
      | inr away ↦ none-elsewhere v w (calls_for s P (Put r w m i f)) (eqb-false w v away) (result-at s w (frame m i) f P (node s w).work)
    ] in
    omega (
      arith,
      none-owed s P v plain,
      count-append (is_sort_drop v) (calls_for s P (Put r w m i f)) (drop 1 (owed s P)),
      calls,
      count-drop (is_sort_drop v) (owed s P),
    )
none-owed s (Tick t ∷ P) v plain =
    omega (
      arith,
      none-owed s P v plain,
      count-append (is_sort_drop v) (calls_for s P (Tick t)) (drop 1 (owed s P)),
      none-looked s v (Tick t ∷ P) (node_numbers s),
      count-drop (is_sort_drop v) (owed s P),
    )
none-owed s (Emit w m i why ∷ P) v plain =
    omega (
      arith,
      none-owed s P v plain,
      count-append (is_sort_drop v) (map (offer (frame m i)) (offered_to s P w)) (drop 1 (owed s P)),
      none-offered v (frame m i) (offered_to s P w),
      count-drop (is_sort_drop v) (owed s P),
    )
none-owed s (Settle r w ∷ P) v plain =
    omega (
      arith,
      none-owed s P v plain,
      count-append (is_sort_drop v) (calls_for s P (Settle r w)) (drop 1 (owed s P)),
      none-flushed v w (least_first s (waiting s w P)),
      count-drop (is_sort_drop v) (owed s P),
    )
none-owed s (_ ∷ P) v plain = omega (arith, none-owed s P v plain, count-drop (is_sort_drop v) (owed s P))

-- a node without a sort list drops no result
pub no_sort_drops : (s : Setting) (P : Past) (v : ℕ) → is_sorted s v ≡ false → is_legal s P ≡ true → count (is_sort_drop v) P ≡ 0
no_sort_drops s [] v plain h = refl
no_sort_drops s (SortDrop w m i ∷ P) v plain h =
    let a = owed-answered s (SortDrop w m i) P refl h in
    let same = answers-by_SortDrop s P w m i a.head a.answer in
    let was : count (is_sort_drop v) (owed s P) ≡ bit (eqb w v) + count (is_sort_drop v) a.rest =
    ap (count (is_sort_drop v)) a.is
    ∙ (count-cons (is_sort_drop v) a.head a.rest ∙ ap (λ (d : Entry). bit (is_sort_drop v d) + count (is_sort_drop v) a.rest) same) in
    omega (arith, was, none-owed s P v plain, no_sort_drops s P v plain (and_parts _ _ h).0, count-cons (is_sort_drop v) (SortDrop w m i) P)
no_sort_drops s (_ ∷ P) v plain h = no_sort_drops s P v plain (and_parts _ _ h).0
