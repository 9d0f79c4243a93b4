-- LAWS: what each entry does to each standing fact. Where a law names first, the entry is a legal first entry.
use Rattle.std.specs.Prelude.{◌≡◌, ◌≢◌, ℕ, ◌+◌, nat_eq, Bool, true, false, [], ◌∷◌, ◌++◌, length, filter, Some, None, if◌then◌else◌}
use Rattle.trig_window.specs.Windows.{kept}
use Rattle.flow_journal.specs.declared.entry.Entry.{Entry}
use Rattle.flow_journal.specs.declared.entry.Entry.TheVariants.{Load, LoadRefused, Tick, Issue, Emit, Accept, Full, Take, TakeBlock, PoolDrop, Put}
use Rattle.flow_journal.specs.declared.entry.Entry.TheVariants.{SortDrop, Settle, Save, Saved, Close, Reclaim, Leave}
use Rattle.flow_journal.specs.declared.entry.Why.{Why}
use Rattle.flow_journal.specs.Setting.{Setting, Watches, node, id_at, is_sorted}
use Rattle.flow_journal.specs.Pasts.{Past, frame}
use Rattle.flow_journal.specs.Hands.{hands, hand, takes_up, is_loaded, is_job, is_piece, is_free}
use Rattle.flow_journal.specs.Ended.{now, closes, is_closed, settles, is_settled, leaves, leaves_as, has_left_any, has_left, reclaims, was_reclaimed}
use Rattle.flow_journal.specs.Offered.{offered, offered_frames}
use Rattle.flow_journal.specs.Queued.{queued}
use Rattle.flow_journal.specs.Puts.{puts, firings}
use Rattle.flow_journal.specs.Waiting.{waiting, not_waiting}
use Rattle.flow_journal.specs.Rings.{ring}
use Rattle.flow_journal.specs.Unsaved.{standing_saves, unsaved, is_file}
use Rattle.queue_sort.specs.Sorting.{keeps_step}
use Rattle.flow_journal.specs.Breaks.{outs, prev, breaks}
use Rattle.flow_journal.specs.FirstEntries.{first}
use Rattle.flow_journal.specs.Histories.{is_legal}
use Rattle.flow_journal.specs.EntryTests.{is_tick}

abbrev pub moves_queues : Entry → Bool
moves_queues (Accept w m k) = true
moves_queues (Take r w m k) = true
moves_queues (TakeBlock f x r w m k b n g) = true
moves_queues (PoolDrop r w m k n h) = true
moves_queues (Reclaim r) = true
moves_queues _ = false

-- an Accept puts its array at the end, a take and a drop take away the next one, and a job's array that is reclaimed is the next one
pub record QueueLaws : Type 0 where
  pub accept : (v m k : ℕ) (P : Past) → queued v (Accept v m k ∷ P) ≡ queued v P ++ frame m k ∷ []
  pub accept_elsewhere : (v w m k : ℕ) (P : Past) → w ≢ v → queued v (Accept w m k ∷ P) ≡ queued v P
  pub take : (s : Setting) (r v m k : ℕ) (P : Past) → first s P (Take r v m k) ≡ true → queued v P ≡ frame m k ∷ queued v (Take r v m k ∷ P)
  pub take_block : (s : Setting) (r v m k b n : ℕ) (f : Bool) (g : ℕ) (x : Bool) (P : Past) → first s P (TakeBlock f x r v m k b n g) ≡ true
      → queued v P ≡ frame m k ∷ queued v (TakeBlock f x r v m k b n g ∷ P)
  pub pool_drop : (s : Setting) (r v m k n h : ℕ) (P : Past) → first s P (PoolDrop r v m k n h) ≡ true
      → queued v P ≡ frame m k ∷ queued v (PoolDrop r v m k n h ∷ P)
  pub take_elsewhere : (r v w m k : ℕ) (P : Past) → w ≢ v → queued v (Take r w m k ∷ P) ≡ queued v P
  pub take_block_elsewhere : (r v w m k b n : ℕ) (f : Bool) (g : ℕ) (x : Bool) (P : Past) → w ≢ v → queued v (TakeBlock f x r w m k b n g ∷ P) ≡ queued v P
  pub pool_drop_elsewhere : (r v w m k n h : ℕ) (P : Past) → w ≢ v → queued v (PoolDrop r w m k n h ∷ P) ≡ queued v P
  pub reclaim : (v r q m k : ℕ) (P : Past) → hand r P ≡ Some (Take q v m k) → queued v (Reclaim r ∷ P) ≡ frame m k ∷ queued v P
  pub reclaim_other : (v r : ℕ) (e : Entry) (P : Past) → hand r P ≡ Some e → is_job v e ≡ false → queued v (Reclaim r ∷ P) ≡ queued v P
  pub reclaim_block : (v r q m k b n : ℕ) (f : Bool) (g : ℕ) (x : Bool) (P : Past) → hand r P ≡ Some (TakeBlock f x q v m k b n g)
      → queued v (Reclaim r ∷ P) ≡ frame m k ∷ queued v P
  pub others : (v : ℕ) (e : Entry) (P : Past) → moves_queues e ≡ false → queued v (e ∷ P) ≡ queued v P

abbrev pub lets_go : ℕ → Entry → Bool
lets_go r (Issue q k) = nat_eq q r
lets_go r (Put q v m k f) = nat_eq q r
lets_go r (Saved q v m k) = nat_eq q r
lets_go r (Reclaim q) = nat_eq q r
lets_go r _ = false

-- a Load, Take, TakeBlock and Save is the hand of its role; an Issue, Put, Saved and Reclaim ends the role's; no other hand changes
pub record HandLaws : Type 0 where
  pub up : (r : ℕ) (e : Entry) (P : Past) → takes_up r e ≡ true → hand r (e ∷ P) ≡ Some e
  pub down : (s : Setting) (r : ℕ) (e : Entry) (P : Past) → is_legal s (e ∷ P) ≡ true → lets_go r e ≡ true → hand r (e ∷ P) ≡ None
  pub others : (r : ℕ) (e : Entry) (P : Past) → takes_up r e ≡ false → lets_go r e ≡ false → hand r (e ∷ P) ≡ hand r P

abbrev pub offers : Entry → Bool
offers (Accept w m k) = true
offers (Full w m k) = true
offers _ = false

abbrev pub offers_frames : Entry → Bool
offers_frames (Load r k b n f g x) = true
offers_frames (LoadRefused r k n h) = true
offers_frames (Reclaim r) = true
offers_frames _ = false

-- a Load and a LoadRefused offer a frame, and an Accept and a Full an array; a loaded frame that is reclaimed isn't offered any more
pub record OfferLaws : Type 0 where
  pub load : (r k b n : ℕ) (f : Bool) (g : ℕ) (x : Bool) (P : Past) → offered_frames (Load r k b n f g x ∷ P) ≡ k ∷ offered_frames P
  pub load_refused : (r k n h : ℕ) (P : Past) → offered_frames (LoadRefused r k n h ∷ P) ≡ k ∷ offered_frames P
  pub accept : (v m k : ℕ) (P : Past) → offered v (Accept v m k ∷ P) ≡ offered v P ++ frame m k ∷ []
  pub full : (v m k : ℕ) (P : Past) → offered v (Full v m k ∷ P) ≡ offered v P ++ frame m k ∷ []
  pub accept_elsewhere : (v w m k : ℕ) (P : Past) → w ≢ v → offered v (Accept w m k ∷ P) ≡ offered v P
  pub full_elsewhere : (v w m k : ℕ) (P : Past) → w ≢ v → offered v (Full w m k ∷ P) ≡ offered v P
  pub others : (v : ℕ) (e : Entry) (P : Past) → offers e ≡ false → offered v (e ∷ P) ≡ offered v P
  pub reclaim : (s : Setting) (r q k b n : ℕ) (f : Bool) (g : ℕ) (x : Bool) (P : Past) → is_legal s P ≡ true → hand r P ≡ Some (Load q k b n f g x)
      → offered_frames P ≡ k ∷ offered_frames (Reclaim r ∷ P)
  pub reclaim_other : (s : Setting) (r : ℕ) (e : Entry) (P : Past) → is_legal s P ≡ true → hand r P ≡ Some e → is_loaded e ≡ false
      → offered_frames (Reclaim r ∷ P) ≡ offered_frames P
  pub frames_others : (e : Entry) (P : Past) → offers_frames e ≡ false → offered_frames (e ∷ P) ≡ offered_frames P

abbrev pub is_put : Entry → Bool
is_put (Put r w m k f) = true
is_put _ = false

abbrev pub moves_lists : Entry → Bool
moves_lists (Put r w m k f) = true
moves_lists (Emit w m k why) = true
moves_lists (SortDrop w m k) = true
moves_lists _ = false

-- a Put comes at the end of the node's puts, with its flag, and at a sorted node it waits with the tick that is kept, until its emission
-- or its SortDrop takes it away
pub record PutLaws : Type 0 where
  pub array : (r v m k : ℕ) (f : Bool) (P : Past) → puts v (Put r v m k f ∷ P) ≡ puts v P ++ frame m k ∷ []
  pub flag : (r v m k : ℕ) (f : Bool) (P : Past) → firings v (Put r v m k f ∷ P) ≡ firings v P ++ f ∷ []
  pub array_elsewhere : (r v w m k : ℕ) (f : Bool) (P : Past) → w ≢ v → puts v (Put r w m k f ∷ P) ≡ puts v P
  pub flag_elsewhere : (r v w m k : ℕ) (f : Bool) (P : Past) → w ≢ v → firings v (Put r w m k f ∷ P) ≡ firings v P
  pub flag_others : (v : ℕ) (e : Entry) (P : Past) → is_put e ≡ false → firings v (e ∷ P) ≡ firings v P
  pub waits : (s : Setting) (r v m k : ℕ) (f : Bool) (P : Past) → is_sorted s v ≡ true
      → waiting s v (Put r v m k f ∷ P) ≡ waiting s v P ++ record { array = frame m k; tick = now P } ∷ []
  pub waits_elsewhere : (s : Setting) (r v w m k : ℕ) (f : Bool) (P : Past) → is_sorted s v ≡ true → w ≢ v → waiting s v (Put r w m k f ∷ P) ≡ waiting s v P
  pub unsorted : (s : Setting) (v : ℕ) (P : Past) → is_sorted s v ≡ false → waiting s v P ≡ []
  pub goes : (s : Setting) (v m k : ℕ) (why : Why) (P : Past) → waiting s v (Emit v m k why ∷ P) ≡ not_waiting (frame m k) (waiting s v P)
  pub goes_elsewhere : (s : Setting) (v w m k : ℕ) (why : Why) (P : Past) → w ≢ v → waiting s v (Emit w m k why ∷ P) ≡ waiting s v P
  pub dropped : (s : Setting) (v m k : ℕ) (P : Past) → waiting s v (SortDrop v m k ∷ P) ≡ not_waiting (frame m k) (waiting s v P)
  pub dropped_elsewhere : (s : Setting) (v w m k : ℕ) (P : Past) → w ≢ v → waiting s v (SortDrop w m k ∷ P) ≡ waiting s v P
  pub others : (v : ℕ) (e : Entry) (P : Past) → is_put e ≡ false → puts v (e ∷ P) ≡ puts v P
  pub lists : (s : Setting) (v : ℕ) (e : Entry) (P : Past) → moves_lists e ≡ false → waiting s v (e ∷ P) ≡ waiting s v P

abbrev pub moves_rings : Entry → Bool
moves_rings (Put r w m k f) = true
moves_rings (Settle r w) = true
moves_rings _ = false

-- the ring is what is kept of the puts so far, until a Settle empties it; and each put has its flag
pub record RingLaws : Type 0 where
  pub flags : (v : ℕ) (P : Past) → length (firings v P) ≡ length (puts v P)
  pub kept_is : (s : Setting) (v : ℕ) (P : Past) (pre post preset : ℕ) → (node s v).work ≡ Watches pre post preset → is_settled v P ≡ false
      → ring s v P ≡ kept pre post preset (firings v P) (puts v P)
  pub put : (s : Setting) (r v m k : ℕ) (f : Bool) (P : Past) (pre post preset : ℕ) → (node s v).work ≡ Watches pre post preset → is_legal s P ≡ true
      → first s P (Put r v m k f) ≡ true → ring s v (Put r v m k f ∷ P) ≡ kept pre post preset (firings v P ++ f ∷ []) (puts v P ++ frame m k ∷ [])
  pub put_elsewhere : (s : Setting) (r v w m k : ℕ) (f : Bool) (P : Past) → w ≢ v → ring s v (Put r w m k f ∷ P) ≡ ring s v P
  pub settle : (s : Setting) (r v : ℕ) (P : Past) → ring s v (Settle r v ∷ P) ≡ []
  pub settle_elsewhere : (s : Setting) (r v w : ℕ) (P : Past) → w ≢ v → ring s v (Settle r w ∷ P) ≡ ring s v P
  pub others : (s : Setting) (v : ℕ) (e : Entry) (P : Past) → moves_rings e ≡ false → ring s v (e ∷ P) ≡ ring s v P

abbrev pub moves_saves : Entry → Bool
moves_saves (Put r w m k f) = true
moves_saves (Save r w m k g) = true
moves_saves (Reclaim r) = true
moves_saves _ = false

abbrev pub changes_saves : Entry → Bool
changes_saves (Save r w m k g) = true
changes_saves (Reclaim r) = true
changes_saves _ = false

-- A file node's standing saves and then its unsaved arrays are its puts: a Put comes at the end, a Save takes the first unsaved one, and
-- a piece that is reclaimed is the first one again.
pub record SaveLaws : Type 0 where
  pub front : (s : Setting) (v : ℕ) (P : Past) → is_legal s P ≡ true → is_file (node s v).work ≡ true → puts v P ≡ standing_saves v P ++ unsaved s v P
  pub put : (s : Setting) (r v m k : ℕ) (f : Bool) (P : Past) → is_legal s P ≡ true → is_file (node s v).work ≡ true
      → unsaved s v (Put r v m k f ∷ P) ≡ unsaved s v P ++ frame m k ∷ []
  pub put_elsewhere : (s : Setting) (r v w m k : ℕ) (f : Bool) (P : Past) → w ≢ v → unsaved s v (Put r w m k f ∷ P) ≡ unsaved s v P
  pub save : (s : Setting) (r v m k g : ℕ) (P : Past) → is_legal s P ≡ true → first s P (Save r v m k g) ≡ true
      → unsaved s v P ≡ frame m k ∷ unsaved s v (Save r v m k g ∷ P)
  pub save_elsewhere : (s : Setting) (r v w m k g : ℕ) (P : Past) → w ≢ v → unsaved s v (Save r w m k g ∷ P) ≡ unsaved s v P
  pub reclaim : (s : Setting) (r v q m k g : ℕ) (P : Past) → is_legal s P ≡ true → hand r P ≡ Some (Save q v m k g)
      → unsaved s v (Reclaim r ∷ P) ≡ frame m k ∷ unsaved s v P
  pub reclaim_other : (s : Setting) (r v : ℕ) (e : Entry) (P : Past) → is_legal s P ≡ true → hand r P ≡ Some e → is_piece v e ≡ false
      → unsaved s v (Reclaim r ∷ P) ≡ unsaved s v P
  pub others : (s : Setting) (v : ℕ) (e : Entry) (P : Past) → moves_saves e ≡ false → unsaved s v (e ∷ P) ≡ unsaved s v P
  pub saved : (r v m k g : ℕ) (P : Past) → standing_saves v (Save r v m k g ∷ P) ≡ standing_saves v P ++ frame m k ∷ []
  pub saved_elsewhere : (r v w m k g : ℕ) (P : Past) → w ≢ v → standing_saves v (Save r w m k g ∷ P) ≡ standing_saves v P
  pub saved_others : (v : ℕ) (e : Entry) (P : Past) → changes_saves e ≡ false → standing_saves v (e ∷ P) ≡ standing_saves v P

abbrev pub moves_hands : Entry → Bool
moves_hands (Load r k b n f g x) = true
moves_hands (Take r v m k) = true
moves_hands (TakeBlock f x r v m k b n g) = true
moves_hands (Save r v m k g) = true
moves_hands (Issue r k) = true
moves_hands (Put r v m k f) = true
moves_hands (Saved r v m k) = true
moves_hands (Reclaim r) = true
moves_hands _ = false

-- A test of hands counts one more where a hand that passes it is taken up, and one less where its role lets it go. So are jobs counted,
-- pieces and loaded blocks.
pub record JobLaws : Type 0 where
  pub up : (p : Entry → Bool) (r : ℕ) (e : Entry) (P : Past) → takes_up r e ≡ true → is_free r P ≡ true → p e ≡ true
      → length (filter p (hands (e ∷ P))) ≡ length (filter p (hands P)) + 1
  pub up_other : (p : Entry → Bool) (r : ℕ) (e : Entry) (P : Past) → takes_up r e ≡ true → is_free r P ≡ true → p e ≡ false
      → length (filter p (hands (e ∷ P))) ≡ length (filter p (hands P))
  pub down : (p : Entry → Bool) (r : ℕ) (e d : Entry) (P : Past) → lets_go r d ≡ true → hand r P ≡ Some e → p e ≡ true
      → length (filter p (hands P)) ≡ length (filter p (hands (d ∷ P))) + 1
  pub down_other : (p : Entry → Bool) (r : ℕ) (e d : Entry) (P : Past) → lets_go r d ≡ true → hand r P ≡ Some e → p e ≡ false
      → length (filter p (hands (d ∷ P))) ≡ length (filter p (hands P))
  pub others : (e : Entry) (P : Past) → moves_hands e ≡ false → hands (e ∷ P) ≡ hands P

abbrev pub lets_out : Entry → Bool
lets_out (Emit v m k why) = true
lets_out (Save r v m k g) = true
lets_out (Reclaim r) = true
lets_out _ = false

-- An emission and a save set the previous id of their node, a Tick sets now, and a Close and a Settle end. A piece that is reclaimed
-- isn't out any more.
pub record ClockLaws : Type 0 where
  pub emit : (s : Setting) (v m k : ℕ) (why : Why) (P : Past) → is_file (node s v).work ≡ false → prev s v (Emit v m k why ∷ P) ≡ id_at s k
  pub save : (s : Setting) (r v m k g : ℕ) (P : Past) → is_file (node s v).work ≡ true → prev s v (Save r v m k g ∷ P) ≡ id_at s k
  pub emit_elsewhere : (s : Setting) (v w m k : ℕ) (why : Why) (P : Past) → w ≢ v → prev s v (Emit w m k why ∷ P) ≡ prev s v P
  pub save_elsewhere : (s : Setting) (r v w m k g : ℕ) (P : Past) → w ≢ v → prev s v (Save r w m k g ∷ P) ≡ prev s v P
  pub reclaim : (s : Setting) (r q v m k g : ℕ) (P : Past) → is_legal s P ≡ true → hand r P ≡ Some (Save q v m k g) → outs s v P ≡ k ∷ outs s v (Reclaim r ∷ P)
  pub reclaim_other : (s : Setting) (r v : ℕ) (e : Entry) (P : Past) → is_legal s P ≡ true → hand r P ≡ Some e → is_piece v e ≡ false
      → prev s v (Reclaim r ∷ P) ≡ prev s v P
  pub prev_others : (s : Setting) (v : ℕ) (e : Entry) (P : Past) → lets_out e ≡ false → prev s v (e ∷ P) ≡ prev s v P
  pub tick : (t : ℕ) (P : Past) → now (Tick t ∷ P) ≡ t
  pub now_others : (e : Entry) (P : Past) → is_tick e ≡ false → now (e ∷ P) ≡ now P
  pub close : (r : ℕ) (P : Past) → is_closed (Close r ∷ P) ≡ true
  pub settle : (r v : ℕ) (P : Past) → is_settled v (Settle r v ∷ P) ≡ true
  pub closed_others : (e : Entry) (P : Past) → closes e ≡ false → is_closed (e ∷ P) ≡ is_closed P
  pub settled_others : (v : ℕ) (e : Entry) (P : Past) → settles v e ≡ false → is_settled v (e ∷ P) ≡ is_settled v P

-- An emission and a save count as a break where the id keeps no step with the previous one. A piece that is reclaimed counts no more.
pub record BreakLaws : Type 0 where
  pub none : (s : Setting) (v : ℕ) → breaks s v [] ≡ 0
  pub emit : (s : Setting) (v m k : ℕ) (why : Why) (P : Past) → is_file (node s v).work ≡ false
      → breaks s v (Emit v m k why ∷ P) ≡ breaks s v P + (if keeps_step (prev s v P) (id_at s k) then 0 else 1)
  pub save : (s : Setting) (r v m k g : ℕ) (P : Past) → is_file (node s v).work ≡ true
      → breaks s v (Save r v m k g ∷ P) ≡ breaks s v P + (if keeps_step (prev s v P) (id_at s k) then 0 else 1)
  pub emit_elsewhere : (s : Setting) (v w m k : ℕ) (why : Why) (P : Past) → w ≢ v → breaks s v (Emit w m k why ∷ P) ≡ breaks s v P
  pub save_elsewhere : (s : Setting) (r v w m k g : ℕ) (P : Past) → w ≢ v → breaks s v (Save r w m k g ∷ P) ≡ breaks s v P
  pub reclaim : (s : Setting) (r q v m k g : ℕ) (P : Past) → is_legal s P ≡ true → hand r P ≡ Some (Save q v m k g)
      → breaks s v P ≡ breaks s v (Reclaim r ∷ P) + (if keeps_step (prev s v (Reclaim r ∷ P)) (id_at s k) then 0 else 1)
  pub reclaim_other : (s : Setting) (r v : ℕ) (e : Entry) (P : Past) → is_legal s P ≡ true → hand r P ≡ Some e → is_piece v e ≡ false
      → breaks s v (Reclaim r ∷ P) ≡ breaks s v P
  pub others : (s : Setting) (v : ℕ) (e : Entry) (P : Past) → lets_out e ≡ false → breaks s v (e ∷ P) ≡ breaks s v P

-- A Leave and a Reclaim are remembered of their role.
pub record RoleLaws : Type 0 where
  pub leave : (r : ℕ) (P : Past) → has_left r (Leave r ∷ P) ≡ true
  pub leave_any : (r : ℕ) (P : Past) → has_left_any (Leave r ∷ P) ≡ true
  pub left_others : (r : ℕ) (e : Entry) (P : Past) → leaves_as r e ≡ false → has_left r (e ∷ P) ≡ has_left r P
  pub left_any_others : (e : Entry) (P : Past) → leaves e ≡ false → has_left_any (e ∷ P) ≡ has_left_any P
  pub reclaim : (r : ℕ) (P : Past) → was_reclaimed r (Reclaim r ∷ P) ≡ true
  pub reclaimed_others : (r : ℕ) (e : Entry) (P : Past) → reclaims r e ≡ false → was_reclaimed r (e ∷ P) ≡ was_reclaimed r P
