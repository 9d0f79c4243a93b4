-- LAWS: an entry begins a move exactly where the facts of its row hold.
use Rattle.std.specs.Prelude.{◌≡◌, ℕ, ◌<◌, ◌≤◌, ◌↔◌, Bool, true, false, length, filter}
use Rattle.std.specs.List.{list_any}
use Rattle.nd_base.specs.declared.frame.FrameName.{FrameName}
use Rattle.flow_journal.specs.declared.entry.Entry.{Entry}
use Rattle.flow_journal.specs.declared.entry.Entry.TheVariants.{Load, LoadRefused, Tick, Issue, Emit, Accept, Full, Take, TakeBlock, PoolDrop, Put}
use Rattle.flow_journal.specs.declared.entry.Entry.TheVariants.{SortDrop, Settle, Save, Saved, Close, Leave, Reclaim}
use Rattle.flow_journal.specs.Setting.{Setting, node, last_role, is_maker}
use Rattle.flow_journal.specs.Pasts.{Past, frame}
use Rattle.flow_journal.specs.Hands.{hands, is_loaded, is_piece}
use Rattle.flow_journal.specs.Ended.{has_left}
use Rattle.flow_journal.specs.Queued.{queued, has_room}
use Rattle.flow_journal.specs.FirstEntries.{first, acts, has_loaded, may_load, may_take, may_settle, may_save, may_close, pool_grants, pool_refuses, fires_at}
use Rattle.flow_journal.specs.RowFacts.{Acts, LoadFacts, GrantFacts, AreZeros, RefusalFacts, TakeFacts, HasLoaded, HasResult, HasPiece, SettleFacts}
use Rattle.flow_journal.specs.RowFacts.{PieceFacts, SaveFacts, CloseFacts, ReclaimFacts}

-- the entry stands in the table
abbrev pub begins : Entry → Bool
begins (Tick t) = false
begins (Emit v m k why) = false
begins (Accept v m k) = false
begins (Full v m k) = false
begins (SortDrop v m k) = false
begins _ = true

-- the tests that the table is made of
pub record TestLaws : Type 0 where
  pub acts : (s : Setting) (r : ℕ) (P : Past) → (acts s r P ≡ true) ↔ Acts s r P
  pub load : (s : Setting) (r k : ℕ) (P : Past) → (may_load s r k P ≡ true) ↔ LoadFacts s r k P
  pub take : (s : Setting) (r v : ℕ) (a : FrameName) (P : Past) → (may_take s r v a P ≡ true) ↔ TakeFacts s r v a P
  pub settle : (s : Setting) (v : ℕ) (P : Past) → (may_settle s v P ≡ true) ↔ SettleFacts s v P
  pub save : (s : Setting) (v : ℕ) (a : FrameName) (P : Past) → (may_save s v a P ≡ true) ↔ PieceFacts s v a P
  pub close : (s : Setting) (P : Past) → (may_close s P ≡ true) ↔ CloseFacts s P
  pub grants : (s : Setting) (m b n : ℕ) (f : Bool) (g : ℕ) (x : Bool) (P : Past) → (pool_grants s m b n f g x P ≡ true) ↔ GrantFacts s m b n f g x P
  pub unpooled : (s : Setting) (m b n : ℕ) (f : Bool) (g : ℕ) (x : Bool) (P : Past) → s.pooled ≡ false → GrantFacts s m b n f g x P ↔ AreZeros b n f g x
  pub refuses : (s : Setting) (m n h : ℕ) (P : Past) → (pool_refuses s m n h P ≡ true) ↔ RefusalFacts s m n h P
  pub room : (s : Setting) (P : Past) (v : ℕ) → (has_room s P v ≡ true) ↔ (length (queued v P) < (node s v).queue)
  pub loaded : (P : Past) → (has_loaded P ≡ false) ↔ (length (filter is_loaded (hands P)) ≡ 0)
  pub pieces : (v : ℕ) (P : Past) → (list_any (is_piece v) (hands P) ≡ false) ↔ (length (filter (is_piece v) (hands P)) ≡ 0)

-- the rows
pub record RowLaws : Type 0 where
  pub load : (s : Setting) (P : Past) (r k b n : ℕ) (f : Bool) (g : ℕ) (x : Bool)
      → (first s P (Load r k b n f g x) ≡ true) ↔ (LoadFacts s r k P × GrantFacts s 0 b n f g x P)
  pub load_refused : (s : Setting) (P : Past) (r k n h : ℕ) → (first s P (LoadRefused r k n h) ≡ true) ↔ (LoadFacts s r k P × RefusalFacts s 0 n h P)
  pub issue : (s : Setting) (P : Past) (r k : ℕ) → (first s P (Issue r k) ≡ true) ↔ HasLoaded r k P
  pub take : (s : Setting) (P : Past) (r v m k : ℕ) → (first s P (Take r v m k) ≡ true) ↔ (TakeFacts s r v (frame m k) P × (is_maker s v ≡ false))
  pub take_block : (s : Setting) (P : Past) (r v m k b n : ℕ) (f : Bool) (g : ℕ) (x : Bool)
      → (first s P (TakeBlock f x r v m k b n g) ≡ true) ↔ (TakeFacts s r v (frame m k) P × (is_maker s v ≡ true) × GrantFacts s v b n f g x P)
  pub pool_drop : (s : Setting) (P : Past) (r v m k n h : ℕ)
      → (first s P (PoolDrop r v m k n h) ≡ true) ↔ (TakeFacts s r v (frame m k) P × (is_maker s v ≡ true) × RefusalFacts s v n h P)
  pub put : (s : Setting) (P : Past) (r v m k : ℕ) (f : Bool)
      → (first s P (Put r v m k f) ≡ true) ↔ (HasResult r v m k P × (f ≡ fires_at s v k (node s v).work))
  pub settle : (s : Setting) (P : Past) (r v : ℕ) → (first s P (Settle r v) ≡ true) ↔ ((r ≤ last_role s) × SettleFacts s v P)
  pub save : (s : Setting) (P : Past) (r v m k g : ℕ) → (first s P (Save r v m k g) ≡ true) ↔ SaveFacts s r v (frame m k) g P
  pub saved : (s : Setting) (P : Past) (r v m k : ℕ) → (first s P (Saved r v m k) ≡ true) ↔ HasPiece r v m k P
  pub close : (s : Setting) (P : Past) (r : ℕ) → (first s P (Close r) ≡ true) ↔ ((r ≤ last_role s) × CloseFacts s P)
  pub leave : (s : Setting) (P : Past) (r : ℕ) → (first s P (Leave r) ≡ true) ↔ ((r ≤ last_role s) × (has_left r P ≡ false))
  pub reclaim : (s : Setting) (P : Past) (r : ℕ) → (first s P (Reclaim r) ≡ true) ↔ ReclaimFacts s r P
  pub no_others : (s : Setting) (P : Past) (e : Entry) → begins e ≡ false → first s P e ≡ false
