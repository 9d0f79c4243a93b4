-- What one entry more adds to the tallies of a log that is read from its end.
use Rattle.std.specs.Prelude.{◌≡◌, ℕ, ◌+◌, ◌-◌, ◌<◌, ◌^◌, ◌==◌, Bool, false, ◌&&◌, not, List, ◌∷◌, length, map, ℤ, pos, Option, Some, None, slice_index_or}
use Rattle.std.specs.Prelude.{if◌then◌else◌}
use Rattle.nd_base.specs.declared.graph.NodeRule.{NodeRule}
use Rattle.flow_journal.specs.declared.entry.Entry.{Entry}
use Rattle.flow_journal.specs.declared.entry.Entry.TheVariants.{Load, LoadRefused, Emit, Accept, Full, TakeBlock, PoolDrop, SortDrop, Save}
use Rattle.flow_journal.specs.RunSetting.{work_of}
use Rattle.flow_journal.specs.Unsaved.{is_file}
use Rattle.queue_sort.specs.Sorting.{keeps_step}
use Rattle.run_report.specs.declared.counts.NodeCount.{NodeCount}
use Rattle.run_report.specs.declared.counting.Tally.{Tally}
use Rattle.run_report.specs.declared.feed.FeedTally.{FeedTally}
use Rattle.run_report.specs.declared.tally.NodeTally.{NodeTally}
use Rattle.run_report.specs.Backwards.{has_role, is_taken_back, before}

-- no count is near its type's end
pub record HasRoomForCounts (t : NodeTally) : Type 0 where
  pub offered : t.offered < 2 ^ 60
  pub full : t.full < 2 ^ 60
  pub pool : t.pool < 2 ^ 60
  pub sort : t.sort < 2 ^ 60
  pub out : t.out < 2 ^ 60
  pub breaks : t.breaks < 2 ^ 60

pub record HasRoomForLoads (t : FeedTally) : Type 0 where
  pub loaded : t.loaded < 2 ^ 60
  pub refused : t.refused < 2 ^ 60
  pub regrown : t.regrown < 2 ^ 60

-- nothing is counted yet
abbrev pub fresh : Bool → NodeTally
fresh saves = record { saves = saves; offered = 0; full = 0; pool = 0; sort = 0; out = 0; breaks = 0; next = None }

-- of the driver and of each of these nodes
abbrev pub fresh_nodes : List NodeRule → List NodeTally
fresh_nodes ns = fresh false ∷ map (λ n. fresh (is_file (work_of n.kind))) ns

-- the id of the frame of this index
abbrev pub index_id : List ℤ → ℕ → ℤ
index_id ids k = slice_index_or ids k (pos 0)

-- 1 where there is an id that keeps no step with the one before it
abbrev pub break_after : Option ℤ → ℤ → ℕ
break_after None last = 0
break_after (Some id) last = if keeps_step last id then 0 else 1

-- one more went out, before those that did
abbrev pub with_out : ℤ → NodeTally → NodeTally
with_out id t = record t { out = t.out + 1; breaks = t.breaks + break_after t.next id; next = Some id }

-- one more entry at the node, which stands or not
abbrev pub more : List ℤ → (stands : Bool) → Entry → NodeTally → NodeTally
more ids b (Accept w m k) t = record t { offered = t.offered + 1 }
more ids b (Full w m k) t = record t { offered = t.offered + 1; full = t.full + 1 }
more ids b (PoolDrop r w m k n h) t = record t { pool = t.pool + 1 }
more ids b (SortDrop w m k) t = record t { sort = t.sort + 1 }
more ids b (Emit w m k why) t = if not t.saves then with_out (index_id ids k) t else t
more ids b (Save r w m k g) t = if t.saves && b then with_out (index_id ids k) t else t
more ids b _ t = t

-- where this id is before the first
abbrev pub finished : ℤ → NodeTally → NodeCount
finished last t =
    record {
      offered = t.offered;
      accepted = t.offered - (t.full + t.pool + t.sort);
      full = t.full;
      pool = t.pool;
      sort = t.sort;
      out = t.out;
      breaks = t.breaks + break_after t.next last;
    }

-- the node at which the entry is counted
abbrev pub node_at : Entry → Option ℕ
node_at (Emit w m k why) = Some w
node_at (Accept w m k) = Some w
node_at (Full w m k) = Some w
node_at (PoolDrop r w m k n h) = Some w
node_at (SortDrop w m k) = Some w
node_at (Save r w m k g) = Some w
node_at _ = None

-- it is this node
abbrev pub is_node_at : ℕ → Option ℕ → Bool
is_node_at v None = false
is_node_at v (Some w) = w == v

abbrev pub one_if : Bool → ℕ
one_if b = if b then 1 else 0

abbrev pub more_loads : (stands : Bool) → Entry → FeedTally → FeedTally
more_loads b (Load r k c n f g x) t = record t { loaded = t.loaded + one_if b; regrown = t.regrown + one_if x }
more_loads b (LoadRefused r k n h) t = record t { refused = t.refused + 1 }
more_loads b (TakeBlock f x r v m k c n g) t = record t { regrown = t.regrown + one_if x }
more_loads b _ t = t

-- the tally of the node v of these
abbrev pub at : List NodeTally → ℕ → NodeTally
at ts v = slice_index_or ts v (fresh false)

-- the entry stands, where these are read after it
abbrev pub stands_before : Tally → Entry → Bool
stands_before t e = not (is_taken_back (has_role t.reclaims) e)

-- one more entry was read
pub record IsOneMore (ids : List ℤ) (e : Entry) (old new : Tally) : Type 0 where
  pub roles : (q : ℕ) → has_role new.reclaims q ≡ before e (has_role old.reclaims) q
  pub feed : new.feed ≡ more_loads (stands_before old e) e old.feed
  pub as_many : length new.nodes.items ≡ length old.nodes.items
  pub nodes : (v : ℕ) → v < length old.nodes.items
      → at new.nodes.items v ≡ (if is_node_at v (node_at e) then more ids (stands_before old e) e (at old.nodes.items v) else at old.nodes.items v)
