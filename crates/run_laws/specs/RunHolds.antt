-- LAWS: what holds of a finished run, point by point.
use Rattle.std.specs.Prelude.{◌≡◌, ◌⊎◌, ℕ, ◌+◌, ◌≤◌, true, false, List, ◌∷◌, ◌++◌, length, Some}
use Rattle.std.specs.List.{All, Contains}
use Rattle.nd_base.specs.Array.{StackValue}
use Rattle.nd_base.specs.declared.frame.FrameName.{FrameName}
use Rattle.nd_base.specs.declared.graph.Graph.{Graph}
use Rattle.nd_base.specs.declared.graph.NodeRule.{NodeRule}
use Rattle.nd_base.specs.declared.plan.Maker.{Maker}
use Rattle.nd_base.specs.GraphRules.{IsGraph, rule_at}
use Rattle.queue_sort.specs.Sorting.{keeps_step}
use Rattle.chain_plain.specs.Nodes.{maker_at}
use Rattle.flow_journal.specs.declared.entry.Entry.{Entry}
use Rattle.flow_journal.specs.declared.entry.Entry.TheVariants.{Emit, Full, PoolDrop, SortDrop, LoadRefused}
use Rattle.flow_journal.specs.declared.entry.Why.{Why}
use Rattle.flow_journal.specs.declared.entry.Why.TheVariants.{Late, Flush}
use Rattle.flow_journal.specs.Setting.{Setting, node, id_at, is_sorted}
use Rattle.flow_journal.specs.Turns.{deals}
use Rattle.flow_journal.specs.Pasts.{Past}
use Rattle.flow_journal.specs.Accounts.{refs}
use Rattle.flow_journal.specs.Accepted.{accepted, emitted}
use Rattle.flow_journal.specs.Breaks.{prev, outs, breaks}
use Rattle.flow_journal.specs.Ended.{has_ended}
use Rattle.flow_journal.specs.IndexLaws.{below}
use Rattle.flow_journal.specs.Offered.{offered, offered_frames}
use Rattle.flow_journal.specs.Queued.{has_room}
use Rattle.flow_journal.specs.RowFacts.{RefusalFacts}
use Rattle.flow_journal.specs.RunSetting.{setting_of}
use Rattle.run_laws.specs.BufferLaws.{Grants}
use Rattle.run_laws.specs.CauseLaws.{FullListFacts}
use Rattle.run_laws.specs.DropLaws.{was_dropped}
use Rattle.run_laws.specs.Drops.{fulls, pool_drops, sort_drops, loaded_frames, refused, has_drop, has_reclaim}
use Rattle.run_laws.specs.OneThreadLaws.{KeepsOrder}
use Rattle.run_laws.specs.OrderLaws.{HasWaitedLong, marked_breaks}
use Rattle.run_laws.specs.PlainLaws.{ArePlain, HasNoDealer, HasDistinctIds}
use Rattle.run_laws.specs.Results.{IsFinishedRun, put_out, AreInOrder, AreInSomeOrder}

-- this holds of each node of the graph, by its number and its rule
abbrev pub AtEachNode : Graph → (ℕ → NodeRule → Type 0) → Type 0
AtEachNode g Q = (v : ℕ) (n : NodeRule) → rule_at g.nodes v ≡ Some n → Q v n

-- the log has this entry, and these are the entries before it
abbrev pub HasAfter : Past → Entry → (before : Past) → Type 0
HasAfter P e before = (newer : Past) × (P ≡ newer ++ e ∷ before)

-- of the log P of a run of this graph over this stack, which is given s
pub record RunHolds (g : Graph) (stack : StackValue) (s : Setting) (P : Past) : Type 0 where
  -- ACCEPTED OR DROPPED. Each frame was offered at the driver, and once; and was loaded for good or refused.
  pub every_frame : offered_frames P ≡ below (length stack.arrays)
  pub loaded_or_refused : length (offered_frames P) ≡ length (loaded_frames P) + refused P
  -- what was loaded for good went out of the driver, in this order
  pub issued : outs s 0 P ≡ loaded_frames P
  -- what a node's input emitted was offered to it, in this order, where the input doesn't deal it out
  pub offered_all : AtEachNode g (λ v n. deals s n.input ≡ false → offered v P ≡ emitted n.input P)
  -- each array that was offered to a node was accepted for good or dropped there, and as many were as were offered
  pub each : AtEachNode g (λ v n. (a : FrameName) → Contains (offered v P) a → Contains (accepted s v P) a ⊎ (was_dropped s v a P ≡ true))
  pub accepted_or_dropped : AtEachNode g (λ v n. length (offered v P) ≡ length (accepted s v P) + fulls v P + pool_drops v P + sort_drops v P)
  -- ONE-THREAD RESULTS. What went out of a node is its one-thread result on what it accepted for good: in order, or at least in some order.
  pub in_order : AtEachNode g (λ v n. KeepsOrder n → AreInOrder g.nodes stack.arrays v (accepted s v P) (put_out s v P))
  pub in_some_order : AtEachNode g (λ v n. AreInSomeOrder g.nodes stack.arrays v (accepted s v P) (put_out s v P))
  -- what it accepted has the name of its input's maker, and what went out that of its own
  pub taken_names : AtEachNode g (λ v n. All (λ a. a.maker ≡ maker_at g.nodes n.input) (accepted s v P))
  pub out_names : AtEachNode g (λ v n. All (λ a. a.maker ≡ maker_at g.nodes v) (put_out s v P))
  -- ORDER. A break of a sorted node is marked late or flush, and the breaks that are counted are just these.
  pub marked : (v m k : ℕ) (why : Why) (before : Past) → HasAfter P (Emit v m k why) before → is_sorted s v ≡ true
      → keeps_step (prev s v before) (id_at s k) ≡ false → (why ≡ Late) ⊎ (why ≡ Flush)
  pub counted : (v : ℕ) → is_sorted s v ≡ true → breaks s v P ≡ marked_breaks s v P
  -- what is marked late had waited for longer than the sort time, and where something is marked flush the input had ended
  pub late : (v m k : ℕ) (before : Past) → HasAfter P (Emit v m k Late) before → HasWaitedLong s v m k before
  pub flush : (v m k : ℕ) (before : Past) → HasAfter P (Emit v m k Flush) before → has_ended (node s v).input before ≡ true
  -- DROPS HAVE CAUSES: a full queue, a pool that refuses the node or the driver, a full sort list.
  pub full_queue : (v m k : ℕ) (before : Past) → HasAfter P (Full v m k) before → has_room s before v ≡ false
  pub refused_pool : (r v m k need held : ℕ) (before : Past) → HasAfter P (PoolDrop r v m k need held) before → RefusalFacts s v need held before
  pub refused_frame : (r k need held : ℕ) (before : Past) → HasAfter P (LoadRefused r k need held) before → RefusalFacts s 0 need held before
  pub full_list : (v m k : ℕ) (before : Past) → HasAfter P (SortDrop v m k) before → FullListFacts s v m k before
  -- BUFFERS. The block that an entry grants had no place just before.
  pub unplaced : (e : Entry) (b : ℕ) (before : Past) → HasAfter P e before → Grants e b → refs s before b ≡ 0
  -- A FEED THAT WAITS, where no hand was taken back, finds no full queue at the driver's children.
  pub room : g.wait ≡ true → has_reclaim P ≡ false → AtEachNode g (λ v n. n.input ≡ 0 → fulls v P ≡ 0)
  -- THE PLAIN RUN: with distinct ids, and without a node that deals, a drop and a break, each node put out what it does there.
  pub plain : HasNoDealer g → HasDistinctIds stack → has_drop P ≡ false → ((v : ℕ) → v ≤ length g.nodes → breaks s v P ≡ 0)
      → AtEachNode g (λ v n. ArePlain g stack v (put_out s v P))

-- all this holds of every finished run
abbrev pub FinishedRunsHold : Type 0
FinishedRunsHold =
    (g : Graph) (makers : List Maker) (stack : StackValue) (P : Past) → IsGraph g → IsFinishedRun (setting_of g makers stack.arrays) P
    → RunHolds g stack (setting_of g makers stack.arrays) P
