-- Runs that have room for all their frames, whatever their threads do.
use Rattle.std.specs.Prelude.{◌≡◌, ℕ, ◌+◌, ◌<◌, ◌≤◌, ◌⊎◌, ℤ, pos, ◌+ℤ◌, Bool, true, false, List, length, map, All, slice_index_or}
use Rattle.std.specs.List.{Contains}
use Rattle.nd_base.specs.Array.{Array}
use Rattle.nd_base.specs.declared.graph.Graph.{Graph}
use Rattle.nd_base.specs.declared.graph.Kind.{Kind}
use Rattle.nd_base.specs.declared.graph.Kind.TheVariants.{Roi, Stats, Circular, File, Scatter}
use Rattle.nd_base.specs.declared.graph.NodeRule.{NodeRule}
use Rattle.flow_journal.specs.declared.entry.Entry.TheVariants.{Tick}
use Rattle.flow_journal.specs.Pasts.{Past}
use Rattle.run_laws.specs.OneThreadLaws.{KeepsOrder}

-- a node of this kind passes on all that it takes to all its children, or saves it
abbrev pub keeps_all : Kind → Bool
keeps_all (Roi r) = true
keeps_all (Stats r) = true
keeps_all (Circular r) = false
keeps_all (File r) = true
keeps_all Scatter = false

-- a sort list with a place for each frame, in which nothing is late within this span of ticks
pub record HasAmpleList (frames span : ℕ) (n : NodeRule) : Type 0 where
  pub sorted : 0 < n.sort
  pub places : frames ≤ n.sort
  pub time : span ≤ n.sort_time

-- a node whose queue has a place for each frame, and which keeps their order or sorts them so
pub record IsAmpleNode (frames span : ℕ) (n : NodeRule) : Type 0 where
  pub keeps : keeps_all n.kind ≡ true
  pub queue : frames ≤ n.queue
  pub order : KeepsOrder n ⊎ HasAmpleList frames span n

-- all nodes are so, and the pool has no limit
pub record IsAmple (frames span : ℕ) (g : Graph) : Type 0 where
  pub unlimited : g.limit ≡ 0
  pub nodes : All (IsAmpleNode frames span) g.nodes

abbrev pub id_of : List Array → ℕ → ℤ
id_of arrays k = slice_index_or (map (λ (a : Array). a.id) arrays) k (pos 0)

-- each id is one more than that of the array before
abbrev pub HasIdsInTurn : List Array → Type 0
HasIdsInTurn arrays = (k : ℕ) → k < length arrays → id_of arrays k ≡ id_of arrays 0 +ℤ pos k

-- no two ticks of the log are further apart than this
abbrev pub AreTicksWithin : (span : ℕ) → Past → Type 0
AreTicksWithin span P = (t u : ℕ) → Contains P (Tick t) → Contains P (Tick u) → u ≤ t + span
