-- The rules of a run, as code keeps them.
use Rattle.std.specs.Prelude.{◌≡◌, ◌⊎◌, ◌≤◌, ◌<◌, ℕ, zero, suc, true, false, List, [], length, map, Some, slice_get, slice_index_or, sum_by, All}
use Rattle.course_parts.specs.declared.rules.NodeWork.{NodeWork}
use Rattle.course_parts.specs.declared.rules.NodeWork.TheVariants as work
use Rattle.course_parts.specs.declared.rules.NodeRules.{NodeRules}
use Rattle.course_parts.specs.declared.rules.Rules.{Rules}
use Rattle.flow_journal.specs.Setting.{Setting, Work, Makes, Passes, Watches, Saves, Node, node, is_maker, children}

abbrev pub as_work : NodeWork → Work
as_work work.Makes = Makes
as_work work.Passes = Passes false
as_work work.Deals = Passes true
as_work (work.Watches pre post preset) = Watches pre post preset
as_work (work.Saves whole_groups count) = Saves whole_groups count

abbrev pub as_node : NodeRules → Node
as_node n = record { work = as_work n.work; input = n.input; queue = n.queue; threads = n.threads; sort = n.sort; sort_time = n.sort_time }

-- the nodes that this one feeds; the driver is 0
abbrev pub children_of : Rules → ℕ → List ℕ
children_of r zero = r.children
children_of r (suc i) = slice_index_or (map (λ (n : NodeRules). n.children) r.nodes) i []

-- the bytes of an array that it makes
abbrev pub need_of : Rules → ℕ → ℕ
need_of r zero = r.need
need_of r (suc i) = slice_index_or (map (λ (n : NodeRules). n.need) r.nodes) i 0

-- these are the rules of the setting's node v
pub record IsRule (s : Setting) (v : ℕ) (n : NodeRules) : Type 0 where
  pub node : as_node n ≡ node s v
  pub need : n.need ≡ s.need v
  pub children : n.children ≡ children s v

-- and these those of its nodes, in their order
pub record AreNodeRules (s : Setting) (ns : List NodeRules) : Type 0 where
  pub all : length ns ≡ length s.nodes
  pub each : (i : ℕ) (n : NodeRules) → slice_get ns i ≡ Some n → IsRule s (suc i) n

-- a node keeps within the ranges of its keys
abbrev pub IsNodeWithin : ℕ → NodeRules → Type 0
IsNodeWithin nodes n =
    (n.input ≤ nodes) × (1 ≤ n.queue) × (n.queue ≤ 65535) × (1 ≤ n.threads) × (n.threads ≤ 16) × (n.sort ≤ 65535) × (n.sort_time ≤ 2147483647)

abbrev pub IsWorkWithin : NodeWork → Type 0
IsWorkWithin (work.Watches pre post preset) = (pre ≤ 4096) × (1 ≤ post)
IsWorkWithin (work.Saves whole_groups count) = (1 ≤ count) × (count ≤ 65536)
IsWorkWithin _ = Unit {0}

-- these are the rules of the setting
pub record AreRules (r : Rules) (s : Setting) : Type 0 where
  pub wait : r.wait ≡ s.wait
  pub limit : r.limit ≡ s.limit
  pub pooled : s.pooled ≡ true
  pub ids : r.ids ≡ s.ids
  pub nodes : map as_node r.nodes ≡ s.nodes
  pub needs : (v : ℕ) → (v ≡ 0) ⊎ (is_maker s v ≡ true) → need_of r v ≡ s.need v
  pub some : (v : ℕ) → (v ≡ 0) ⊎ (is_maker s v ≡ true) → 0 < s.need v
  pub children : (v : ℕ) → v ≤ length s.nodes → children_of r v ≡ children s v
  pub few_frames : length r.ids ≤ 65536
  pub few_nodes : length r.nodes ≤ 32
  pub few_threads : sum_by (λ (n : Node). n.threads) s.nodes ≤ 64
  pub within : All (IsNodeWithin (length r.nodes)) r.nodes
  pub works : All (λ (n : NodeRules). IsWorkWithin n.work) r.nodes
