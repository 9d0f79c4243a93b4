-- What a run is given: its graph, and what it needs of the stack. The driver is node 0, and the nodes are 1, 2, ..
use Rattle.std.specs.Prelude.{ℕ, zero, suc, ◌+◌, ◌==◌, Bool, true, false, ◌&&◌, nat_lt, nat_le, List, [], ◌∷◌, length, sum_by, filter, ℤ, pos, ◌-ℤ◌}
use Rattle.std.specs.Prelude.{slice_index_or}

pub data Work : Type 0 where
  -- makes an array of its own of each one
  Makes : Work
  -- passes each array on; with deals each goes to one child in turn
  Passes : (deals : Bool) → Work
  -- passes on the arrays inside its trigger windows
  Watches : (pre post preset : ℕ) → Work
  -- saves arrays in groups of count. With whole_groups an array is due only once its group is whole
  Saves : (whole_groups : Bool) (count : ℕ) → Work

pub record Node : Type 0 where
  pub work : Work
  pub input : ℕ
  pub queue : ℕ
  pub threads : ℕ
  -- the size of the sort list; 0 is no sorting
  pub sort : ℕ
  pub sort_time : ℕ

pub record Setting : Type 0 where
  -- the feed waits for room
  pub wait : Bool
  -- blocks are accounted; without that each grant is all zeros
  pub pooled : Bool
  -- in bytes; 0 is no limit
  pub limit : ℕ
  pub nodes : List Node
  -- the ids of the stack's frames
  pub ids : List ℤ
  -- the bytes of an array that this maker makes
  pub need : ℕ → ℕ
  -- whether the trigger of this node fires at the frame of this index
  pub fires : ℕ → ℕ → Bool

-- what stands for a node that isn't there: it has no threads
abbrev pub no_node : Node
no_node = record { work = Passes false; input = 0; queue = 0; threads = 0; sort = 0; sort_time = 0 }

-- the rule of a node
abbrev pub node : Setting → ℕ → Node
node s zero = no_node
node s (suc k) = slice_index_or s.nodes k no_node

-- the graph has this node
abbrev pub is_node : Setting → ℕ → Bool
is_node s v = nat_lt 0 v && nat_le v (length s.nodes)

abbrev pub makes : Work → Bool
makes Makes = true
makes (Passes deals) = false
makes (Watches pre post preset) = false
makes (Saves whole_groups count) = false

-- the node makes arrays of its own
abbrev pub is_maker : Setting → ℕ → Bool
is_maker s v = makes (node s v).work

-- only nodes that make or pass arrays on can sort them
abbrev pub may_sort : Work → Bool
may_sort Makes = true
may_sort (Passes deals) = true
may_sort (Watches pre post preset) = false
may_sort (Saves whole_groups count) = false

-- the node has a sort list
abbrev pub is_sorted : Setting → ℕ → Bool
is_sorted s v = may_sort (node s v).work && nat_lt 0 (node s v).sort

-- the numbers of these nodes, where v is that of the first
abbrev pub numbers_from : ℕ → List Node → List ℕ
numbers_from v [] = []
numbers_from v (n ∷ ns) = v ∷ numbers_from (v + 1) ns

abbrev pub node_numbers : Setting → List ℕ
node_numbers s = numbers_from 1 s.nodes

-- the nodes whose input is v, in the graph's order
abbrev pub children : Setting → ℕ → List ℕ
children s v = filter (λ c. (node s c).input == v) (node_numbers s)

-- the drain: role 0 feeds, each thread of each node is a role from 1 on, and the drain is the last
abbrev pub last_role : Setting → ℕ
last_role s = sum_by (λ n. n.threads) s.nodes + 1

abbrev pub is_role : Setting → ℕ → Bool
is_role s r = nat_le r (last_role s)

-- the id of the frame of this index
abbrev pub id_at : Setting → ℕ → ℤ
id_at s k = slice_index_or s.ids k (pos 0)

-- the id before the first: the first less 1, or 0 where the stack is empty
abbrev pub first_prev : List ℤ → ℤ
first_prev [] = pos 0
first_prev (i ∷ ids) = i -ℤ pos 1
