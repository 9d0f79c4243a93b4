-- The workers of a run.
use Rattle.std.specs.Prelude.{ℕ, ◌+◌, List, [], ◌∷◌, ◌++◌, replicate}
use Rattle.flow_journal.specs.Setting.{Setting, Node}

-- the node of each worker of these nodes, where v is the number of the first: in their order, as many as each has threads
abbrev pub workers_from : ℕ → List Node → List ℕ
workers_from v [] = []
workers_from v (n ∷ ns) = replicate n.threads v ++ workers_from (v + 1) ns

-- the node of each worker: item k is that of role k + 1
abbrev pub workers : Setting → List ℕ
workers s = workers_from 1 s.nodes

-- and of each role that runs in a thread of its own: the feeder, which is role 0, works for the driver
abbrev pub posts : Setting → List ℕ
posts s = 0 ∷ workers s
