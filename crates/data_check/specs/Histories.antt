-- A finished run, as its files are compared.
use Rattle.std.specs.Prelude.{◌≡◌, ℕ, ◌==◌, Bool, ◌&&◌, not, List, Option, None}
use Rattle.std.specs.Bool.{then_some}
use Rattle.nd_base.specs.Array.{Array, StackValue}
use Rattle.nd_base.specs.declared.graph.Graph.{Graph}
use Rattle.nd_base.specs.GraphRules.{IsGraph}
use Rattle.nd_stack.specs.KeptStacks.{IsKeptStack}
use Rattle.chain_plain.specs.OneThread.{arrays_out}
use Rattle.graph_conf.specs.Loads.{limit_fault}
use Rattle.flow_journal.specs.declared.entry.Entry.{Entry}
use Rattle.flow_journal.specs.declared.entry.Entry.TheVariants.{Put, Emit}
use Rattle.flow_journal.specs.Pasts.{Past}
use Rattle.board_rules.specs.RunMeasures.{run_setting}
use Rattle.run_laws.specs.Results.{IsFinishedRun, contents, put_out}

-- a graph, the stack that it goes over, the entries of its log, and what the names of its files begin with
pub record HistoryValue : Type 0 where
  pub graph : Graph
  pub stack : StackValue
  pub past : Past
  pub prefix : List ℕ

-- the graph meets its rules, the stack is one that was read, no limit is passed, and the log is that of a finished run
pub record IsHistory (h : HistoryValue) : Type 0 where
  pub graph : IsGraph h.graph
  pub kept : IsKeptStack h.stack
  pub within : limit_fault h.graph h.stack ≡ None
  pub run : IsFinishedRun (run_setting h.graph h.stack) h.past

-- the position of the array that leaves a node by this entry: by its Put where the node saves what is put, and else by its Emit
abbrev pub position_in : (saves : Bool) → (v : ℕ) → Entry → Option ℕ
position_in saves v (Put r w m k fired) = then_some (saves && (w == v)) k
position_in saves v (Emit w m k why) = then_some (not saves && (w == v)) k
position_in saves v _ = None

-- the arrays that went out of a node at these positions
abbrev pub arrays_at : HistoryValue → (v : ℕ) → List ℕ → List Array
arrays_at h v ks = arrays_out h.graph.nodes h.stack.arrays v ks

-- the arrays that went out of a node
abbrev pub all_arrays : HistoryValue → (v : ℕ) → List Array
all_arrays h v = contents h.graph.nodes h.stack.arrays (put_out (run_setting h.graph h.stack) v h.past)
