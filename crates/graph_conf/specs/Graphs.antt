-- The graph that a text means, or its first fault.
use Rattle.std.specs.Prelude.{ℕ, zero, suc, ◌+◌, pos, Bool, true, false, not, ◌&&◌, ◌==◌, nat_lt, List, [], ◌∷◌, length, take, sum_by, slice_get, codes}
use Rattle.std.specs.Prelude.{Option, Some, None, Result, Ok, Err, if◌then◌else◌}
use Rattle.std.specs.List.{list_any, position_from}
use Rattle.std.specs.Option.{option_map_or, unwrap_or}
use Rattle.std.specs.Str.{bytes_eq, is_utf8}
use Rattle.toml.specs.Data.{Data, Members, as_table}
use Rattle.toml.specs.Parse.{parse_document}
use Rattle.graph_conf.specs.declared.fault.GraphFault.{GraphFault}
use Rattle.graph_conf.specs.declared.fault.GraphFault.TheVariants.{Text, Range, DoubleName, UnknownInput, Cycle}
use Rattle.graph_conf.specs.Answers.{◌>>=◌}
use Rattle.graph_conf.specs.Keys.{optional, formed, count, word_in, list_in, at_most, only_keys}
use Rattle.nd_base.specs.declared.graph.NodeRule.{NodeRule}
use Rattle.graph_conf.specs.Named.{Named}
use Rattle.nd_base.specs.declared.graph.Graph.{Graph}
use Rattle.nd_base.specs.GraphRules.{may_feed}
use Rattle.graph_conf.specs.Nodes.{node_of}

-- THE RUN

abbrev pub feeds : List (List ℕ × Bool)
feeds = (codes "free", false) ∷ (codes "wait", true) ∷ []

abbrev pub run_keys : List (List ℕ)
run_keys = codes "feed" ∷ codes "pool" ∷ []

-- whether the feed waits, and the pool's limit
abbrev pub feed_key : Members → Result Bool GraphFault
feed_key table = optional (codes "feed") (word_in (codes "feed") feeds) false table

unfoldable pub run_table : Data → Result (Bool × ℕ) GraphFault
run_table d = do
  table ← formed (codes "run") (as_table d)
  known ← only_keys run_keys table
  wait ← feed_key table
  limit ← count (codes "pool") 0 1099511627776 0 table
  Ok (wait, limit)

abbrev pub run_key : Members → Result (Bool × ℕ) GraphFault
run_key table = optional (codes "run") run_table (false, 0) table

-- EACH NODE BY ITSELF

-- the nodes of these tables, from node v on
abbrev pub nodes_from : ℕ → List Members → Result (List Named) GraphFault
nodes_from v [] = Ok []
nodes_from v (table ∷ tables) = do
  n ← node_of v table
  more ← nodes_from (v + 1) tables
  Ok (n ∷ more)

abbrev pub node_tables : Data → Result (List Members) GraphFault
node_tables d = do
  tables ← list_in (codes "node") as_table d
  at_most (codes "node") 32 tables

unfoldable pub node_key : Members → Result (List Named) GraphFault
node_key table = do
  tables ← optional (codes "node") node_tables [] table
  nodes_from 1 tables

-- ALL NODES TOGETHER

-- the first of so many places from k on at which the test holds
abbrev pub first_place : (ℕ → Bool) → ℕ → ℕ → Option ℕ
first_place test k zero = None
first_place test k (suc n) = if test k then Some k else first_place test (k + 1) n

-- a fault of the node at the place; the nodes are numbered from 1
abbrev pub refused_node : (ℕ → GraphFault) → Option ℕ → Result (Unit {0}) GraphFault
refused_node fault None = Ok tt
refused_node fault (Some k) = Err (fault (k + 1))

abbrev pub has_name : List ℕ → Named → Bool
has_name name n = bytes_eq n.rule.name name

-- an earlier node has the name of the node at this place
abbrev pub is_double : List Named → ℕ → Bool
is_double nodes k = option_map_or (λ n. list_any (has_name n.rule.name) (take k nodes)) (slice_get nodes k) false

-- the number of the node that an input names, from 1; the driver is 0
abbrev pub input_number : List Named → List ℕ → Option ℕ
input_number nodes name =
    if bytes_eq name (codes "driver") then Some 0
    else position_from (λ n. has_name name n && may_feed n.rule.kind) 1 nodes

abbrev pub known_input : ℕ → Option ℕ → Result ℕ GraphFault
known_input v None = Err (UnknownInput v)
known_input v (Some k) = Ok k

-- the numbers of the inputs of some of the nodes, from node v on
abbrev pub input_numbers : List Named → ℕ → List Named → Result (List ℕ) GraphFault
input_numbers nodes v [] = Ok []
input_numbers nodes v (n ∷ ns) = do
  k ← known_input v (input_number nodes n.input)
  ks ← input_numbers nodes (v + 1) ns
  Ok (k ∷ ks)

-- the nodes with these inputs
abbrev pub with_inputs : List Named → List ℕ → List NodeRule
with_inputs [] ks = []
with_inputs (n ∷ ns) [] = []
with_inputs (n ∷ ns) (k ∷ ks) = record n.rule { input = k } ∷ with_inputs ns ks

abbrev pub input_of : List ℕ → ℕ → ℕ
input_of inputs zero = 0
input_of inputs (suc k) = unwrap_or (slice_get inputs k) 0

-- so many inputs up from a node
abbrev pub source_of : List ℕ → ℕ → ℕ → ℕ
source_of inputs zero v = v
source_of inputs (suc steps) v = source_of inputs steps (input_of inputs v)

-- as many steps up as there are nodes don't lead from the node at this place to the driver
abbrev pub is_circular : List ℕ → ℕ → Bool
is_circular inputs k = not (source_of inputs (length inputs) (k + 1) == 0)

abbrev pub thread_count : List NodeRule → ℕ
thread_count nodes = sum_by (λ n. n.threads) nodes

abbrev pub few_threads : List NodeRule → Result (List NodeRule) GraphFault
few_threads nodes =
    if nat_lt 64 (thread_count nodes) then Err (Range (codes "threads") (pos (thread_count nodes))) else Ok nodes

unfoldable pub linked : List Named → Result (List NodeRule) GraphFault
linked nodes = do
  distinct ← refused_node DoubleName (first_place (is_double nodes) 0 (length nodes))
  inputs ← input_numbers nodes 1 nodes
  led ← refused_node Cycle (first_place (is_circular inputs) 0 (length inputs))
  few_threads (with_inputs nodes inputs)

-- THE GRAPH

abbrev pub top_keys : List (List ℕ)
top_keys = codes "run" ∷ codes "node" ∷ []

unfoldable pub graph_of : Members → Result Graph GraphFault
graph_of table = do
  known ← only_keys top_keys table
  run ← run_key table
  named ← node_key table
  nodes ← linked named
  Ok (record { wait = run.0; limit = run.1; nodes = nodes })

-- the graph of a document, where the bytes are one
abbrev pub graph_or_text : Option Members → Result Graph GraphFault
graph_or_text None = Err Text
graph_or_text (Some table) = graph_of table

-- the graph that bytes mean, or their first fault
abbrev pub graph_of_bytes : List ℕ → Result Graph GraphFault
graph_of_bytes bytes = if is_utf8 bytes then graph_or_text (parse_document bytes) else Err Text
