-- Which nodes lead to the driver. The inputs are those of the nodes 1, 2 and so on: each is the number of a node, or 0, which
-- is the driver.
use Rattle.std.specs.Prelude.{◌≡◌, ℕ, suc, ◌≤◌, ◌<◌, Bool, true, List, length, slice_get, Some, None, Ok}
use Rattle.std.specs.Str.{is_utf8}
use Rattle.toml.specs.Data.{Members}
use Rattle.toml.specs.Parse.{parse_document}
use Rattle.graph_conf.specs.Keys.{only_keys}
use Rattle.graph_conf.specs.Named.{Named}
use Rattle.graph_conf.specs.Graphs.{top_keys, run_key, node_key, first_place, is_double, input_numbers}

-- following the inputs the node reaches the driver: its input is the driver, or a node that reaches it
pub data Reaches (inputs : List ℕ) : (node : ℕ) → Type 0 where
  from_driver : (k : ℕ) → slice_get inputs k ≡ Some 0 → Reaches inputs (suc k)
  from_node : (k v : ℕ) → slice_get inputs k ≡ Some v → Reaches inputs v → Reaches inputs (suc k)

-- the first node that never reaches the driver
pub record IsCutOff (inputs : List ℕ) (node : ℕ) : Type 0 where
  pub least : 1 ≤ node
  pub most : node ≤ length inputs
  pub never : ¬ Reaches inputs node
  pub earlier : (v : ℕ) → 1 ≤ v → v < node → Reaches inputs v

-- The bytes are a document in which each key keeps its rule, no two nodes have one name, and each input names the driver or
-- a node that may feed others; these are the inputs.
pub record HasInputs (bytes inputs : List ℕ) : Type 0 where
  pub utf8 : is_utf8 bytes ≡ true
  pub table : Members
  pub document : parse_document bytes ≡ Some table
  pub top : only_keys top_keys table ≡ Ok tt
  pub run : Bool × ℕ
  pub run_rule : run_key table ≡ Ok run
  pub nodes : List Named
  pub node_rules : node_key table ≡ Ok nodes
  pub distinct : first_place (is_double nodes) 0 (length nodes) ≡ None
  pub known : input_numbers nodes 1 nodes ≡ Ok inputs

-- no earlier rule is broken, and the node is the first that never reaches the driver
pub record IsCycle (bytes : List ℕ) (node : ℕ) : Type 0 where
  pub inputs : List ℕ
  pub read : HasInputs bytes inputs
  pub cut_off : IsCutOff inputs node
