-- What a file is read as: what its bytes mean, and which statuses refuse them.
use Rattle.std.specs.Prelude.{◌≡◌, ◌≢◌, ℕ, ◌<◌, ◌≤◌, nat_le, List, length, Option, Result, Ok, Err, if◌then◌else◌}
use Rattle.nd_base.specs.Array.{StackValue}
use Rattle.nd_base.specs.declared.graph.Graph.{Graph}
use Rattle.nd_base.specs.GraphRules.{IsGraph}
use Rattle.edge_traits.specs.Files.{Files, HasFile}
use Rattle.nd_stack.specs.declared.fault.StackFault.{StackFault}
use Rattle.nd_stack.specs.declared.fault.StackFault.TheVariants as stack
use Rattle.nd_stack.specs.StackRules.{stack_of}
use Rattle.graph_conf.specs.declared.fault.GraphFault.{GraphFault}
use Rattle.graph_conf.specs.declared.fault.GraphFault.TheVariants as graph
use Rattle.graph_conf.specs.declared.load.LimitFault.TheVariants.{GraphBytes, StackFile}
use Rattle.graph_conf.specs.Graphs.{graph_of_bytes}
use Rattle.tool_commands.specs.declared.status.Status.{Status}
use Rattle.tool_commands.specs.declared.status.Status.TheVariants.{GraphText, GraphRule, StackBytes, Limit}

-- the most bytes of a graph's file
abbrev pub most_graph_bytes : ℕ
most_graph_bytes = 1048576

-- the most bytes of a stack's file
abbrev pub most_stack_bytes : ℕ
most_stack_bytes = 1073741824

-- the most arrays of a stack
abbrev pub most_frames : ℕ
most_frames = 65536

-- the graph of a file, or the status that refuses it
abbrev pub graph_or_status : Result Graph GraphFault → Result Graph Status
graph_or_status (Ok g) = Ok g
graph_or_status (Err graph.Text) = Err GraphText
graph_or_status (Err fault) = Err (GraphRule fault)

abbrev pub graph_in : List ℕ → Result Graph Status
graph_in file = if nat_le (length file) most_graph_bytes then graph_or_status (graph_of_bytes file) else Err (Limit (GraphBytes (length file)))

-- the stack of a file, or the status that refuses it
abbrev pub stack_or_status : Result StackValue StackFault → Result StackValue Status
stack_or_status (Ok s) = Ok s
stack_or_status (Err fault) = Err (StackBytes fault)

abbrev pub stack_in : List ℕ → Result StackValue Status
stack_in file = if nat_le (length file) most_stack_bytes then stack_or_status (stack_of file) else Err (Limit (StackFile (length file)))

pub data Input : Type 0 where
  AsGraph : Input
  AsStack : Input

abbrev pub Meaning : Input → Type 0
Meaning AsGraph = Graph
Meaning AsStack = StackValue

-- the most bytes of its file
abbrev pub most_bytes : Input → ℕ
most_bytes AsGraph = most_graph_bytes
most_bytes AsStack = most_stack_bytes

abbrev pub meaning_of : (input : Input) → List ℕ → Result (Meaning input) Status
meaning_of AsGraph file = graph_in file
meaning_of AsStack file = stack_in file

-- what holds of each graph and of each stack that is read
abbrev pub IsSound : (input : Input) → Meaning input → Type 0
IsSound AsGraph g = IsGraph g
IsSound AsStack s = length s.arrays ≤ most_frames

-- the statuses that refuse a graph's file, and those that refuse a stack's
pub data IsRefusalOf : Input → Status → Type 0 where
  LongGraph : (bytes : ℕ) → most_graph_bytes < bytes → IsRefusalOf AsGraph (Limit (GraphBytes bytes))
  NoText : IsRefusalOf AsGraph GraphText
  NoGraph : (fault : GraphFault) → fault ≢ graph.OutOfMemory → fault ≢ graph.Text → IsRefusalOf AsGraph (GraphRule fault)
  LongStack : (bytes : ℕ) → most_stack_bytes < bytes → IsRefusalOf AsStack (Limit (StackFile bytes))
  NoStack : (fault : StackFault) → fault ≢ stack.OutOfMemory → IsRefusalOf AsStack (StackBytes fault)

-- the bytes that were read are all of the file, where the library tells it, and have this meaning
pub record IsReadAs (told : Option Files) (input : Input) (name : List ℕ) (x : Meaning input) : Type 0 where
  pub bytes : List ℕ
  pub file : HasFile told name bytes
  pub means : meaning_of input bytes ≡ Ok x
  pub sound : IsSound input x

-- and are refused so
pub record IsRefusedAs (told : Option Files) (input : Input) (name : List ℕ) (status : Status) : Type 0 where
  pub bytes : List ℕ
  pub file : HasFile told name bytes
  pub means : meaning_of input bytes ≡ Err status
  pub refusal : IsRefusalOf input status
