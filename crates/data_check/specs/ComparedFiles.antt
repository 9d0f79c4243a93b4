-- The files of a history that are compared with those of a library: all but one under the log's own name, node by node in the graph's order, and a
-- file node's groups in theirs.
use Rattle.std.specs.Prelude.{◌≡◌, ◌≢◌, ◌⊎◌, ℕ, All, List, [], ◌∷◌, ◌++◌, length, Option, Some, None, Result, Ok, Err, codes, if◌then◌else◌}
use Rattle.std.specs.FinMap as map
use Rattle.std.specs.List.{flat_map, range_with_len}
use Rattle.std.specs.Option.{option_map_or}
use Rattle.std.specs.Str.{bytes_eq}
use Rattle.nd_base.specs.Array.{StackValue}
use Rattle.nd_base.specs.declared.graph.Graph.{Graph}
use Rattle.nd_base.specs.declared.graph.NodeRule.{NodeRule}
use Rattle.nd_base.specs.GraphRules.{rule_at}
use Rattle.edge_traits.specs.Faults.{LibraryCall, SizeCall, ReadCall, Rose}
use Rattle.edge_traits.specs.Files.{Files, HasFile}
use Rattle.flow_journal.specs.Pasts.{Past}
use Rattle.flow_journal.specs.Unsaved.{standing_saves}
use Rattle.graph_files.specs.OutFiles.{group_name, stats_name}
use Rattle.flow_saver.specs.HistoryFiles.{kind_group, kind_rows}
use Rattle.data_check.specs.declared.difference.Difference.{Difference}
use Rattle.data_check.specs.declared.fault.CompareFault.{CompareFault}
use Rattle.data_check.specs.declared.fault.CompareFault.TheVariants.{Failed, OutOfMemory}

-- THE LIST

-- the node whose rows would have the name of the log
abbrev pub log_node : List ℕ
log_node = codes "log"

-- the name of the log's own file
abbrev pub log_name : (prefix : List ℕ) → List ℕ
log_name prefix = stats_name prefix log_node

-- a file that is compared: what its node and its group are, where rows are group 0, and what it is to be
pub record ComparedFile : Type 0 where
  pub node : ℕ
  pub group : ℕ
  pub name : List ℕ
  pub bytes : List ℕ

-- the file of these bytes, where there are any
abbrev pub file_of : (v i : ℕ) → (name : List ℕ) → Option (List ℕ) → List ComparedFile
file_of v i name None = []
file_of v i name (Some bytes) = record { node = v; group = i; name = name; bytes = bytes } ∷ []

-- group i of a node
abbrev pub group_files : Graph → StackValue → (prefix : List ℕ) → Past → (v : ℕ) → NodeRule → (i : ℕ) → List ComparedFile
group_files g stack prefix P v n i = file_of v i (group_name prefix n.name i) (kind_group g stack P v n.kind i)

-- the rows of a node, save where they have the log's name
abbrev pub rows_files : Graph → StackValue → (prefix : List ℕ) → Past → (v : ℕ) → NodeRule → List ComparedFile
rows_files g stack prefix P v n = if bytes_eq n.name log_node then [] else file_of v 0 (stats_name prefix n.name) (kind_rows g stack P v n.kind)

-- the files of a node, of whose groups there are no more than it has Saves
abbrev pub rule_files : Graph → StackValue → (prefix : List ℕ) → Past → (v : ℕ) → NodeRule → List ComparedFile
rule_files g stack prefix P v n =
    flat_map (group_files g stack prefix P v n) (range_with_len 0 (length (standing_saves v P))) ++ rows_files g stack prefix P v n

abbrev pub node_files : Graph → StackValue → (prefix : List ℕ) → Past → (v : ℕ) → List ComparedFile
node_files g stack prefix P v = option_map_or (rule_files g stack prefix P v) (rule_at g.nodes v) []

-- the files of all nodes, in the graph's order
abbrev pub compared_files : Graph → StackValue → (prefix : List ℕ) → Past → List ComparedFile
compared_files g stack prefix P = flat_map (node_files g stack prefix P) (range_with_len 1 (length g.nodes))

-- WHAT A LIBRARY HAS OF THEM

-- the name stands there with other bytes, where this is told
abbrev pub HasOther : Option Files → (name bytes : List ℕ) → Type 0
HasOther None name bytes = Unit {0}
HasOther (Some files) name bytes = (other : List ℕ) × (map.get files name ≡ Some other) × (other ≢ bytes)

-- the file is there as it is to be, where this is told
abbrev pub IsSame : Option Files → ComparedFile → Type 0
IsSame told f = HasFile told f.name f.bytes

-- it is there, and not so
abbrev pub IsOther : Option Files → ComparedFile → Type 0
IsOther told f = HasOther told f.name f.bytes

-- the comparison of these files ends at this one: those before it are as they are to be
pub record EndsAt (told : Option Files) (files : List ComparedFile) (Ends : ComparedFile → Type 0) : Type 0 where
  pub before : List ComparedFile
  pub file : ComparedFile
  pub after : List ComparedFile
  pub listed : files ≡ before ++ file ∷ after
  pub same : All (IsSame told) before
  pub ends : Ends file

-- the difference is that this file isn't as it is to be
pub record IsDifference (told : Option Files) (d : Difference) (f : ComparedFile) : Type 0 where
  pub other : IsOther told f
  pub node : d.node ≡ f.node
  pub group : d.group ≡ f.group

-- this is the first of these files that isn't as it is to be
abbrev pub IsFirstOther : Option Files → List ComparedFile → Difference → Type 0
IsFirstOther told files d = EndsAt told files (IsDifference told d)

-- the first of these files that isn't as it is to be, or None where each is
abbrev pub IsFound : Option Files → List ComparedFile → Option Difference → Type 0
IsFound told files None = All (IsSame told) files
IsFound told files (Some d) = IsFirstOther told files d

-- THE ANSWER

-- each file of the history is there as the run writes it
abbrev pub AreAllSame : Option Files → Graph → StackValue → (prefix : List ℕ) → Past → Type 0
AreAllSame told g stack prefix P = All (IsSame told) (compared_files g stack prefix P)

-- this is the first file of the history that isn't as the run writes it
abbrev pub IsFirstDifference : Option Files → Graph → StackValue → (prefix : List ℕ) → Past → Difference → Type 0
IsFirstDifference told g stack prefix P d = IsFirstOther told (compared_files g stack prefix P) d

-- WHERE THE LIBRARY FAILED, by its counts of faults at each call and name

-- no call has failed
abbrev pub NoneFailed : (before now : LibraryCall → List ℕ → ℕ) → Type 0
NoneFailed before now = (call : LibraryCall) → (name : List ℕ) → now call name ≡ before call name

-- a call for this file has failed
abbrev pub HasFailed : (before now : LibraryCall → List ℕ → ℕ) → (name : List ℕ) → Type 0
HasFailed before now name = Rose (before SizeCall name) (now SizeCall name) ⊎ Rose (before ReadCall name) (now ReadCall name)

-- a call for one of these files has failed, and those before it are as they are to be
abbrev pub IsFirstUnread : Option Files → (before now : LibraryCall → List ℕ → ℕ) → List ComparedFile → Type 0
IsFirstUnread told before now files = EndsAt told files (λ f. HasFailed before now f.name)

-- of a comparison that the library ended `Unread` says where; with every other answer no call has failed
abbrev pub TellsFault : {T : Type 0} → Result T CompareFault → (Unread : Type 0) → (before now : LibraryCall → List ℕ → ℕ) → Type 0
TellsFault (Ok x) Unread before now = NoneFailed before now
TellsFault (Err Failed) Unread before now = Unread
TellsFault (Err OutOfMemory) Unread before now = NoneFailed before now

-- the library's count of faults rose where the library failed; with every other answer it stays
abbrev pub IsCompareCause : {T : Type 0} → Result T CompareFault → (before now : ℕ) → Type 0
IsCompareCause (Ok x) before now = now ≡ before
IsCompareCause (Err Failed) before now = Rose before now
IsCompareCause (Err OutOfMemory) before now = now ≡ before
