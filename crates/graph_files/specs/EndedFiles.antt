-- The files of all file nodes when those that are still open end, one after the other.
use Rattle.std.specs.Prelude.{◌≡◌, ◌≢◌, ℕ, ◌+◌, ◌/◌, ◌<◌, ◌^◌, List, ◌++◌, length, map, take, drop, slice_get, Option, Some, IsSome, is_some}
use Rattle.nd_base.specs.Array.{Array}
use Rattle.edge_traits.specs.Files.{Files, file_at}
use Rattle.graph_files.specs.Groups.{group_of, whole_file, HasBytes}
use Rattle.graph_files.specs.NodeFiles.{NodeFile, name_of, group_file, AreEnded, EndTorn}
use Rattle.graph_files.specs.OpenFiles.{closed, IsElsewhere, AllWrittenBut}

-- the name is that of no group of these nodes, where these arrays were written at each node
abbrev pub IsNoGroup : List NodeFile → (written : ℕ → List Array) → List ℕ → Type 0
IsNoGroup xs written q =
    (k : ℕ) (x : NodeFile) (i : ℕ) → slice_get xs k ≡ Some x → IsSome (whole_file x.shape (group_of x.count i (written x.node))) → q ≢ name_of x i

-- Since the shelf had these files, just these arrays were written at each node and all files ended: each name of a group has its whole file, and
-- every other name is as it was.
pub record AllEnded (before : Option Files) (xs : List NodeFile) (written : ℕ → List Array) (held : Option Files) : Type 0 where
  pub told : is_some held ≡ is_some before
  pub each : (k : ℕ) (x : NodeFile) → slice_get xs k ≡ Some x → AreEnded x (written x.node) held
  pub others : (q : List ℕ) → IsNoGroup xs written q → file_at held q ≡ file_at before q

-- the first n of these nodes have no open file any more
abbrev pub ended_to : ℕ → List NodeFile → List NodeFile
ended_to n xs = map closed (take n xs) ++ drop n xs

-- the same while they end: each name of a group has its file, whole or open, and every other name is as it was
pub record AllStand (before : Option Files) (xs : List NodeFile) (written : ℕ → List Array) (held : Option Files) : Type 0 where
  pub told : is_some held ≡ is_some before
  pub each : (k : ℕ) (x : NodeFile) (i : ℕ) → slice_get xs k ≡ Some x → HasBytes held (name_of x i) (group_file x (written x.node) i)
  pub few : (k : ℕ) (x : NodeFile) → slice_get xs k ≡ Some x → length (written x.node) < 2 ^ 64
  pub others : (q : List ℕ) → IsElsewhere xs written q → file_at held q ≡ file_at before q

-- the group of the next array, which is that of the open file
abbrev pub open_group : NodeFile → (written : ℕ → List Array) → ℕ
open_group x written = length (written x.node) / x.count

-- what an end at one node that failed leaves: all but the name of its open file, which is torn
abbrev pub OneEndStops : (before : Option Files) → (x : NodeFile) → (ys : List NodeFile) → (written : ℕ → List Array) → (held now : Option Files) → Type 0
OneEndStops before x ys written held now =
    AllWrittenBut before ys written x (open_group x written) now
    × EndTorn x.current x (open_group x written) (group_of x.count (open_group x written) (written x.node)) held now

-- What an end of all that failed leaves: the name of one open file as it is torn. The files of the nodes before it are whole, and those of the nodes
-- behind it are open as they were.
pub record AllEndStops (before : Option Files) (xs : List NodeFile) (written : ℕ → List Array) (held now : Option Files) : Type 0 where
  pub at : ℕ
  pub node : NodeFile
  pub listed : slice_get xs at ≡ Some node
  pub stops : OneEndStops before node (ended_to (at + 1) xs) written held now

-- the names of the other nodes' open files have what they had
abbrev pub AreOthersAsBefore : (xs : List NodeFile) → (k : ℕ) → (written : ℕ → List Array) → (held now : Option Files) → Type 0
AreOthersAsBefore xs k written held now = (j : ℕ) (y : NodeFile) → j ≢ k → slice_get xs j ≡ Some y
    → file_at now (name_of y (open_group y written)) ≡ file_at held (name_of y (open_group y written))
