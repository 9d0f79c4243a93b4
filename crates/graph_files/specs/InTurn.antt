-- Arrays that go into the files of a file node one after the other, where their rows are written in one piece.
use Rattle.std.specs.Prelude.{◌≡◌, ◌⊎◌, ℕ, ◌+◌, ◌-◌, ◌≤◌, Bool, true, false, List, [], ◌∷◌, ◌++◌, length, Option, None, Some, Result, Ok, Err, is_some}
use Rattle.std.specs.List.{flat_map}
use Rattle.nd_base.specs.Array.{Array}
use Rattle.edge_traits.specs.Files.{Files, file_at, with_more, HasFile, MayAppend}
use Rattle.cdf_write.specs.Layout.{layout, row}
use Rattle.file_out.specs.declared.fault.SaveFault.{SaveFault}
use Rattle.file_out.specs.declared.fault.SaveFault.TheVariants.{Failed, OutOfMemory}
use Rattle.file_out.specs.Streams.{Stream, HasRows, MayCount}
use Rattle.graph_files.specs.Groups.{group_of}
use Rattle.graph_files.specs.NodeFiles.{NodeFile, IsChangedAt, IsPlaceAfter, IsSized, IsTorn, HasNumrecs, AreWritten, first_count, name_of}

-- one array was written at this place of this group, and this file is open then
pub record Goes (x : NodeFile) (of : Option ℕ) (group place : ℕ) (a : Array) (o : Option Stream) (held now : Option Files) : Type 0 where
  pub numrecs : HasNumrecs (first_count x.late of) o
  pub changed : IsChangedAt held (name_of x group) now
  pub written : (arrays : List Array) → IsPlaceAfter x.count arrays group place → AreWritten x arrays held
      → AreWritten (record x { current = o }) (arrays ++ a ∷ []) now
  pub ended : place + 1 ≡ x.count → o ≡ None

-- these were written, each in its turn, from this place on
abbrev pub GoInTurn : NodeFile → (of : Option ℕ) → (group place : ℕ) → List Array → (o : Option Stream) → (held now : Option Files) → Type 0
GoInTurn x of group place [] o held now = (o ≡ x.current) × (now ≡ held)
GoInTurn x of group place (a ∷ more) o held now =
    (m : Option Stream) × ((v : Option Files) × Goes x of group place a m held v × GoInTurn (record x { current = m }) of group (place + 1) more o v now)

-- what a write of these that stopped leaves: want of memory nothing new, and a fault of the shelf the name of the group as it is torn
abbrev pub TurnStops : SaveFault → NodeFile → (of : Option ℕ) → (group place : ℕ) → List Array → (o : Option Stream) → (held now : Option Files) → Type 0
TurnStops OutOfMemory x of group place more o held now = (o ≡ x.current) × (now ≡ held)
TurnStops Failed x of group place more o held now =
    (o ≡ None) × IsChangedAt held (name_of x group) now
    × ((arrays : List Array) → IsPlaceAfter x.count arrays group place → AreWritten x arrays held
    → IsTorn (is_some x.current) x.count (file_at held (name_of x group)) x.shape (first_count x.late of) (group_of x.count group arrays) more
    (file_at now (name_of x group)))

-- what a write of these leaves, by its answer
abbrev pub GoOrStop : {T : Type 0} → Result T SaveFault → NodeFile → (of : Option ℕ) → (group place : ℕ) → List Array → (o : Option Stream)
    → (held now : Option Files) → Type 0
GoOrStop (Ok done) x of group place more o held now = GoInTurn x of group place more o held now
GoOrStop (Err fault) x of group place more o held now = TurnStops fault x of group place more o held now

-- what a write of the rows of so many arrays asks for
pub record AreReady (x : NodeFile) (of : Option ℕ) (group place : ℕ) (bytes : List ℕ) (count : ℕ) (held : Option Files) : Type 0 where
  pub written : (arrays : List Array) × IsPlaceAfter x.count arrays group place × AreWritten x arrays held
  pub some : 1 ≤ count
  pub room : place + count ≤ x.room
  pub sized : IsSized x.late (place + count - 1) x.room of
  pub numrecs : HasNumrecs (first_count x.late of) x.current
  pub rows : (more : List Array) × (length more ≡ count) × (bytes ≡ flat_map (row x.shape) more)

-- ROWS IN ONE PIECE

-- these rows were added to a file: it is open still, or ended with the layout of its rows
abbrev pub RowsGo : (more : Bool) → Stream → (count : ℕ) → (rows : List ℕ) → (current : Option Stream) → (held now : Option Files) → Type 0
RowsGo true f count rows current held now = (current ≡ Some (record f { count = f.count + count })) × (now ≡ with_more held f.name rows)
RowsGo false f count rows current held now =
    (current ≡ None) × ((added : Option Files) × (added ≡ with_more held f.name rows) × IsChangedAt added f.name now
    × ((arrays : List Array) → HasRows added (record f { count = f.count + count }) arrays → HasFile now f.name (layout f.shape arrays)))

-- these rows were not all added, or the file has as many as it ends with, and wasn't ended
abbrev pub RowsStop : (size : ℕ) → Stream → (count : ℕ) → (rows : List ℕ) → (held now : Option Files) → Type 0
RowsStop size f count rows held now =
    MayAppend held f.name rows now
    ⊎ ((added : Option Files) × (added ≡ with_more held f.name rows) × (size ≤ f.count + count) × MayCount added f.name f.numrecs (f.count + count) now)
