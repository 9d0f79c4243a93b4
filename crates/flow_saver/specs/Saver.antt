-- The role that saves: its moves, how it ends, and what its files are between two calls.
use Rattle.std.specs.Prelude.{◌≡◌, ◌≢◌, ◌⊎◌, ℕ, ◌+◌, ◌*◌, ◌/◌, ◌<◌, ◌≤◌, ◌^◌, Bool, true, false, ◌||◌, List, ◌∷◌, ◌++◌, length, map, slice_get, Option}
use Rattle.std.specs.Prelude.{None, Some, IsNone}
use Rattle.std.specs.List.{list_all}
use Rattle.nd_base.specs.Array.{Array, StackValue}
use Rattle.nd_base.specs.Parts.{Parts}
use Rattle.nd_base.specs.declared.frame.FrameName.{FrameName}
use Rattle.nd_base.specs.declared.graph.Graph.{Graph}
use Rattle.edge_traits.specs.Faults.{Rose}
use Rattle.edge_traits.specs.Files.{Files}
use Rattle.frame_store.specs.Sealed.{Sealed}
use Rattle.file_out.specs.declared.fault.SaveFault.TheVariants.{Failed}
use Rattle.flow_journal.specs.declared.entry.Entry.{Entry}
use Rattle.flow_journal.specs.declared.entry.Entry.TheVariants as entry
use Rattle.flow_journal.specs.Setting.{Setting}
use Rattle.flow_journal.specs.Pasts.{Past, frame}
use Rattle.flow_journal.specs.Hands.{hand}
use Rattle.flow_journal.specs.Puts.{puts}
use Rattle.flow_journal.specs.Ended.{is_settled, has_left_any}
use Rattle.flow_journal.specs.Finished.{is_finished}
use Rattle.flow_journal.specs.Unsaved.{saves}
use Rattle.board_rules.specs.States.{BoardState, past, lent_to}
use Rattle.flow_roles.specs.declared.last.Last.{Last}
use Rattle.flow_roles.specs.declared.last.Last.TheVariants as last
use Rattle.flow_roles.specs.Passes.{Pass}
use Rattle.board_rules.specs.InHand.{IsLent}
use Rattle.flow_roles.specs.RoleMoves.{saver_logs}
use Rattle.flow_roles.specs.Feeder.{name_of, parts_of}
use Rattle.file_out.specs.Streams.{Stream}
use Rattle.chain_plain.specs.Nodes.{maker_at}
use Rattle.graph_files.specs.NodeFiles.{NodeFile, IsPlaceAfter, IsSized, HasNumrecs, first_count}
use Rattle.graph_files.specs.OpenFiles.{closed, file_nodes, AllWritten, AllStops}
use Rattle.flow_saver.specs.GivenBack.{given_back, written_by}
use Rattle.flow_saver.specs.Pieces.{content_of}
use Rattle.flow_saver.specs.declared.piece.DuePiece.{DuePiece}
use Rattle.flow_saver.specs.declared.saving.Step.{Step}
use Rattle.flow_saver.specs.declared.saving.Step.TheVariants.{Nothing, Wrote, Wants}

-- The saver ends where the run is done or some role has left, unless memory was wanting.
abbrev pub saver_ends : Setting → Last → Past → (want : Bool) → Bool
saver_ends s last.Ended P want = want || is_finished s P
saver_ends s last.Left P want = want || has_left_any P
saver_ends s _ P want = want

-- a piece without its place
abbrev pub piece_of : DuePiece Sealed → Sealed
piece_of due = due.piece

-- what is left is the piece of the hand, and nothing without one
abbrev pub IsPieceOfHand : (lent : Option Parts) → Option Entry → Option Sealed → Type 0
IsPieceOfHand lent (Some (entry.Save r v m k g)) piece = IsLent name_of parts_of (frame m k) lent piece
IsPieceOfHand lent None piece = IsNone piece
IsPieceOfHand lent _ piece = ⊥

-- The group has this many arrays for good: it is whole, or its node is settled.
abbrev pub IsGroupSize : (P : Past) → (v count group : ℕ) → (size : ℕ) → Type 0
IsGroupSize P v count group size =
    ((group * count + count ≤ length (puts v P)) × (size ≡ count))
    ⊎ ((is_settled v P ≡ true) × (length (puts v P) < group * count + count) × (size + group * count ≡ length (puts v P)))

-- the number of records with which the file of a group was begun
abbrev pub IsFirstCount : (P : Past) → (v count group : ℕ) → (late : Bool) → (numrecs : Option ℕ) → Type 0
IsFirstCount P v count group true numrecs = numrecs ≡ None
IsFirstCount P v count group false numrecs = (size : ℕ) × (numrecs ≡ Some size) × IsGroupSize P v count group size

-- each open file was begun with the number of its group's arrays, or in mode stream with none
abbrev pub AreBegunSo : (P : Past) → (written : ℕ → List Array) → List NodeFile → Type 0
AreBegunSo P written xs =
    (k : ℕ) (x : NodeFile) (f : _) → slice_get xs k ≡ Some x → x.current ≡ Some f
    → IsFirstCount P x.node x.count (length (written x.node) / x.count) x.late f.numrecs

-- each open file has a row, but for that of node k, if there is one
abbrev pub HaveRowsBut : Option ℕ → List NodeFile → Type 0
HaveRowsBut k xs = (j : ℕ) (x : NodeFile) (f : Stream) → k ≢ Some j → slice_get xs j ≡ Some x → x.current ≡ Some f → 1 ≤ f.count

-- the entry that gives this piece back, at this node
abbrev pub back_of : (r v : ℕ) → FrameName → Entry
back_of r v name = entry.Saved r v name.maker name.index

-- what stands once the shelf has failed on a piece: all that was given back before it, but for the name of that call
pub record IsTornSince (g : Graph) (stack : StackValue) (before : Option Files) (P seen : Past) (ys : List NodeFile) (held : Option Files) : Type 0 where
  pub later : Past
  pub front : Past
  pub role : ℕ
  -- the piece, its node, and the group that it was to go to
  pub name : FrameName
  pub node : NodeFile
  pub whole : P ≡ later ++ back_of role node.node name ∷ front
  -- before it
  pub files : List NodeFile
  pub then_held : Option Files
  pub written : AllWritten before files (written_by g stack front) then_held
  pub begun : AreBegunSo seen (written_by g stack front) files
  pub at : ℕ
  pub listed : slice_get files at ≡ Some node
  pub rows : HaveRowsBut (Some at) files
  -- no other node's files are touched
  pub nodes : map closed ys ≡ map closed files
  pub others : (j : ℕ) → j ≢ at → slice_get ys j ≡ slice_get files j
  pub array : Array
  pub holds : content_of g stack name ≡ Some array
  pub group : ℕ
  pub place : ℕ
  pub place_is : IsPlaceAfter node.count (written_by g stack front node.node) group place
  pub numrecs : Option ℕ
  pub first : IsFirstCount seen node.node node.count group node.late numrecs
  pub stops : AllStops Failed before node ys (written_by g stack front) group numrecs array then_held held

-- the files of what was given back after P, or of what was before the shelf failed
abbrev pub AreSaved : Graph → StackValue → (before : Option Files) → (P seen : Past) → List NodeFile → (fault : Bool) → (held : Option Files) → Type 0
AreSaved g stack before P seen xs false held = AllWritten before xs (written_by g stack P) held × AreBegunSo seen (written_by g stack P) xs
AreSaved g stack before P seen xs true held = IsTornSince g stack before P seen xs held

-- the shelf's count
abbrev pub CountsSo : (fault : Bool) → (before now : ℕ) → Type 0
CountsSo false before now = now ≡ before
CountsSo true before now = Rose before now

-- what a role that saves began with: the names, the moves that it had made, and what the shelf had
pub record Start : Type 0 where
  pub prefix : List ℕ
  pub made : BoardState
  pub held : Option Files

-- since then the role has saved alone
abbrev pub HasSavedSince : (then_made made : BoardState) → Type 0
HasSavedSince then_made made = (added : BoardState) × (made ≡ added ++ then_made) × (list_all saver_logs (past added) ≡ true)

-- between two pieces
pub record IsSaving (g : Graph) (stack : StackValue) (start : Start) (r : ℕ) (p : Pass) (xs : List NodeFile) (fault : Bool) (held : Option Files) : Type 0 where
  pub role : p.role ≡ r
  pub moves : HasSavedSince start.made p.made
  pub free : hand r (past p.made) ≡ None
  pub alike : (v : ℕ) → saves v (past p.made) ≡ given_back v (past p.made)
  pub whole : (v : ℕ) → length (written_by g stack (past p.made) v) ≡ length (given_back v (past p.made))
  pub nodes : map closed xs ≡ file_nodes g stack start.prefix
  pub rows : fault ≡ false → HaveRowsBut None xs
  pub saved : AreSaved g stack start.held (past p.made) (past p.seen) xs fault held

-- with a piece in hand that isn't written
pub record HasUnsaved (g : Graph) (stack : StackValue) (start : Start) (r : ℕ) (p : Pass) (xs : List NodeFile) (fault : Bool) (held : Option Files)
    (due : DuePiece Sealed) : Type 0 where
  pub role : p.role ≡ r
  pub moves : HasSavedSince start.made p.made
  pub node : NodeFile
  pub listed : slice_get xs due.at ≡ Some node
  pub hand : hand r (past p.made) ≡ Some (entry.Save r node.node due.piece.name.maker due.piece.name.index due.group)
  pub lent : lent_to r p.made ≡ parts_of due.piece
  pub maker : due.piece.name.maker ≡ maker_at g.nodes node.node
  pub place : IsPlaceAfter node.count (written_by g stack (past p.made) node.node) due.group due.place
  pub few : length (written_by g stack (past p.made) node.node) + 1 < 2 ^ 64
  pub room : due.place < node.room
  pub sized : IsSized node.late due.place node.room due.of
  pub first : IsFirstCount (past p.seen) node.node node.count due.group node.late (first_count node.late due.of)
  pub numrecs : fault ≡ false → HasNumrecs (first_count node.late due.of) node.current
  pub alike : (v : ℕ) → saves v (past p.made) ≡ given_back v (back_of r node.node due.piece.name ∷ past p.made)
  pub whole : (v : ℕ) → length (written_by g stack (past p.made) v) ≡ length (given_back v (past p.made))
  pub nodes : map closed xs ≡ file_nodes g stack start.prefix
  pub rows : fault ≡ false → HaveRowsBut (Some due.at) xs
  pub saved : AreSaved g stack start.held (past p.made) (past p.seen) xs fault held

-- with a piece in hand that is to be given back
pub record IsToGiveBack (g : Graph) (stack : StackValue) (start : Start) (r : ℕ) (p : Pass) (xs : List NodeFile)
    (fault : Bool) (held : Option Files) (piece : Sealed) : Type 0 where
  pub role : p.role ≡ r
  pub moves : HasSavedSince start.made p.made
  pub node : ℕ
  pub group : ℕ
  pub hand : hand r (past p.made) ≡ Some (entry.Save r node piece.name.maker piece.name.index group)
  pub lent : lent_to r p.made ≡ parts_of piece
  pub alike : (v : ℕ) → saves v (past p.made) ≡ given_back v (back_of r node piece.name ∷ past p.made)
  pub whole : (v : ℕ)
      → length (written_by g stack (back_of r node piece.name ∷ past p.made) v) ≡ length (given_back v (back_of r node piece.name ∷ past p.made))
  pub nodes : map closed xs ≡ file_nodes g stack start.prefix
  pub rows : fault ≡ false → HaveRowsBut None xs
  pub saved : AreSaved g stack start.held (back_of r node piece.name ∷ past p.made) (past p.seen) xs fault held

-- what one save at a node leaves
abbrev pub StepLeaves : (g : Graph) (stack : StackValue) (start : Start) (r : ℕ) → Step Sealed
    → (p : Pass) (xs : List NodeFile) (fault : Bool) (held : Option Files) → Type 0
StepLeaves g stack start r Nothing p xs fault held = IsSaving g stack start r p xs fault held
StepLeaves g stack start r Wrote p xs fault held = IsSaving g stack start r p xs fault held
StepLeaves g stack start r (Wants due) p xs fault held = HasUnsaved g stack start r p xs fault held due

-- and the role that saves, with this piece in hand
abbrev pub RoleLeaves : (g : Graph) (stack : StackValue) (start : Start) (r : ℕ) → Option (DuePiece Sealed)
    → (p : Pass) (xs : List NodeFile) (fault : Bool) (held : Option Files) → Type 0
RoleLeaves g stack start r None p xs fault held = IsSaving g stack start r p xs fault held
RoleLeaves g stack start r (Some due) p xs fault held = HasUnsaved g stack start r p xs fault held due

-- A fault is answered where the shelf's count rose, and nowhere else. After one nothing changes on the shelf any more.
abbrev pub CountsStep : (old new : Bool) → (before now : ℕ) → (held held_now : Option Files) → Type 0
CountsStep true new before now held held_now = (new ≡ true) × (now ≡ before) × (held_now ≡ held)
CountsStep false new before now held held_now = CountsSo new before now
