-- The turns of the role that saves, and the notes of a run.
use Rattle.std.specs.Prelude.{◌≡◌, ℕ, ◌≤◌, Bool, true, false, ◌||◌, List, [], ◌∷◌, ◌++◌, Option, None, Some, is_some, slice_get, IsTrue}
use Rattle.std.specs.List.{All, filter_map}
use Rattle.flow_journal.specs.declared.entry.Entry.{Entry}
use Rattle.flow_journal.specs.declared.entry.Entry.TheVariants.{Save}
use Rattle.flow_journal.specs.Setting.{Setting, last_role}
use Rattle.flow_journal.specs.Pasts.{Past}
use Rattle.flow_journal.specs.Hands.{hand}
use Rattle.flow_journal.specs.Ended.{has_left_any}
use Rattle.flow_journal.specs.Finished.{is_finished}
use Rattle.flow_journal.specs.Notes.{Watched, WereNoted}
use Rattle.board_rules.specs.States.{BoardState, past}
use Rattle.board_rules.specs.Movers.{moves_by}
use Rattle.flow_roles.specs.Passes.{Pass, only_drain_saves}
use Rattle.graph_files.specs.NodeFiles.{NodeFile}

-- TURNS

-- the nodes at which a log saves, the newest first
abbrev pub node_saved : Entry → Option ℕ
node_saved (Save r v m k g) = Some v
node_saved _ = None

abbrev pub nodes_saved : Past → List ℕ
nodes_saved P = filter_map node_saved P

-- from the newest to the oldest none is greater
abbrev pub Falls : List ℕ → Type 0
Falls [] = Unit {0}
Falls (v ∷ vs) = All (λ w. w ≤ v) vs × Falls vs

-- One turn goes over the file nodes once, in the graph's order: no save is at a node before that of an earlier one.
abbrev pub IsTurn : Past → Type 0
IsTurn P = Falls (nodes_saved P)

-- Of these fronts of a log, THE NEWEST FIRST, each begins with the one before it, and the log with the last. Nothing was saved before the first,
-- and from each to the next, and to the log, there is one turn.
abbrev pub AreTurns : (fronts : List Past) → (log : Past) → Type 0
AreTurns [] log = nodes_saved log ≡ []
AreTurns (P ∷ fronts) log = (newer : Past) × (log ≡ newer ++ P) × IsTurn newer × AreTurns fronts P

-- A role that saves ends once it has seen this: the run is done, or some role has left. Where memory was wanting, the last role has a piece in hand.
abbrev pub ends_at : Setting → Past → (want : Bool) → Bool
ends_at s seen false = is_finished s seen || has_left_any seen
ends_at s seen true = is_some (hand (last_role s) seen)

-- The notes of a role that saves, which has ended and seen this log: one at the beginning of each turn, of how far the run had come then. The last is
-- that of the whole log, unless the role ended in its turn for want of memory.
pub record AreNotesOf (s : Setting) (seen : Past) (want : Bool) (old new : Watched) : Type 0 where
  pub last : Past
  pub earlier : List Past
  pub ended : IsTrue (ends_at s seen want)
  pub noted : WereNoted s (last ∷ earlier) old new
  pub turns : AreTurns (last ∷ earlier) seen
  pub whole : want ≡ false → last ≡ seen

-- CALL BY CALL

-- the pass knows which moves of the log that it has seen are its own, and that no other role saved there
abbrev pub KnowsItsOwn : Setting → Pass → Type 0
KnowsItsOwn s p = (moves_by p.role p.seen ≡ p.made) × (only_drain_saves s (past p.seen) ≡ true)

-- From one call to a later one the role has seen more of the log, and the saves that it made are at such nodes. It was never answered NotYours, and
-- didn't ask how far the run had come.
pub record HasGoneOn (s : Setting) (Nodes : List ℕ → Type 0) (p q : Pass) : Type 0 where
  pub role : q.role ≡ p.role
  pub newer : BoardState
  pub seen : q.seen ≡ newer ++ p.seen
  pub added : BoardState
  pub made : q.made ≡ added ++ p.made
  pub nodes : Nodes (nodes_saved (past added))
  pub own : KnowsItsOwn s p → KnowsItsOwn s q
  pub owned : p.said.owned ≡ true → q.said.owned ≡ true
  pub asked : q.said.asked ≡ p.said.asked

-- no save, saves at one node, and saves at the nodes before these files
abbrev pub AreNone : List ℕ → Type 0
AreNone vs = vs ≡ []

abbrev pub AreAt : ℕ → List ℕ → Type 0
AreAt v vs = All (λ w. w ≡ v) vs

abbrev pub FallBefore : List NodeFile → (at : ℕ) → List ℕ → Type 0
FallBefore xs at vs = Falls vs × ((j : ℕ) (x : NodeFile) → at ≤ j → slice_get xs j ≡ Some x → All (λ w. w ≤ x.node) vs)
