-- LAWS of legal histories.
use Rattle.std.specs.Prelude.{◌≡◌, ℕ, ◌+◌, ◌≤◌, ◌==◌, Bool, true, false, List, [], ◌∷◌, ◌++◌, ◌↔◌, length, filter, Some}
use Rattle.nd_base.specs.Array.{Array}
use Rattle.nd_base.specs.declared.frame.FrameName.{FrameName}
use Rattle.nd_base.specs.declared.graph.Graph.{Graph}
use Rattle.nd_base.specs.declared.plan.Maker.{Maker}
use Rattle.pool_ledger.specs.Grants.{has_number}
use Rattle.flow_journal.specs.declared.entry.Entry.{Entry}
use Rattle.flow_journal.specs.declared.entry.Entry.TheVariants.{Load, TakeBlock, Reclaim}
use Rattle.flow_journal.specs.Accounts.{refs, is_unplaced, known}
use Rattle.flow_journal.specs.FirstEntries.{first}
use Rattle.flow_journal.specs.Setting.{Setting}
use Rattle.flow_journal.specs.RunSetting.{setting_of}
use Rattle.flow_journal.specs.Pasts.{Past}
use Rattle.flow_journal.specs.Hands.{takes_up, let_go, hands, hand, is_free, standing, is_loaded, is_piece, jobs}
use Rattle.flow_journal.specs.Ended.{is_settled}
use Rattle.flow_journal.specs.Queued.{queued}
use Rattle.flow_journal.specs.QueueCounts.{times, gone}
use Rattle.flow_journal.specs.Following.{owed}
use Rattle.flow_journal.specs.Histories.{is_legal, is_history}
use Rattle.flow_journal.specs.Moves.{onto, is_move, are_moves, all_of}
use Rattle.flow_journal.specs.Accepted.{accepts, emitted}

-- a legal move after a legal history makes a legal history
abbrev pub MovesKeepHistories : Type 0
MovesKeepHistories = (s : Setting) (P : Past) (m : List Entry) → is_history s P ≡ true → is_move s P m ≡ true → is_history s (onto m P) ≡ true

-- in every front of a legal log each entry is in its place
abbrev pub FrontsAreLegal : Type 0
FrontsAreLegal = (s : Setting) (newer P : Past) → is_legal s (newer ++ P) ≡ true → is_legal s P ≡ true

-- a front that ends with a move is a legal history
abbrev pub FrontsAreHistories : Type 0
FrontsAreHistories = (s : Setting) (newer P : Past) → is_history s (newer ++ P) ≡ true → owed s P ≡ [] → is_history s P ≡ true

-- P is the past after a list of moves, each of them legal after those before it
abbrev pub IsListOfMoves : Setting → Past → Type 0
IsListOfMoves s P = (ms : List (List Entry)) × (are_moves s [] ms ≡ true) × (onto (all_of ms) [] ≡ P)

-- a legal history is a list of legal moves, and conversely
abbrev pub HistoriesAreMoves : Type 0
HistoriesAreMoves = (s : Setting) (P : Past) → (is_history s P ≡ true) ↔ IsListOfMoves s P

-- of any log, a role has one hand at most,
abbrev pub OneHandARole : Type 0
OneHandARole = (P : Past) (r : ℕ) → length (filter (takes_up r) (hands P)) ≤ 1

-- that which it took up last,
abbrev pub LastHandARole : Type 0
LastHandARole = (r : ℕ) (e : Entry) (P : Past) → takes_up r e ≡ true → hand r (e ∷ P) ≡ Some e

-- and a reclaim takes back this hand, and without one nothing
pub record ReclaimsTheHand : Type 0 where
  pub held : (r : ℕ) (e : Entry) (P : Past) → hand r P ≡ Some e → standing (Reclaim r ∷ P) ≡ Reclaim r ∷ let_go r (standing P)
  pub free : (r : ℕ) (P : Past) → is_free r P ≡ true → standing (Reclaim r ∷ P) ≡ Reclaim r ∷ standing P

-- one block at most is loaded
abbrev pub OneBlockLoaded : Type 0
OneBlockLoaded = (s : Setting) (P : Past) → is_legal s P ≡ true → length (filter is_loaded (hands P)) ≤ 1

-- a file node has one piece in a hand at most
abbrev pub OnePieceANode : Type 0
OnePieceANode = (s : Setting) (P : Past) (v : ℕ) → is_legal s P ≡ true → length (filter (is_piece v) (hands P)) ≤ 1

-- a settled node has no job in a hand
abbrev pub SettledAreIdle : Type 0
SettledAreIdle = (s : Setting) (P : Past) (v : ℕ) → is_legal s P ≡ true → is_settled v P ≡ true → jobs v P ≡ 0

-- an array is queued as often as it was accepted, less its takes that stand and its drops
abbrev pub QueuesInCounts : Type 0
QueuesInCounts = (s : Setting) (P : Past) (v : ℕ) (a : FrameName) → is_legal s P ≡ true → times a (accepts v P) ≡ times a (queued v P) + times a (gone v P)

-- a node accepts one array of each index at most, and so no array twice
abbrev pub AcceptsOnce : Type 0
AcceptsOnce = (s : Setting) (P : Past) (v k : ℕ) → is_legal s P ≡ true → length (filter (λ (a : FrameName). a.index == k) (accepts v P)) ≤ 1

-- a node emits one array of each index at most
abbrev pub EmitsOnce : Type 0
EmitsOnce = (s : Setting) (P : Past) (v k : ℕ) → is_legal s P ≡ true → length (filter (λ (a : FrameName). a.index == k) (emitted v P)) ≤ 1

-- each block that has a place is known
abbrev pub ArePlacesKnown : Setting → Past → Type 0
ArePlacesKnown s P = (b : ℕ) → is_unplaced s P b ≡ false → has_number b (known s P) ≡ true

-- where blocks are accounted, each block that has a place is known
abbrev pub PlacesAreKnown : Type 0
PlacesAreKnown = (s : Setting) (P : Past) → s.pooled ≡ true → is_legal s P ≡ true → ArePlacesKnown s P

-- and a block that a Load grants has no place just before
abbrev pub LoadsAreUnplaced : Type 0
LoadsAreUnplaced =
    (s : Setting) (P : Past) (r k b n : ℕ) (f : Bool) (g : ℕ) (x : Bool) → s.pooled ≡ true → is_legal s P ≡ true
    → first s P (Load r k b n f g x) ≡ true → refs s P b ≡ 0

-- nor has one that a TakeBlock grants
abbrev pub TakesAreUnplaced : Type 0
TakesAreUnplaced =
    (s : Setting) (P : Past) (r v m k b n : ℕ) (f : Bool) (g : ℕ) (x : Bool) → s.pooled ≡ true → is_legal s P ≡ true
    → first s P (TakeBlock f x r v m k b n g) ≡ true → refs s P b ≡ 0

-- In every legal history of a run (blocks are accounted there) the block of each Load has no place just before it,
abbrev pub RunsLoadUnplaced : Type 0
RunsLoadUnplaced =
    (graph : Graph) (makers : List Maker) (arrays : List Array) (newer P : Past) (r k b n : ℕ) (f : Bool) (g : ℕ) (x : Bool)
    → is_legal (setting_of graph makers arrays) (newer ++ Load r k b n f g x ∷ P) ≡ true → refs (setting_of graph makers arrays) P b ≡ 0

-- and so it is with the block of each TakeBlock,
abbrev pub RunsTakeUnplaced : Type 0
RunsTakeUnplaced =
    (graph : Graph) (makers : List Maker) (arrays : List Array) (newer P : Past) (r v m k b n : ℕ) (f : Bool) (g : ℕ) (x : Bool)
    → is_legal (setting_of graph makers arrays) (newer ++ TakeBlock f x r v m k b n g ∷ P) ≡ true → refs (setting_of graph makers arrays) P b ≡ 0

-- and each block that has a place is known.
abbrev pub RunsPlacesAreKnown : Type 0
RunsPlacesAreKnown =
    (graph : Graph) (makers : List Maker) (arrays : List Array) (P : Past) → is_legal (setting_of graph makers arrays) P ≡ true
    → ArePlacesKnown (setting_of graph makers arrays) P
