-- How a role ends, and what it leaves.
use Rattle.std.specs.Prelude.{◌≡◌, ℕ, Bool, true, false, ◌&&◌, not, Option, IsTrue}
use Rattle.std.specs.List.{list_all}
use Rattle.nd_base.specs.Parts.{Parts}
use Rattle.nd_base.specs.declared.frame.FrameName.{FrameName}
use Rattle.flow_journal.specs.declared.entry.Entry.{Entry}
use Rattle.flow_journal.specs.Pasts.{Past}
use Rattle.flow_journal.specs.Hands.{hand}
use Rattle.flow_journal.specs.Ended.{is_closed, is_settled, has_left_any}
use Rattle.board_rules.specs.declared.answers.Left.{Left}
use Rattle.flow_journal.specs.Setting.{Setting}
use Rattle.board_rules.specs.States.{BoardState, past, lent_to}
use Rattle.board_rules.specs.Movers.{moves_by}
use Rattle.board_rules.specs.Leaving.{MayReclaim}
use Rattle.board_rules.specs.InHand.{IsOfHand}
use Rattle.flow_roles.specs.declared.last.Last.{Last}
use Rattle.flow_roles.specs.declared.last.Last.TheVariants as last
use Rattle.flow_roles.specs.declared.role_end.Round.{Round}
use Rattle.flow_roles.specs.declared.role_end.Round.TheVariants.{Again, End}
use Rattle.flow_roles.specs.Lasts.{HasWanted}
use Rattle.flow_roles.specs.Passes.{Pass}

-- The feeder ends with one of these last answers, once this has happened. Memory was wanting exactly where it left itself.
abbrev pub feeder_ends : Last → Past → (want : Bool) → Bool
feeder_ends last.Left P want = not want && has_left_any P
feeder_ends last.Closed P want = not want && is_closed P
feeder_ends last.Gone P want = want && has_left_any P
feeder_ends _ P want = false

-- and so a worker at node v
abbrev pub worker_ends : ℕ → Last → Past → (want : Bool) → Bool
worker_ends v last.Left P want = not want && has_left_any P
worker_ends v last.Ended P want = not want && is_settled v P
worker_ends v last.Gone P want = want && has_left_any P
worker_ends v _ P want = false

-- at every board on which the role has made just these moves, this may be reclaimed
abbrev pub MayComeBack : {F B O : Type 0} → (F → FrameName) → (F → Option Parts) → (B → ℕ) → Setting → (r : ℕ) → (made : BoardState) → Left F B O → Type 0
MayComeBack name_of parts bytes_of s r made left = (b : BoardState) → moves_by r b ≡ made → MayReclaim name_of parts bytes_of s b r left

-- the end of a role, which may end so and whose moves have such entries alone
pub record HasEnded {F B O : Type 0} (name_of : F → FrameName) (parts : F → Option Parts) (bytes_of : B → ℕ) (logs : Entry → Bool)
    (ends : Last → Past → Bool → Bool) (r : ℕ) (p : Pass) (left : Left F B O) (want : Bool) : Type 0 where
  pub role : p.role ≡ r
  pub moves : list_all logs (past p.made) ≡ true
  pub last : IsTrue (ends p.said.last (past p.seen) want)
  pub wanted : HasWanted p.said
  pub handed : IsOfHand name_of parts bytes_of (lent_to r p.made) (hand r (past p.made)) left.input left.made left.blank

-- what a round of a role leaves: it goes on with the answer to what it asked last, or has ended
abbrev pub HasGone : {F N B O : Type 0} → (F → FrameName) → (F → Option Parts) → (B → ℕ) → (asked : N → Pass → Type 0) → (logs : Entry → Bool)
    → (ends : Last → Past → Bool → Bool) → (r : ℕ) → Pass → Round F N B O → Type 0
HasGone name_of parts bytes_of asked logs ends r p (Again next) = asked next p
HasGone name_of parts bytes_of asked logs ends r p (End left want) = HasEnded name_of parts bytes_of logs ends r p left want
