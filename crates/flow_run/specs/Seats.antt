-- The seats of the feeder and the workers, and how each role ends.
use Rattle.std.specs.Prelude.{◌≡◌, ℕ, zero, suc, ◌+◌, ◌<◌, ◌≤◌, Bool, true, false, List, [], ◌∷◌, length, Option, IsTrue, Some, slice_get}
use Rattle.std.specs.List.{list_all}
use Rattle.edge_traits.specs.Ticks.{Coming}
use Rattle.frame_store.specs.Sealed.{Sealed}
use Rattle.flow_journal.specs.declared.entry.Entry.{Entry}
use Rattle.flow_journal.specs.Setting.{Setting, is_node, last_role}
use Rattle.flow_journal.specs.Pasts.{Past}
use Rattle.flow_journal.specs.Hands.{hand}
use Rattle.board_rules.specs.declared.answers.Left.{Left}
use Rattle.board_rules.specs.States.{past, lent_to}
use Rattle.board_rules.specs.InHand.{IsOfHand}
use Rattle.flow_roles.specs.declared.last.Last.{Last}
use Rattle.flow_roles.specs.declared.role_end.RoleEnd.{RoleEnd}
use Rattle.flow_roles.specs.Passes.{Pass}
use Rattle.flow_roles.specs.RoleMoves.{feeder_logs, worker_logs, IsFresh}
use Rattle.flow_roles.specs.RoleEnds.{feeder_ends, worker_ends, MayComeBack}
use Rattle.flow_roles.specs.Feeder.{name_of, parts_of}
use Rattle.flow_roles.specs.FeederTicks.{FeedsByTheClock}
use Rattle.flow_run.specs.declared.seats.Seat.{Seat}
use Rattle.flow_run.specs.declared.seats.Seat.TheVariants.{Ready, Away, Back}

-- an entry of the moves of the role at this node: the feeder's is the driver, which is 0
abbrev pub post_logs : ℕ → Entry → Bool
post_logs zero e = feeder_logs e
post_logs (suc v) e = worker_logs (suc v) e

-- how it ends
abbrev pub post_ends : ℕ → Last → Past → (want : Bool) → Bool
post_ends zero last P want = feeder_ends last P want
post_ends (suc v) last P want = worker_ends (suc v) last P want

-- the role at this node has ended so, and this comes back of it: what was handed out for its hand, which may be taken back
pub record IsRoleEnd {O : Type 0} (s : Setting) (r v : ℕ) (p : Pass) (left : Left Sealed (List ℕ) O) (want : Bool) : Type 0 where
  pub role : p.role ≡ r
  pub moves : list_all (post_logs v) (past p.made) ≡ true
  pub last : IsTrue (post_ends v p.said.last (past p.seen) want)
  pub handed : IsOfHand name_of parts_of length (lent_to r p.made) (hand r (past p.made)) left.input left.made left.blank
  pub reclaimed : MayComeBack name_of parts_of length s r p.made left

-- seats for these passes, one each: role r and those after it, at these nodes
abbrev pub seats_from : {F P B O : Type 0} → (r : ℕ) → (posts : List ℕ) → List P → List (Seat F P B O)
seats_from r [] ps = []
seats_from r (v ∷ vs) [] = []
seats_from r (v ∷ vs) (p ∷ ps) = Ready r v p ∷ seats_from (r + 1) vs ps

abbrev pub is_back : {F P B O : Type 0} → Seat F P B O → Bool
is_back (Back end) = true
is_back (Ready r v p) = false
is_back Away = false

-- the ends of the roles that are back
abbrev pub ends_of : {F P B O : Type 0} → List (Seat F P B O) → List (RoleEnd F P B O)
ends_of [] = []
ends_of (Back end ∷ xs) = end ∷ ends_of xs
ends_of (Ready r v p ∷ xs) = ends_of xs
ends_of (Away ∷ xs) = ends_of xs

module _ {O P : Type 0} (ours : P → Type 0) (knows : P → Pass) where
  -- the seat of role r at node v, which hasn't begun
  abbrev pub IsReady : (r v : ℕ) → Seat Sealed P (List ℕ) O → Type 0
  IsReady r v (Ready role node pass) = (role ≡ r) × (node ≡ v) × ours pass × IsFresh r (knows pass)
  IsReady r v Away = ⊥
  IsReady r v (Back end) = ⊥

  -- and once it has ended
  abbrev pub IsBack : Setting → (r v : ℕ) → Seat Sealed P (List ℕ) O → Type 0
  IsBack s r v (Back end) = ours end.pass × IsRoleEnd s r v (knows end.pass) end.left end.want
  IsBack s r v Away = ⊥
  IsBack s r v (Ready role node pass) = ⊥

  -- the seats of role r and those after it, one each, at these nodes
  abbrev pub AreReady : (r : ℕ) → (posts : List ℕ) → List (Seat Sealed P (List ℕ) O) → Type 0
  AreReady r posts seats = (k v : ℕ) (x : Seat Sealed P (List ℕ) O) → slice_get posts k ≡ Some v → slice_get seats k ≡ Some x → IsReady (r + k) v x

  abbrev pub AreBack : Setting → (r : ℕ) → (posts : List ℕ) → List (Seat Sealed P (List ℕ) O) → Type 0
  AreBack s r posts seats = (k v : ℕ) (x : Seat Sealed P (List ℕ) O) → slice_get posts k ≡ Some v → slice_get seats k ≡ Some x → IsBack s (r + k) v x

  -- a worker's seat, which hasn't begun
  abbrev pub IsWorker : Setting → (r v : ℕ) → Seat Sealed P (List ℕ) O → Type 0
  IsWorker s r v x = (1 ≤ r) × (r < last_role s) × IsTrue (is_node s v) × IsReady r v x

  abbrev pub SomeWorker : Setting → Seat Sealed P (List ℕ) O → Type 0
  SomeWorker s x = (r : ℕ) × ((v : ℕ) × IsWorker s r v x)

  -- what its work leaves
  abbrev pub HasWorked : Setting → (old new : Seat Sealed P (List ℕ) O) → Type 0
  HasWorked s old new = (r v : ℕ) → IsWorker s r v old → IsBack s r v new

module _ {O P : Type 0} (knows : P → Pass) where
  -- the feeder of this seat was handed the clock's next answers
  abbrev pub HasFed : Setting → (old new : Option Coming) → Seat Sealed P (List ℕ) O → Type 0
  HasFed s old new (Back end) = (first : Pass) × IsFresh 0 first × FeedsByTheClock s first (knows end.pass) old new
  HasFed s old new Away = ⊥
  HasFed s old new (Ready role node pass) = ⊥
