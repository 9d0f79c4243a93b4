-- The seats of the roles: what each has in hand, by its pass.
use Rattle.std.specs.Prelude.{◌≡◌, ℕ, suc, true, List, [], ◌∷◌, length, Option, Some, None, IsTrue, slice_get}
use Rattle.std.specs.List.{list_all}
use Rattle.nd_base.specs.Array.{StackValue}
use Rattle.nd_base.specs.declared.graph.Graph.{Graph}
use Rattle.frame_store.specs.Sealed.{Sealed}
use Rattle.flow_journal.specs.Setting.{is_node, last_role}
use Rattle.flow_journal.specs.Hands.{hand}
use Rattle.board_rules.specs.InHand.{is_piece_on}
use Rattle.board_rules.specs.RunMeasures.{run_setting}
use Rattle.board_rules.specs.States.{past, lent_to}
use Rattle.flow_roles.specs.Passes.{Pass}
use Rattle.flow_roles.specs.RoleMoves.{feeder_logs, worker_logs, saver_logs, HasNothing}
use Rattle.flow_roles.specs.Feeder.{parts_of, HasLoaded}
use Rattle.flow_roles.specs.Worker.{HasJob}
use Rattle.board_cases.specs.declared.seats.LoadedFrame.{LoadedFrame}
use Rattle.board_cases.specs.declared.seats.Feeder.{Feeder}
use Rattle.board_cases.specs.declared.seats.Job.{Job}
use Rattle.board_cases.specs.declared.seats.Worker.{Worker}
use Rattle.board_cases.specs.declared.seats.Saver.{Saver}
use Rattle.board_cases.specs.declared.seats.Seats.{Seats}

-- the role has this piece in hand
pub record HasPiece (r : ℕ) (piece : Sealed) (p : Pass) : Type 0 where
  pub role : p.role ≡ r
  pub moves : list_all saver_logs (past p.made) ≡ true
  pub on : IsTrue (is_piece_on piece.name (hand r (past p.made)))
  pub lent : parts_of piece ≡ lent_to r p.made

-- WHAT A PASS SAYS OF WHAT THERE IS IN A HAND

abbrev pub HoldsFrame : Graph → StackValue → Pass → Option LoadedFrame → Type 0
HoldsFrame g stack p None = HasNothing feeder_logs 0 p
HoldsFrame g stack p (Some loaded) = HasLoaded (run_setting g stack) loaded.index (length loaded.blank) p

abbrev pub HoldsJob : Graph → StackValue → (r v : ℕ) → Pass → Option (Job Sealed) → Type 0
HoldsJob g stack r v p None = HasNothing (worker_logs v) r p
HoldsJob g stack r v p (Some job) = HasJob g stack r v job.input job.blank p

abbrev pub HoldsPiece : (r : ℕ) → Pass → Option Sealed → Type 0
HoldsPiece r p None = HasNothing saver_logs r p
HoldsPiece r p (Some piece) = HasPiece r piece p

-- THE SEATS

module _ {P : Type 0} (ours : P → Type 0) (knows : P → Pass) (g : Graph) (stack : StackValue) where
  pub record IsFeeding (x : Feeder P) : Type 0 where
    pub ours_ : ours x.pass
    pub holds : HoldsFrame g stack (knows x.pass) x.frame

  pub record IsWorking (r : ℕ) (x : Worker Sealed P) : Type 0 where
    pub ours_ : ours x.pass
    pub node : IsTrue (is_node (run_setting g stack) x.node)
    pub holds : HoldsJob g stack r x.node (knows x.pass) x.job

  pub record IsSaving (x : Saver Sealed P) : Type 0 where
    pub ours_ : ours x.pass
    pub holds : HoldsPiece (last_role (run_setting g stack)) (knows x.pass) x.piece

  pub record AreSeated (x : Seats Sealed P) : Type 0 where
    pub feeder : IsFeeding x.feeder
    pub many : suc (length x.workers.items) ≡ last_role (run_setting g stack)
    pub workers : (k : ℕ) (w : Worker Sealed P) → slice_get x.workers.items k ≡ Some w → IsWorking (suc k) w
    pub saver : IsSaving x.saver

-- the workers at these nodes, with these passes
abbrev pub workers_of : {F P : Type 0} → (nodes : List ℕ) → List P → List (Worker F P)
workers_of [] ps = []
workers_of (v ∷ vs) [] = []
workers_of (v ∷ vs) (p ∷ ps) = record { node = v; pass = p; job = None } ∷ workers_of vs ps
