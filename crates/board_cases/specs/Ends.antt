-- What the seats leave at the end.
use Rattle.std.specs.Prelude.{◌≡◌, ℕ, true, false, List, [], ◌∷◌, ◌++◌, map, length, Option, Some, None, slice_get}
use Rattle.frame_store.specs.Sealed.{Sealed}
use Rattle.flow_journal.specs.Setting.{Setting, last_role}
use Rattle.flow_journal.specs.Hands.{is_free}
use Rattle.flow_journal.specs.Ended.{was_reclaimed}
use Rattle.board_rules.specs.declared.answers.Left.{Left}
use Rattle.board_rules.specs.States.{BoardState, past}
use Rattle.board_rules.specs.Leaving.{MayReclaim}
use Rattle.flow_roles.specs.Feeder.{name_of, parts_of}
use Rattle.board_cases.specs.declared.seats.LoadedFrame.{LoadedFrame}
use Rattle.board_cases.specs.declared.seats.Job.{Job}
use Rattle.board_cases.specs.declared.seats.Worker.{Worker}
use Rattle.board_cases.specs.declared.seats.Seats.{Seats}

abbrev pub left_of_frame : {O : Type 0} → Option LoadedFrame → Left Sealed (List ℕ) O
left_of_frame None = record { input = None; made = None; blank = None }
left_of_frame (Some loaded) = record { input = None; made = None; blank = Some loaded.blank }

abbrev pub left_of_job : {O : Type 0} → Option (Job Sealed) → Left Sealed (List ℕ) O
left_of_job None = record { input = None; made = None; blank = None }
left_of_job (Some job) = record { input = Some job.input; made = None; blank = job.blank }

-- the passes of all roles, in their order
abbrev pub passes_of : {F P : Type 0} → Seats F P → List P
passes_of {F} {P} x = x.feeder.pass ∷ (map (λ (w : Worker F P). w.pass) x.workers.items ++ x.saver.pass ∷ [])

-- what all but the last have in hand
abbrev pub lefts_of : {O P : Type 0} → Seats Sealed P → List (Left Sealed (List ℕ) O)
lefts_of {O} {P} x = left_of_frame x.feeder.frame ∷ map (λ (w : Worker Sealed P). left_of_job w.job) x.workers.items

-- the drain may begin on this board, with what the roles left
pub record MayDrain {O : Type 0} (s : Setting) (b : BoardState) (lefts : List (Left Sealed (List ℕ) O)) : Type 0 where
  pub many : length lefts ≡ last_role s
  pub free : is_free (last_role s) (past b) ≡ true
  pub once : (r : ℕ) → was_reclaimed r (past b) ≡ false
  pub left : (k : ℕ) (left : Left Sealed (List ℕ) O) → slice_get lefts k ≡ Some left → MayReclaim name_of parts_of length s b k left
