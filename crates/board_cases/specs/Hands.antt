-- What an answer leaves in the hand of a role that had nothing in it.
use Rattle.std.specs.Prelude.{ℕ, Bool, true, false, List, Option, Some, None}
use Rattle.frame_store.specs.Sealed.{Sealed}
use Rattle.board_rules.specs.declared.answers.Load.{Load}
use Rattle.board_rules.specs.declared.answers.Load.TheVariants as load
use Rattle.board_rules.specs.declared.answers.Take.{Take}
use Rattle.board_rules.specs.declared.answers.Take.TheVariants as take
use Rattle.board_rules.specs.declared.answers.Save.{Save}
use Rattle.board_rules.specs.declared.answers.Save.TheVariants as save
use Rattle.board_cases.specs.declared.seats.LoadedFrame.{LoadedFrame}
use Rattle.board_cases.specs.declared.seats.Job.{Job}

-- the load changed nothing
abbrev pub is_still_load : {B : Type 0} → Load B → Bool
is_still_load (load.Refused k h) = false
is_still_load (load.Loaded k blank) = false
is_still_load _ = true

abbrev pub frame_of : Load (List ℕ) → Option LoadedFrame
frame_of (load.Loaded k blank) = Some (record { index = k; blank = blank })
frame_of _ = None

-- the take changed nothing
abbrev pub is_still_take : {F B O : Type 0} → Take F B O → Bool
is_still_take (take.PoolDrop k h) = false
is_still_take (take.Job v input blank) = false
is_still_take _ = true

abbrev pub job_of : {O : Type 0} → Take Sealed (List ℕ) O → Option (Job Sealed)
job_of (take.Job v input blank) = Some (record { input = input; blank = blank })
job_of _ = None

-- the save changed nothing
abbrev pub is_still_save : {F : Type 0} → Save F → Bool
is_still_save (save.Piece input group place of) = false
is_still_save _ = true

abbrev pub piece_of : {F : Type 0} → Save F → Option F
piece_of (save.Piece input group place of) = Some input
piece_of _ = None
