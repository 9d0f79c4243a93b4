-- What each call leaves in a pass of what it was answered.
use Rattle.std.specs.Prelude.{◌≡◌, ℕ, ◌≤◌, Bool, true, false, Result, Ok, Err, if◌then◌else◌}
use Rattle.edge_traits.specs.Memory.{one_more}
use Rattle.board_rules.specs.declared.answers.Load.{Load}
use Rattle.board_rules.specs.declared.answers.Load.TheVariants as load
use Rattle.board_rules.specs.declared.answers.Take.{Take}
use Rattle.board_rules.specs.declared.answers.Take.TheVariants as take
use Rattle.board_rules.specs.declared.answers.Settled.{Settled}
use Rattle.board_rules.specs.declared.answers.Settled.TheVariants as settled
use Rattle.board_rules.specs.declared.answers.NotYours.{NotYours}
use Rattle.flow_journal.specs.declared.progress.Progress.{Progress}
use Rattle.flow_roles.specs.declared.last.Last.{Last}
use Rattle.flow_roles.specs.declared.last.Last.TheVariants as last
use Rattle.flow_roles.specs.declared.last.Said.{Said}

-- THE LAST ANSWER

abbrev pub last_load : {B : Type 0} → Load B → Last
last_load load.Left = last.Left
last_load load.Ended = last.Ended
last_load _ = last.Other

abbrev pub last_take : {F B O : Type 0} → Take F B O → Last
last_take take.Left = last.Left
last_take take.Ended = last.Ended
last_take _ = last.Other

abbrev pub last_close : Settled → Last
last_close settled.Done = last.Closed
last_close settled.NotYet = last.Other

abbrev pub last_progress : Progress → Last
last_progress p = if p.done then last.Ended else if p.left then last.Left else last.Other

-- WHAT THE CALLS OF A ROLE ANSWERED: before the first one, and with one more

abbrev pub fresh_said : Said
fresh_said = record { last = last.Fresh; owned = true; loads = 0; tick = 0; wanted = 0; asked = 0 }

-- a call that leaves nothing but its answer
abbrev pub said_last : Last → Said → Said
said_last answer said =
    record { last = answer; owned = said.owned; loads = said.loads; tick = said.tick; wanted = said.wanted; asked = said.asked }

-- there was memory for the load, and for the take
abbrev pub load_had_memory : {B : Type 0} → Load B → Bool
load_had_memory load.OutOfMemory = false
load_had_memory _ = true

abbrev pub take_had_memory : {F B O : Type 0} → Take F B O → Bool
take_had_memory take.OutOfMemory = false
take_had_memory _ = true

-- a call that leaves nothing but its answer, and whether it had memory
abbrev pub said_had : Last → (had : Bool) → Said → Said
said_had answer true = said_last answer
said_had answer false = λ said.
    record { last = answer; owned = said.owned; loads = said.loads; tick = said.tick; wanted = one_more said.wanted; asked = said.asked }

-- a load that was handed this tick
abbrev pub said_load : {B : Type 0} → Load B → (tick : ℕ) → Said → Said
said_load answer tick said =
    record {
      last = last_load answer;
      owned = said.owned;
      loads = one_more said.loads;
      tick = tick;
      wanted = if load_had_memory answer then said.wanted else one_more said.wanted;
      asked = said.asked;
    }

-- issue, put or saved
abbrev pub said_given : {F E : Type 0} → Result E (NotYours F) → Said → Said
said_given (Ok done) = said_last last.Other
said_given (Err e) = λ said. record { last = last.NotYours; owned = false; loads = said.loads; tick = said.tick; wanted = said.wanted; asked = said.asked }

abbrev pub said_take : {F B O : Type 0} → Take F B O → Said → Said
said_take answer = said_had (last_take answer) (take_had_memory answer)

abbrev pub said_close : Settled → Said → Said
said_close answer = said_last (last_close answer)

abbrev pub said_leave : Said → Said
said_leave = said_last last.Gone

-- settle or save
abbrev pub said_other : Said → Said
said_other = said_last last.Other

abbrev pub said_progress : Progress → Said → Said
said_progress answer said =
    record { last = last_progress answer; owned = said.owned; loads = said.loads; tick = said.tick; wanted = said.wanted; asked = one_more said.asked }

-- HOW A ROLE GOES ON AND ENDS

abbrev pub is_gone : Last → Bool
is_gone last.Gone = true
is_gone _ = false

-- the role may make calls: there was memory for each, and the last one was no leave
abbrev pub IsActive : Said → Type 0
IsActive said = (said.wanted ≡ 0) × (is_gone said.last ≡ false)

-- at most one call found no memory, and where one did, the last one was the leave
abbrev pub HasWanted : Said → Type 0
HasWanted said = (said.wanted ≤ 1) × (1 ≤ said.wanted → said.last ≡ last.Gone)
