-- Where the storage that is handed out is that which the block had.
use Rattle.std.specs.Prelude.{◌≡◌, ℕ, Bool, true, false, Option, Some}
use Rattle.nd_base.specs.Parts.{Parts}
use Rattle.flow_journal.specs.declared.entry.Entry.{Entry}
use Rattle.flow_journal.specs.declared.entry.Entry.TheVariants as entry
use Rattle.flow_journal.specs.Hands.{hand}
use Rattle.board_rules.specs.declared.answers.Load.{Load}
use Rattle.board_rules.specs.declared.answers.Load.TheVariants.{Loaded}
use Rattle.board_rules.specs.declared.answers.Take.{Take}
use Rattle.board_rules.specs.declared.answers.Take.TheVariants.{Job}
use Rattle.board_rules.specs.States.{BoardState, past}
use Rattle.board_rules.specs.InHand.{TellParts, OfSome}
use Rattle.board_rules.specs.LastGrants.{was_taken_back}

-- A block that isn't new, and of which the entry doesn't say that its storage was made anew, has storage on which a frame stood, where frames
-- tell their parts. Where the hand of its last grant was taken back, storage may have come back on which none did.
abbrev pub IsReused : {F B : Type 0} → (F → Option Parts) → (B → Bool) → BoardState → (block : ℕ) → (fresh regrown : Bool) → B → Type 0
IsReused parts is_used b block false false blank = TellParts parts → was_taken_back block (past b) ≡ false → is_used blank ≡ true
IsReused parts is_used b block fresh regrown blank = Unit {0}

-- so it is with the storage that goes out with this hand
abbrev pub ReusesStorage : {F B : Type 0} → (F → Option Parts) → (B → Bool) → BoardState → Option Entry → B → Type 0
ReusesStorage parts is_used b (Some (entry.Load r k c n f g x)) blank = IsReused parts is_used b c f x blank
ReusesStorage parts is_used b (Some (entry.TakeBlock f x r v m k c n g)) blank = IsReused parts is_used b c f x blank
ReusesStorage parts is_used b _ blank = Unit {0}

-- with that of a load
abbrev pub LoadReuses : {F B : Type 0} → (F → Option Parts) → (B → Bool) → BoardState → (r : ℕ) → Load B → BoardState → Type 0
LoadReuses parts is_used old r (Loaded k blank) new = ReusesStorage parts is_used old (hand r (past new)) blank
LoadReuses parts is_used old r _ new = Unit {0}

-- and with that of a job
abbrev pub TakeReuses : {F B O : Type 0} → (F → Option Parts) → (B → Bool) → BoardState → (r : ℕ) → Take F B O → BoardState → Type 0
TakeReuses parts is_used old r (Job w input blank) new = OfSome (ReusesStorage parts is_used old (hand r (past new))) blank
TakeReuses parts is_used old r _ new = Unit {0}
