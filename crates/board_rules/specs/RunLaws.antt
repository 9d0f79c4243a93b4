-- LAW of every list of calls, by their contracts alone.
use Rattle.std.specs.Prelude.{◌≡◌, ℕ, ◌==◌, Bool, true, false, List, [], ◌∷◌, ◌++◌, Option, Some, None, Ok}
use Rattle.std.specs.List.{list_all}
use Rattle.flow_journal.specs.declared.entry.Entry.{Entry}
use Rattle.flow_journal.specs.declared.entry.Entry.TheVariants.{Save}
use Rattle.flow_journal.specs.Setting.{Setting}
use Rattle.flow_journal.specs.Hands.{hand}
use Rattle.flow_journal.specs.Histories.{is_history}
use Rattle.board_rules.specs.States.{BoardState, past, lent_to}
use Rattle.board_rules.specs.InHand.{TellParts, IsOfHand}
use Rattle.board_rules.specs.Storage.{has_lost, is_never_regrown, HasAllStorage}
use Rattle.board_rules.specs.Movers.{IsMoveOf}
use Rattle.board_rules.specs.Runs.{Frames, Call, Reclaims, Runs, Gives, caller, saver}

-- where blocks are accounted, calls with their conditions and answers lead from a legal history to a legal history
abbrev pub RunsAreLegal : (F B O : Type 0) → Type 0
RunsAreLegal F B O = (fs : Frames F B) (s : Setting) (old new : BoardState) (calls : List (Call F B O)) → s.pooled ≡ true → is_history s (past old) ≡ true
    → Runs fs s old calls new → is_history s (past new) ≡ true

-- where a hand is taken back by the call, all that was handed out for it comes back
abbrev pub BringsAll : {F B O : Type 0} → Frames F B → BoardState → Call F B O → Type 0
BringsAll fs b (Reclaims r left (Ok done)) =
    IsOfHand fs.name_of fs.parts fs.bytes_of (lent_to r b) (hand r (past b)) left.input left.made left.blank
BringsAll fs b call = Unit {0}

-- so by each of these calls
abbrev pub AllBring : {F B O : Type 0} (fs : Frames F B) (s : Setting) (old : BoardState) (calls : List (Call F B O)) (new : BoardState)
    → Runs fs s old calls new → Type 0
AllBring fs s old [] new runs = Unit {0}
AllBring fs s old (call ∷ calls) new runs = BringsAll fs old call × AllBring fs s runs.1.0 calls new runs.1.2

-- Where all comes back by a call, nothing has stayed away after it that hadn't before, and where frames tell their parts no storage is made
-- anew. So it is with any calls.
abbrev pub CallsKeepStorage : (F B O : Type 0) → Type 0
CallsKeepStorage F B O = (fs : Frames F B) (s : Setting) (old new : BoardState) (call : Call F B O) → Gives fs s old call new → BringsAll fs old call
    → HasAllStorage fs.parts old → HasAllStorage fs.parts new

abbrev pub RunsKeepStorage : (F B O : Type 0) → Type 0
RunsKeepStorage F B O = (fs : Frames F B) (s : Setting) (new : BoardState) (calls : List (Call F B O)) (runs : Runs fs s [] calls new)
    → AllBring fs s [] calls new runs → HasAllStorage fs.parts new

-- whatever came back: where nothing stayed away in the end, and frames tell their parts, no storage was made anew
abbrev pub LosslessRunsKeepStorage : (F B O : Type 0) → Type 0
LosslessRunsKeepStorage F B O = (fs : Frames F B) (s : Setting) (new : BoardState) (calls : List (Call F B O)) → TellParts fs.parts → Runs fs s [] calls new
    → has_lost new ≡ false → is_never_regrown (past new) ≡ true

-- nothing, or one move of the role; nothing where there is none
abbrev pub IsAddedBy : Option ℕ → BoardState → Type 0
IsAddedBy (Some r) added = IsMoveOf r added
IsAddedBy None added = added ≡ []

-- the entry is no Save, or one of this role
abbrev pub saves_as : Option ℕ → Entry → Bool
saves_as (Some r) (Save q v m k g) = q == r
saves_as None (Save q v m k g) = false
saves_as _ _ = true

-- A call adds nothing, or one move of its caller. Saves are logged by `save` alone.
abbrev pub CallsAddMoves : (F B O : Type 0) → Type 0
CallsAddMoves F B O = (fs : Frames F B) (s : Setting) (old new : BoardState) (call : Call F B O) → Gives fs s old call new
    → (added : BoardState) × (new ≡ added ++ old) × IsAddedBy (caller call) added × (list_all (saves_as (saver call)) (past added) ≡ true)
