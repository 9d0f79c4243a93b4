-- What any list of calls on a board comes to.
use Rattle.std.specs.Prelude.{◌≡◌, ℕ, ◌≤◌, Bool, true, false, List, [], ◌∷◌, Option, Some, None, Result, IsTrue}
use Rattle.nd_base.specs.Parts.{Parts}
use Rattle.nd_base.specs.declared.frame.FrameName.{FrameName}
use Rattle.nd_base.specs.declared.measure.Measure.{Measure}
use Rattle.flow_journal.specs.Setting.{Setting, last_role, is_node}
use Rattle.flow_journal.specs.Finished.{is_finished}
use Rattle.board_rules.specs.declared.answers.Load.{Load}
use Rattle.board_rules.specs.declared.answers.Take.{Take}
use Rattle.board_rules.specs.declared.answers.Save.{Save}
use Rattle.board_rules.specs.declared.answers.Load.TheVariants as load
use Rattle.board_rules.specs.declared.answers.Take.TheVariants as take
use Rattle.board_rules.specs.declared.answers.Save.TheVariants as save
use Rattle.board_rules.specs.declared.answers.Settled.{Settled}
use Rattle.board_rules.specs.declared.answers.Done.{Done}
use Rattle.board_rules.specs.declared.answers.NotYours.{NotYours}
use Rattle.board_rules.specs.declared.answers.Left.{Left}
use Rattle.board_rules.specs.declared.answers.NoReclaim.{NoReclaim}
use Rattle.flow_journal.specs.declared.progress.Progress.{Progress}
use Rattle.board_rules.specs.States.{BoardState, past}
use Rattle.board_rules.specs.Feeding.{LoadGives, MayIssue, IssueGives, CloseGives}
use Rattle.board_rules.specs.Working.{TakeGives, IsAtNode, MayPut, PutGives, SettleGives}
use Rattle.board_rules.specs.Saving.{SaveGives, MaySaved, SavedGives}
use Rattle.board_rules.specs.Leaving.{LeaveGives, MayReclaim, ReclaimGives}
use Rattle.flow_journal.specs.Notes.{progress_of}

-- what a run knows of its frames: F is their type, O that of the run, B that of blanks
pub record Frames (F B : Type 0) : Type 0 where
  pub name_of : F → FrameName
  pub parts : F → Option Parts
  pub bytes_of : B → ℕ
  pub measure_at : ℕ → FrameName → Option Measure

-- a call, with its arguments and its answer
pub data Call (F B O : Type 0) : Type 0 where
  Loads : (r tick : ℕ) (answer : Load B) → Call F B O
  Issues : (r : ℕ) (frame : F) (answer : Result (Unit {0}) (NotYours F)) → Call F B O
  Takes : (r v : ℕ) (answer : Take F B O) → Call F B O
  Puts : (r : ℕ) (done : Done F) (answer : Result (Unit {0}) (NotYours F)) → Call F B O
  Settles : (r v : ℕ) (answer : Settled) → Call F B O
  Saves : (r v : ℕ) (answer : Save F) → Call F B O
  Saveds : (r : ℕ) (frame : F) (answer : Result (Unit {0}) (NotYours F)) → Call F B O
  Closes : (r : ℕ) (answer : Settled) → Call F B O
  Leaves : (r : ℕ) → Call F B O
  Reclaims : (r : ℕ) (left : Left F B O) (answer : Result (Unit {0}) (NoReclaim F B O)) → Call F B O
  Asks : (answer : Progress) → Call F B O
  Finishes : (answer : Bool) → Call F B O

-- whose call it is; to ask is nobody's
abbrev pub caller : {F B O : Type 0} → Call F B O → Option ℕ
caller (Loads r tick answer) = Some r
caller (Issues r frame answer) = Some r
caller (Takes r v answer) = Some r
caller (Puts r done answer) = Some r
caller (Settles r v answer) = Some r
caller (Saves r v answer) = Some r
caller (Saveds r frame answer) = Some r
caller (Closes r answer) = Some r
caller (Leaves r) = Some r
caller (Reclaims r left answer) = Some r
caller (Asks answer) = None
caller (Finishes answer) = None

-- the role of a call that may log a Save
abbrev pub saver : {F B O : Type 0} → Call F B O → Option ℕ
saver (Saves r v answer) = Some r
saver _ = None

-- the answer is want of memory
abbrev pub load_wants : {B : Type 0} → Load B → Bool
load_wants load.OutOfMemory = true
load_wants _ = false

abbrev pub take_wants : {F B O : Type 0} → Take F B O → Bool
take_wants take.OutOfMemory = true
take_wants _ = false

abbrev pub save_wants : {F : Type 0} → Save F → Bool
save_wants save.OutOfMemory = true
save_wants _ = false

abbrev pub wants_memory : {F B O : Type 0} → Call F B O → Bool
wants_memory (Loads r tick answer) = load_wants answer
wants_memory (Takes r v answer) = take_wants answer
wants_memory (Saves r v answer) = save_wants answer
wants_memory _ = false

-- THE CONDITIONS OF A CALL
abbrev pub May : {F B O : Type 0} → Frames F B → Setting → BoardState → Call F B O → Type 0
May fs s b (Loads r tick answer) = r ≤ last_role s
May fs s b (Issues r frame answer) = (r ≤ last_role s) × MayIssue fs.name_of fs.parts b r frame
May fs s b (Takes r v answer) = (r ≤ last_role s) × IsTrue (is_node s v)
May fs s b (Puts r done answer) = (r ≤ last_role s) × IsAtNode s done × MayPut fs.name_of fs.parts fs.measure_at s b r done
May fs s b (Settles r v answer) = (r ≤ last_role s) × IsTrue (is_node s v)
May fs s b (Saves r v answer) = (r ≤ last_role s) × IsTrue (is_node s v)
May fs s b (Saveds r frame answer) = (r ≤ last_role s) × MaySaved fs.name_of fs.parts b r frame
May fs s b (Closes r answer) = r ≤ last_role s
May fs s b (Leaves r) = r ≤ last_role s
May fs s b (Reclaims r left answer) = (r ≤ last_role s) × MayReclaim fs.name_of fs.parts fs.bytes_of s b r left
May fs s b (Asks answer) = Unit {0}
May fs s b (Finishes answer) = Unit {0}

-- the call may answer so and leave the board so
abbrev pub Gives : {F B O : Type 0} → Frames F B → Setting → BoardState → Call F B O → BoardState → Type 0
Gives fs s old (Loads r tick answer) new = LoadGives fs.parts fs.bytes_of s old r tick answer new
Gives fs s old (Issues r frame answer) new = IssueGives fs.name_of s old r frame answer new
Gives fs s old (Takes r v answer) new = TakeGives fs.name_of fs.parts fs.bytes_of s old r v answer new
Gives fs s old (Puts r done answer) new = PutGives fs.name_of s old r done answer new
Gives fs s old (Settles r v answer) new = SettleGives s old r v answer new
Gives fs s old (Saves r v answer) new = SaveGives fs.name_of fs.parts s old r v answer new
Gives fs s old (Saveds r frame answer) new = SavedGives fs.name_of s old r frame answer new
Gives fs s old (Closes r answer) new = CloseGives s old r answer new
Gives fs s old (Leaves r) new = LeaveGives s old r new
Gives fs s old (Reclaims r left answer) new = ReclaimGives fs.name_of s old r left answer new
Gives fs s old (Asks answer) new = (answer ≡ progress_of s (past old)) × (new ≡ old)
Gives fs s old (Finishes answer) new = (answer ≡ is_finished s (past old)) × (new ≡ old)

-- these calls, one after the other, each with its conditions, lead from the one board to the other
abbrev pub Runs : {F B O : Type 0} → Frames F B → Setting → BoardState → List (Call F B O) → BoardState → Type 0
Runs fs s old [] new = new ≡ old
Runs fs s old (call ∷ calls) new = May fs s old call × ((mid : BoardState) × Gives fs s old call mid × Runs fs s mid calls new)
