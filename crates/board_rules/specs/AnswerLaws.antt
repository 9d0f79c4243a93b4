-- LAWS of answers: at every board each call has one, and all that it may have lead to the same log.
use Rattle.std.specs.Prelude.{◌≡◌, ℕ, Bool, false, Result}
use Rattle.nd_base.specs.declared.frame.FrameName.{FrameName}
use Rattle.flow_journal.specs.Setting.{Setting}
use Rattle.board_rules.specs.declared.answers.Load.{Load}
use Rattle.board_rules.specs.declared.answers.Take.{Take}
use Rattle.board_rules.specs.declared.answers.Save.{Save}
use Rattle.board_rules.specs.declared.answers.Settled.{Settled}
use Rattle.board_rules.specs.declared.answers.Done.{Done}
use Rattle.board_rules.specs.declared.answers.NotYours.{NotYours}
use Rattle.board_rules.specs.declared.answers.Left.{Left}
use Rattle.board_rules.specs.declared.answers.NoReclaim.{NoReclaim}
use Rattle.flow_journal.specs.declared.progress.Progress.{Progress}
use Rattle.board_rules.specs.States.{BoardState, past}
use Rattle.board_rules.specs.InHand.{IsOnePart, TellParts}
use Rattle.board_rules.specs.Runs.{Frames, Call, Loads, Issues, Takes, Puts, Settles, Saves, Saveds, Closes, Leaves, Reclaims, Asks, Finishes, Gives}
use Rattle.board_rules.specs.Runs.{wants_memory}

-- P holds of each call, as a function of its answer
pub record OfEachCall (F B O : Type 0) (P : (A : Type 0) → (A → Call F B O) → Type 0) : Type 0 where
  pub load : (r tick : ℕ) → P (Load B) (λ a. Loads r tick a)
  pub issue : (r : ℕ) (f : F) → P (Result (Unit {0}) (NotYours F)) (λ a. Issues r f a)
  pub take : (r v : ℕ) → P (Take F B O) (λ a. Takes r v a)
  pub put : (r : ℕ) (done : Done F) → P (Result (Unit {0}) (NotYours F)) (λ a. Puts r done a)
  pub settle : (r v : ℕ) → P Settled (λ a. Settles r v a)
  pub save : (r v : ℕ) → P (Save F) (λ a. Saves r v a)
  pub saved : (r : ℕ) (f : F) → P (Result (Unit {0}) (NotYours F)) (λ a. Saveds r f a)
  pub close : (r : ℕ) → P Settled (λ a. Closes r a)
  pub leave : (r : ℕ) → P (Unit {0}) (λ a. Leaves r)
  pub reclaim : (r : ℕ) (left : Left F B O) → P (Result (Unit {0}) (NoReclaim F B O)) (λ a. Reclaims r left a)
  pub progress : P Progress (λ a. Asks a)
  pub finished : P Bool (λ a. Finishes a)

-- one part of a frame of each name, and storage of each size
pub record Supply {F B : Type 0} (fs : Frames F B) : Type 0 where
  pub part : (a : FrameName) → (f : F) × (fs.name_of f ≡ a) × IsOnePart (fs.parts f)
  pub blank : (n : ℕ) → (b : B) × (fs.bytes_of b ≡ n)

-- some answer is allowed
abbrev pub HasAnswer : {F B O : Type 0} → Frames F B → Setting → BoardState → (A : Type 0) → (A → Call F B O) → Type 0
HasAnswer fs s old A call = (answer : A) × (new : BoardState) × Gives fs s old (call answer) new

-- all answers but want of memory leave the same log
abbrev pub HasOneLog : {F B O : Type 0} → Frames F B → Setting → BoardState → (A : Type 0) → (A → Call F B O) → Type 0
HasOneLog fs s old A call =
    (a b : A) (new other : BoardState) → wants_memory (call a) ≡ false → wants_memory (call b) ≡ false → Gives fs s old (call a) new
    → Gives fs s old (call b) other → past new ≡ past other

-- no contract asks for what can't be
abbrev pub AnswersExist : (F B O : Type 0) → Type 0
AnswersExist F B O = (fs : Frames F B) (s : Setting) (old : BoardState) → Supply fs → OfEachCall F B O (HasAnswer fs s old)

-- and where frames tell their parts, the calls alone tell the log
abbrev pub LogsAreTold : (F B O : Type 0) → Type 0
LogsAreTold F B O = (fs : Frames F B) (s : Setting) (old : BoardState) → TellParts fs.parts → OfEachCall F B O (HasOneLog fs s old)
