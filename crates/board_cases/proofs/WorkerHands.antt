-- What a worker's calls leave in its hand.
use Rattle.std.proofs.Common.{◌≡◌, ℕ, true, false, List, length, refl, Option, Some, None}
use Rattle.std.specs.Prelude.{is_some}
use Rattle.std.proofs.lemmas.Bool.{false≢true, true≢false}
use Rattle.nd_base.specs.Array.{StackValue}
use Rattle.nd_base.specs.GraphRules.{IsGraph}
use Rattle.nd_base.specs.declared.graph.Graph.{Graph}
use Rattle.frame_store.specs.Sealed.{Sealed}
use Rattle.flow_journal.specs.Setting.{Setting, is_node}
use Rattle.board_rules.specs.declared.answers.Take.{Take}
use Rattle.board_rules.specs.declared.answers.Take.TheVariants as take
use Rattle.board_rules.specs.declared.answers.Settled.TheVariants as settled
use Rattle.board_rules.specs.States.{BoardState, past}
use Rattle.board_rules.specs.RunMeasures.{run_setting}
use Rattle.board_rules.specs.Working.{take_refusal, asked, TakeGives, LendsJob, SettleGives}
use Rattle.flow_roles.specs.Lasts.{said_take, said_other}
use Rattle.flow_roles.specs.Passes.{Pass, Called}
use Rattle.flow_roles.specs.RoleMoves.{worker_logs, HasNothing}
use Rattle.flow_roles.specs.Feeder.{name_of, parts_of}
use Rattle.flow_roles.proofs.Calls.{here}
use Rattle.flow_roles.proofs.WorkerCalls.{is_still, take-still, take-goes, take-drops, take-works}
use Rattle.board_cases.specs.declared.seats.Job.{Job}
use Rattle.board_cases.specs.Hands.{is_still_take, job_of}
use Rattle.board_cases.specs.Seats.{HoldsJob}
use Rattle.board_cases.proofs.Staying.{job-still}

still-take : {F B O : Type 0} (a : Take F B O) → is_still_take a ≡ true → is_still a ≡ true
still-take take.Left h = refl
still-take take.Busy h = refl
still-take take.Ended h = refl
still-take take.Idle h = refl
still-take take.OutOfMemory h = refl
still-take (take.PoolDrop k z) h = absurd (false≢true h)
still-take (take.Job w input blank) h = absurd (false≢true h)

pub none-free : (g : Graph) (stack : StackValue) (r v : ℕ) (p : Pass) (o : Option (Job Sealed)) → is_some o ≡ false
    → HoldsJob g stack r v p o → HasNothing (worker_logs v) r p
none-free g stack r v p None is h = h
none-free g stack r v p (Some job) is h = absurd (true≢false is)

pub none-holds : (g : Graph) (stack : StackValue) (r v : ℕ) (p : Pass) (o : Option (Job Sealed)) → is_some o ≡ false
    → HasNothing (worker_logs v) r p → HoldsJob g stack r v p o
none-holds g stack r v p None is n = n
none-holds g stack r v p (Some job) is n = absurd (true≢false is)

module _ (g : Graph) (stack : StackValue) (r v : ℕ) (old new : Pass) where
  abbrev s : Setting
  s = run_setting g stack

  pub take-stays : {O : Type 0} (a : Take Sealed (List ℕ) O) (o : Option (Job Sealed)) → is_still_take a ≡ true
      → Called s (λ x y. TakeGives {F = Sealed} {B = List ℕ} {O = O} name_of parts_of length s x r v a y) (said_take a) old new
      → HoldsJob g stack r v old o → HoldsJob g stack r v new o
  take-stays {O} a o still c h =
      let f = λ (x y : BoardState). TakeGives {F = Sealed} {B = List ℕ} {O = O} name_of parts_of length s x r v a y in
      let b = here s f (said_take a) old new old.role refl c in
      job-still s f (said_take a) old new g stack r v o c
      (take-still {F = Sealed} {B = List ℕ} {O = O} name_of parts_of length s b new.seen r v (take_refusal s r v (past b))
      (asked s v (past b)) a (still-take a still) c.answer) h

  pub take-holds : {O : Type 0} (a : Take Sealed (List ℕ) O) → IsGraph g → is_node s v ≡ true → HasNothing (worker_logs v) r old
      → Called s (λ x y. TakeGives {F = Sealed} {B = List ℕ} {O = O} name_of parts_of length s x r v a y) (said_take a) old new
      → LendsJob {F = Sealed} {B = List ℕ} {O = O} parts_of length s r v a new.made → HoldsJob g stack r v new (job_of a)
  take-holds {O} take.Left sound node_ n c lent_ = take-goes {F = Sealed} {B = List ℕ} {O = O} name_of parts_of length s r v old new n take.Left refl c
  take-holds {O} take.Busy sound node_ n c lent_ = take-goes {F = Sealed} {B = List ℕ} {O = O} name_of parts_of length s r v old new n take.Busy refl c
  take-holds {O} take.Ended sound node_ n c lent_ = take-goes {F = Sealed} {B = List ℕ} {O = O} name_of parts_of length s r v old new n take.Ended refl c
  take-holds {O} take.Idle sound node_ n c lent_ = take-goes {F = Sealed} {B = List ℕ} {O = O} name_of parts_of length s r v old new n take.Idle refl c
  take-holds {O} take.OutOfMemory sound node_ n c lent_ =
      take-goes {F = Sealed} {B = List ℕ} {O = O} name_of parts_of length s r v old new n take.OutOfMemory refl c
  take-holds {O} (take.PoolDrop k z) sound node_ n c lent_ = take-drops {F = Sealed} {B = List ℕ} {O = O} name_of parts_of length s r v old new n k z c
  take-holds {O} (take.Job w input blank) sound node_ n c lent_ = take-works {O = O} g stack r v w input old new sound node_ n blank c lent_

pub settle-stays : (g : Graph) (stack : StackValue) (r v : ℕ) (old new : Pass) (o : Option (Job Sealed))
    → Called (run_setting g stack) (λ x y. SettleGives (run_setting g stack) x r v settled.NotYet y) said_other old new
    → HoldsJob g stack r v old o → HoldsJob g stack r v new o
settle-stays g stack r v old new o c h =
    job-still (run_setting g stack) (λ x y. SettleGives (run_setting g stack) x r v settled.NotYet y) said_other old new g stack r v o c c.answer.1 h
