-- What the feeder's calls leave in its hand.
use Rattle.std.proofs.Common.{◌≡◌, ℕ, true, false, List, length, refl, Option, Some, None}
use Rattle.std.specs.Prelude.{is_some}
use Rattle.std.proofs.lemmas.Bool.{false≢true, true≢false}
use Rattle.nd_base.specs.Array.{StackValue}
use Rattle.nd_base.specs.declared.graph.Graph.{Graph}
use Rattle.flow_journal.specs.Setting.{Setting}
use Rattle.flow_journal.specs.Accounts.{grant}
use Rattle.board_rules.specs.declared.answers.Load.{Load}
use Rattle.board_rules.specs.declared.answers.Load.TheVariants as load
use Rattle.board_rules.specs.declared.answers.Settled.TheVariants as settled
use Rattle.board_rules.specs.States.{BoardState, past}
use Rattle.board_rules.specs.RunMeasures.{run_setting}
use Rattle.board_rules.specs.Feeding.{load_refusal, LoadGives, HasRoom, CloseGives}
use Rattle.flow_roles.specs.Lasts.{said_load, said_close}
use Rattle.flow_roles.specs.Passes.{Pass, Called}
use Rattle.flow_roles.specs.RoleMoves.{feeder_logs, HasNothing}
use Rattle.flow_roles.specs.Feeder.{parts_of}
use Rattle.flow_roles.proofs.Calls.{here}
use Rattle.flow_roles.proofs.FeederCalls.{is_still, load-still, load-goes, load-refuses, load-loads}
use Rattle.board_cases.specs.declared.seats.LoadedFrame.{LoadedFrame}
use Rattle.board_cases.specs.Hands.{is_still_load, frame_of}
use Rattle.board_cases.specs.Seats.{HoldsFrame}
use Rattle.board_cases.proofs.Staying.{frame-still}

still-load : {B : Type 0} (a : Load B) → is_still_load a ≡ true → is_still a ≡ true
still-load load.Left h = refl
still-load load.Busy h = refl
still-load load.Ended h = refl
still-load load.NotYet h = refl
still-load load.OutOfMemory h = refl
still-load (load.Refused k z) h = absurd (false≢true h)
still-load (load.Loaded k blank) h = absurd (false≢true h)

pub none-free : (g : Graph) (stack : StackValue) (p : Pass) (o : Option LoadedFrame) → is_some o ≡ false → HoldsFrame g stack p o → HasNothing feeder_logs 0 p
none-free g stack p None is h = h
none-free g stack p (Some loaded) is h = absurd (true≢false is)

pub none-holds : (g : Graph) (stack : StackValue) (p : Pass) (o : Option LoadedFrame) → is_some o ≡ false → HasNothing feeder_logs 0 p → HoldsFrame g stack p o
none-holds g stack p None is n = n
none-holds g stack p (Some loaded) is n = absurd (true≢false is)

module _ (g : Graph) (stack : StackValue) (tick : ℕ) (old new : Pass) where
  abbrev s : Setting
  s = run_setting g stack

  pub load-stays : (a : Load (List ℕ)) (o : Option LoadedFrame) → is_still_load a ≡ true
      → Called s (λ x y. LoadGives parts_of length s x 0 tick a y) (said_load a tick) old new → HoldsFrame g stack old o
      → HoldsFrame g stack new o
  load-stays a o still c h =
      let f = λ (x y : BoardState). LoadGives parts_of length s x 0 tick a y in
      let b = here s f (said_load a tick) old new old.role refl c in
      frame-still s f (said_load a tick) old new g stack o c
      (load-still parts_of length s b new.seen 0 tick (load_refusal s 0 (past b)) (grant s (past b) (s.need 0)) a (still-load a still) c.answer) h

  pub load-holds : (a : Load (List ℕ)) → HasNothing feeder_logs 0 old
      → Called s (λ x y. LoadGives parts_of length s x 0 tick a y) (said_load a tick) old new → HasRoom length s 0 a new.made
      → HoldsFrame g stack new (frame_of a)
  load-holds load.Left n c room = load-goes parts_of length s tick old new n load.Left refl c
  load-holds load.Busy n c room = load-goes parts_of length s tick old new n load.Busy refl c
  load-holds load.Ended n c room = load-goes parts_of length s tick old new n load.Ended refl c
  load-holds load.NotYet n c room = load-goes parts_of length s tick old new n load.NotYet refl c
  load-holds load.OutOfMemory n c room = load-goes parts_of length s tick old new n load.OutOfMemory refl c
  load-holds (load.Refused k z) n c room = load-refuses parts_of length s tick old new n k z c
  load-holds (load.Loaded k blank) n c room = load-loads parts_of length s tick old new n k blank c room

  pub close-stays : (o : Option LoadedFrame) → Called s (λ x y. CloseGives s x 0 settled.NotYet y) (said_close settled.NotYet) old new
      → HoldsFrame g stack old o → HoldsFrame g stack new o
  close-stays o c h = frame-still s (λ x y. CloseGives s x 0 settled.NotYet y) (said_close settled.NotYet) old new g stack o c c.answer.1 h
