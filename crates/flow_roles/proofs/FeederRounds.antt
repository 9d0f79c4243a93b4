-- What a round of the feeder leaves.
use Rattle.std.proofs.Common.{◌≡◌, ℕ, true, false, List, ◌∷◌, length, refl, sym, subst, Option, None, Result}
use Rattle.edge_traits.specs.Ticks.{Coming, Ticks}
use Rattle.frame_store.specs.Sealed.{Sealed}
use Rattle.flow_journal.specs.Setting.{Setting}
use Rattle.board_rules.specs.declared.answers.Load.{Load}
use Rattle.board_rules.specs.States.{past}
use Rattle.board_rules.specs.declared.answers.NotYours.{NotYours}
use Rattle.board_rules.specs.Feeding.{LoadGives, HasRoom, IssueGives}
use Rattle.board_rules.specs.Leaving.{LeaveGives}
use Rattle.flow_roles.specs.Lasts.{IsActive, load_had_memory, said_load, said_given, said_leave}
use Rattle.flow_roles.specs.Passes.{Pass, Called}
use Rattle.flow_roles.specs.RoleMoves.{feeder_logs, HasNothing}
use Rattle.flow_roles.specs.RoleEnds.{feeder_ends}
use Rattle.flow_roles.specs.declared.role_end.Round.{Round}
use Rattle.flow_roles.specs.declared.role_end.Round.TheVariants.{End}
use Rattle.flow_roles.specs.Feeder.{name_of, parts_of}
use Rattle.flow_roles.specs.FeederTicks.{loads, issues, leaves, FeedsByTheClock, FeedsUpTo, HasFed}
use Rattle.flow_roles.proofs.RoleCalls.{ends-free}

module _ (s : Setting) (first p : Pass) (old new : Option Coming) where
  -- of an answer that is known
  pub answered : (a b : Load (List ℕ)) → a ≡ b → FeedsUpTo s first a p old new → FeedsUpTo s first b p old new
  answered a b is f = subst (λ (x : Load (List ℕ)). FeedsUpTo s first x p old new) is f

  -- the last load among the others, where there was memory for it
  pub went-on : (a : Load (List ℕ)) → load_had_memory a ≡ true → FeedsUpTo s first a p old new → FeedsByTheClock s first p old new
  went-on a had f =
      let asked = f.3.0 in
      (f.0 ∷ f.1, f.2, loads f.1 asked.before p f.0 a f.4 asked.active asked.nothing.free had asked.called)

  -- and with the leave after it, where there was none
  pub left-wanting : (q : Pass) (a : Load (List ℕ)) → load_had_memory a ≡ false → FeedsUpTo s first a p old new
      → Called s (λ x y. LeaveGives s x 0 y) said_leave p q → FeedsByTheClock s first q old new
  left-wanting q a want f c =
      let asked = f.3.0 in
      (f.0 ∷ f.1, f.2, leaves f.1 asked.before p q f.0 a f.4 asked.active asked.nothing.free want asked.called c)

  -- the feeder ends with nothing in hand
  pub fed-free : {O : Type 0} (round : Round Sealed (Load (List ℕ)) (List ℕ) O) → round ≡ End (record { input = None; made = None; blank = None }) false
      → HasNothing feeder_logs 0 p → feeder_ends p.said.last (past p.seen) false ≡ true → p.said.wanted ≡ 0 → FeedsByTheClock s first p old new
      → HasFed s first p old new round
  fed-free {O} round is n last_ never f =
      subst (λ (x : Round Sealed (Load (List ℕ)) (List ℕ) O). HasFed s first p old new x) (sym is) (
        ends-free {F = Sealed} {B = List ℕ} {O = O} name_of parts_of length s feeder_logs feeder_ends 0 p p
            (record { input = None; made = None; blank = None }) n.role n.moves n.free false last_ never refl,
        f,
      )

-- the next load, at the clock's next moment
pub loads-next : (s : Setting) (first p q : Pass) (old middle new : Option Coming) (tick : ℕ) (a : Load (List ℕ)) → FeedsByTheClock s first p old middle
    → Ticks middle tick new → HasNothing feeder_logs 0 p → IsActive p.said
    → Called s (λ x y. LoadGives parts_of length s x 0 tick a y) (said_load a tick) p q → HasRoom length s 0 a q.made → FeedsUpTo s first a q old new
loads-next s first p q old middle new tick a f ticks n active c room =
    (tick, f.0, (middle, f.1, ticks), (record { before = p; nothing = n; active = active; called = c }, room), f.2)

-- an issue among the other calls
pub issues-then : (s : Setting) (first p q : Pass) (old new : Option Coming) (f : Sealed) (a : Result (Unit {0}) (NotYours Sealed)) → IsActive p.said
    → Called s (λ x y. IssueGives name_of s x 0 f a y) (said_given a) p q → FeedsByTheClock s first p old new → FeedsByTheClock s first q old new
issues-then s first p q old new f a active c fed = (fed.0, fed.1, issues fed.0 p q f a fed.2 active c)
