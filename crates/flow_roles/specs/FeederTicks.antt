-- The calls of the feeder, and what the clock answered.
use Rattle.std.specs.Prelude.{◌≡◌, ℕ, ◌-◌, ◌^◌, min, true, false, List, [], ◌∷◌, length, get_or, Option, None, Result}
use Rattle.edge_traits.specs.Ticks.{Coming, Ticks}
use Rattle.frame_store.specs.Sealed.{Sealed}
use Rattle.flow_journal.specs.Setting.{Setting}
use Rattle.flow_journal.specs.Hands.{hand}
use Rattle.flow_journal.specs.Ended.{has_left}
use Rattle.board_rules.specs.declared.answers.Load.{Load}
use Rattle.board_rules.specs.declared.answers.NotYours.{NotYours}
use Rattle.board_rules.specs.declared.answers.Settled.{Settled}
use Rattle.board_rules.specs.States.{past}
use Rattle.board_rules.specs.Feeding.{LoadGives, IssueGives, CloseGives}
use Rattle.board_rules.specs.Leaving.{LeaveGives}
use Rattle.flow_roles.specs.Lasts.{IsActive, load_had_memory, said_load, said_given, said_close, said_leave}
use Rattle.flow_roles.specs.Passes.{Pass, Called}
use Rattle.flow_roles.specs.RoleMoves.{feeder_logs, IsFresh}
use Rattle.flow_roles.specs.declared.role_end.Round.{Round}
use Rattle.flow_roles.specs.declared.role_end.Round.TheVariants.{Again, End}
use Rattle.flow_roles.specs.RoleEnds.{feeder_ends, HasEnded}
use Rattle.flow_roles.specs.Feeder.{name_of, parts_of, HasAskedLoad}

-- The feeder's calls led from the first pass to the last. It loaded only with nothing in hand, and its loads were handed these ticks, one
-- each, THE NEWEST FIRST. Directly after a load for which there was no memory it left. One without a thread of its own left at once. After its
-- leave it made no call.
pub data Feeds (s : Setting) (first : Pass) : (ticks : List ℕ) → (last : Pass) → Type 0 where
  none : Feeds s first [] first
  loads : (ticks : List ℕ) (p q : Pass) (tick : ℕ) (a : Load (List ℕ)) → Feeds s first ticks p → IsActive p.said → hand 0 (past p.made) ≡ None
      → load_had_memory a ≡ true → Called s (λ old new. LoadGives parts_of length s old 0 tick a new) (said_load a tick) p q
      → Feeds s first (tick ∷ ticks) q
  issues : (ticks : List ℕ) (p q : Pass) (f : Sealed) (a : Result (Unit {0}) (NotYours Sealed)) → Feeds s first ticks p → IsActive p.said
      → Called s (λ old new. IssueGives name_of s old 0 f a new) (said_given a) p q → Feeds s first ticks q
  closes : (ticks : List ℕ) (p q : Pass) (a : Settled) → Feeds s first ticks p → IsActive p.said
      → Called s (λ old new. CloseGives s old 0 a new) (said_close a) p q → Feeds s first ticks q
  leaves : (ticks : List ℕ) (p wants q : Pass) (tick : ℕ) (a : Load (List ℕ)) → Feeds s first ticks p → IsActive p.said → hand 0 (past p.made) ≡ None
      → load_had_memory a ≡ false → Called s (λ old new. LoadGives parts_of length s old 0 tick a new) (said_load a tick) p wants
      → Called s (λ old new. LeaveGives s old 0 new) said_leave wants q → Feeds s first (tick ∷ ticks) q
  stays_away : (q : Pass) → Called s (λ old new. LeaveGives s old 0 new) said_leave first q → Feeds s first [] q

-- the clock answered these, THE NEWEST FIRST
abbrev pub Answered : Option Coming → List ℕ → Option Coming → Type 0
Answered old [] new = new ≡ old
Answered old (t ∷ ts) new = (mid : Option Coming) × Answered old ts mid × Ticks mid t new

-- each load, with nothing in hand, was handed the clock's next answer
abbrev pub FeedsByTheClock : Setting → (first last : Pass) → (old new : Option Coming) → Type 0
FeedsByTheClock s first last old new = (ticks : List ℕ) × Answered old ticks new × Feeds s first ticks last

-- the same up to the last call, which was a load that was answered so
abbrev pub FeedsUpTo : Setting → (first : Pass) → Load (List ℕ) → (last : Pass) → (old new : Option Coming) → Type 0
FeedsUpTo s first a last old new = (tick : ℕ) × (ticks : List ℕ) × Answered old (tick ∷ ticks) new
    × (asked : HasAskedLoad s tick a last) × Feeds s first ticks asked.0.before

-- what a round of the feeder leaves
abbrev pub HasFed : {O : Type 0} → Setting → (first last : Pass) → (old new : Option Coming) → Round Sealed (Load (List ℕ)) (List ℕ) O → Type 0
HasFed s first last old new (Again next) = FeedsUpTo s first next last old new
HasFed s first last old new (End left want) =
    HasEnded name_of parts_of length feeder_logs feeder_ends 0 last left want × FeedsByTheClock s first last old new

-- LAWS

-- From a pass that has made no call the loads are as many as these ticks, up to the greatest `u64`, and the tick of the last one is the newest of them:
-- 0 where there is none. Where the feeder made no leave, there was memory for each.
abbrev pub LoadsAreTicks : Type 0
LoadsAreTicks = (s : Setting) (first last : Pass) (ticks : List ℕ) → IsFresh 0 first → Feeds s first ticks last
    → (last.said.loads ≡ min (length ticks) (2 ^ 64 - 1)) × (last.said.tick ≡ get_or ticks 0 0)
    × (has_left 0 (past last.made) ≡ false → last.said.wanted ≡ 0)
