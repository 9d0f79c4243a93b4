-- A log whose newest entry is an emission.
use Rattle.std.specs.Prelude.{◌≡◌, ◌<◌, ℕ, true, false, [], ◌∷◌, length, map, drop}
use Rattle.flow_journal.specs.Setting.{children}
use Rattle.flow_journal.specs.Turns.{deals, has_just_emitted}
use Rattle.run_course.specs.Courses.{Coursed}
use Rattle.flow_journal.specs.declared.entry.Entry.{Entry}
use Rattle.flow_journal.specs.Setting.{Setting}
use Rattle.flow_journal.specs.Waiting.{waiting}
use Rattle.flow_journal.specs.Following as follow
use Rattle.board_rules.specs.Moving.{with_all}
use Rattle.nd_base.specs.declared.frame.FrameName.{FrameName}
use Rattle.flow_journal.specs.declared.entry.Entry.TheVariants.{Emit}
use Rattle.flow_journal.specs.declared.entry.Why.{Why}
use Rattle.flow_journal.specs.Pasts.{Past}
use Rattle.board_rules.specs.States.{BoardState, past, plain}

-- the newest entry is the emission of this array by the node
abbrev pub HasEmitted : ℕ → FrameName → BoardState → Type 0
HasEmitted v a b = (why : Why) × (rest : BoardState) × (b ≡ plain (Emit v a.maker a.index why) ∷ rest)

-- what came before it
abbrev pub before_emission : BoardState → Past
before_emission [] = []
before_emission (t ∷ b) = past b

-- a look lets one out, with its offers, and goes on with a look at what is left
pub record LetsOneOut (s : Setting) (v : ℕ) (old new : BoardState) : Type 0 where
  pub first : Entry
  pub look : follow.look s v (past old) ≡ first ∷ follow.look s v (past new)
  pub told : new ≡ with_all s 0 2 (first ∷ []) old
  pub fewer : length (waiting s v (past new)) < length (waiting s v (past old))

-- so many children were offered the array: what is left to be offered makes the rest
pub record OffersMade (s : Setting) (v : ℕ) (a : FrameName) (count : ℕ) (old new : Coursed) : Type 0 where
  pub rest : with_all s 0 1 (map (follow.offer a) (drop count (children s v))) new.told ≡ with_all s 0 1 (map (follow.offer a) (children s v)) old.told
  pub same_transit : new.transit ≡ old.transit
  pub together : (u : ℕ) → deals s u ≡ true → has_just_emitted u (past new.told) ≡ false
