-- What goes out of a sort list, one after the other: `outs` tells it of a past, as a look or a flush does.
use Rattle.std.specs.Prelude.{◌≡◌, ◌<◌, ℕ, List, [], ◌∷◌, length}
use Rattle.flow_journal.specs.declared.entry.Entry.{Entry}
use Rattle.flow_journal.specs.Pasts.{Past}
use Rattle.flow_journal.specs.Setting.{Setting}
use Rattle.flow_journal.specs.Waiting.{waiting}
use Rattle.board_rules.specs.States.{BoardState, past}
use Rattle.board_rules.specs.Moving.{with_all}
use Rattle.run_course.specs.Courses.{Coursed}

-- the first goes out, with its offers, and what is left is still to go out
pub record OneOut (s : Setting) (v : ℕ) (outs : Past → List Entry) (old new : BoardState) : Type 0 where
  pub first : Entry
  pub goes : outs (past old) ≡ first ∷ outs (past new)
  pub told : new ≡ with_all s 0 2 (first ∷ []) old
  pub fewer : length (waiting s v (past new)) < length (waiting s v (past old))

-- so much went out: what is left makes the rest
pub record GoesOn (s : Setting) (outs : Past → List Entry) (old new : Coursed) : Type 0 where
  pub rest : with_all s 0 2 (outs (past new.told)) new.told ≡ with_all s 0 2 (outs (past old.told)) old.told
  pub still : new.transit ≡ []
