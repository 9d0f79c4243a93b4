-- Arrays that go out of a node.
use Rattle.std.specs.Prelude.{◌≡◌, ◌≢◌, ◌<◌, ℕ, true, false, [], ◌∷◌, length, map, List}
use Rattle.flow_journal.specs.Setting.{Setting}
use Rattle.flow_journal.specs.Turns.{deals, has_just_emitted}
use Rattle.run_course.specs.Courses.{Coursed}
use Rattle.flow_journal.specs.declared.entry.Entry.{Entry}
use Rattle.flow_journal.specs.Waiting.{waiting, least_first}
use Rattle.nd_base.specs.declared.frame.FrameName.{FrameName}
use Rattle.flow_journal.specs.declared.entry.Why.{Why}
use Rattle.flow_journal.specs.Pasts.{Past}
use Rattle.board_rules.specs.States.{past, plain}
use Rattle.flow_journal.specs.declared.entry.Why.TheVariants.{Flush}
use Rattle.flow_journal.specs.Following.{emit}

-- no other node's offer comes next
abbrev pub OnlyDealt : Setting → ℕ → Past → Type 0
OnlyDealt s v P = (u : ℕ) → u ≢ v → deals s u ≡ true → has_just_emitted u P ≡ false

-- all that waits goes out, the least first
abbrev pub flush : Setting → ℕ → Past → List Entry
flush s v P = map (λ w. emit v Flush w.array) (least_first s (waiting s v P))

-- The least waiting one goes out of the sort list of a node: it is logged, and on its way. What is to go out, by a look or by a flush, is
-- that one, and then what is to go out behind it.
pub record LeavesList (s : Setting) (v : ℕ) (outs : Past → List Entry) (a : FrameName) (old new : Coursed) : Type 0 where
  pub why : Why
  pub first : outs (past old.told) ≡ emit v why a ∷ outs (emit v why a ∷ past old.told)
  pub fewer : length (waiting s v (emit v why a ∷ past old.told)) < length (waiting s v (past old.told))
  pub moves : new ≡ record { told = plain (emit v why a) ∷ old.told; transit = a ∷ [] }
