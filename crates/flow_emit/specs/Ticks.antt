-- The looks at sort lists that a tick calls for.
use Rattle.std.specs.Prelude.{◌≡◌, ℕ, List, [], drop, if◌then◌else◌}
use Rattle.std.specs.List.{flat_map}
use Rattle.flow_journal.specs.declared.entry.Entry.{Entry}
use Rattle.flow_journal.specs.Setting.{Setting, is_sorted, node_numbers}
use Rattle.flow_journal.specs.Pasts.{Past}
use Rattle.flow_journal.specs.Following.{look}
use Rattle.board_rules.specs.States.{BoardState, past}
use Rattle.board_rules.specs.Moving.{with_all}
use Rattle.run_course.specs.Courses.{Coursed}

-- a look at each of these nodes that has a sort list, all from one past
abbrev pub looks : Setting → Past → List ℕ → List Entry
looks s P vs = flat_map (λ v. if is_sorted s v then look s v P else []) vs

-- the board once each node with a sort list was looked at
abbrev pub all_looked : Setting → BoardState → BoardState
all_looked s b = with_all s 0 2 (looks s (past b) (node_numbers s)) b

-- so many nodes were looked at: the looks at the others make the rest
pub record LooksMade (s : Setting) (count : ℕ) (old new : Coursed) : Type 0 where
  pub rest : with_all s 0 2 (looks s (past new.told) (drop count (node_numbers s))) new.told ≡ all_looked s old.told
  pub still : new.transit ≡ []
