-- The desk at which another role has left before the first call: its log has leaves alone.
use Rattle.std.specs.Prelude.{ℕ, ◌==◌, [], ◌∷◌, if◌then◌else◌}
use Rattle.flow_journal.specs.declared.entry.Entry.TheVariants.{Leave}
use Rattle.flow_journal.specs.Setting.{Setting, last_role}
use Rattle.board_rules.specs.States.{BoardState, plain}
use Rattle.flow_roles.specs.declared.last.Said.{Said}
use Rattle.flow_roles.specs.declared.left_desk.Stage.{Stage}
use Rattle.flow_roles.specs.declared.left_desk.Stage.TheVariants.{New, Told, Gone}
use Rattle.flow_roles.specs.declared.operation.DeskOp.{DeskOp}
use Rattle.flow_roles.specs.declared.operation.DeskOp.TheVariants as op
use Rattle.flow_roles.specs.Passes.{Pass}

-- who has left: the drain, and where the drain calls the feeder
abbrev pub other_role : Setting → ℕ → ℕ
other_role s r = if r == last_role s then 0 else last_role s

abbrev pub other_left : Setting → ℕ → BoardState
other_left s r = plain (Leave (other_role s r)) ∷ []

abbrev pub made_at : ℕ → Stage → BoardState
made_at r Gone = plain (Leave r) ∷ []
made_at r _ = []

abbrev pub seen_at : Setting → ℕ → Stage → BoardState
seen_at s r New = []
seen_at s r Told = other_left s r
seen_at s r Gone = plain (Leave r) ∷ other_left s r

abbrev pub pass_at : Setting → ℕ → Stage → Said → Pass
pass_at s r stage said = record { role = r; said = said; seen = seen_at s r stage; made = made_at r stage }

-- after a call other than a leave
abbrev pub told_by : Stage → Stage
told_by New = Told
told_by stage = stage

abbrev pub stage_after : {F : Type 0} → DeskOp F → Stage → Stage
stage_after (op.Leave r) stage = Gone
stage_after _ stage = told_by stage

-- how many have left, once the role was told
abbrev pub leaves_at : Stage → ℕ
leaves_at Gone = 2
leaves_at _ = 1
