use Rattle.std.proofs.Common.{◌≡◌, length, map, take}
use Rattle.flow_journal.specs.Setting.{node}
use Rattle.flow_journal.specs.Queued.{queued}
use Rattle.board_rules.specs.RunMeasures.{run_setting}
use Rattle.board_rules.specs.States.{past}
use Rattle.flow_emit.proofs.emission.queues_of.Given as goal

-- so many are filled
abbrev pub invariant-loop-place : goal.invariant-loop-place
invariant-loop-place g l =
    (length l.queues.queued ≡ 32)
    × (length l.queues.sizes ≡ 32)
    × (take l.place l.queues.queued ≡ map (λ v. length (queued v (past l.course.told))) (take l.place l.nodes))
    × (take l.place l.queues.sizes ≡ map (λ v. (node (run_setting g.F.Of.Run.graph g.F.Of.Run.stack) v).queue) (take l.place l.nodes))
