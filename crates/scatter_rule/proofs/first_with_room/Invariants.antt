use Rattle.std.proofs.Common.{◌≡◌, ◌-◌, find}
use Rattle.std.specs.List.{range_with_len}
use Rattle.scatter_rule.specs.Rounds.{has_room}
use Rattle.scatter_rule.proofs.first_with_room.Given as goal

abbrev pub invariant-loop-place : goal.invariant-loop-place
invariant-loop-place l =
    find (has_room l.queued l.sizes) (range_with_len l.from (l.to - l.from)) ≡ find (has_room l.queued l.sizes) (range_with_len l.place (l.to - l.place))
