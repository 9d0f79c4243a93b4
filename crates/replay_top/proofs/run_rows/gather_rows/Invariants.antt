use Rattle.std.proofs.Common.{◌≡◌, take}
use Rattle.std.specs.List.{flat_map}
use Rattle.nd_stats.specs.Row.{row}
use Rattle.replay_top.proofs.run_rows.gather_rows.Given as goal

-- the rows so far
abbrev pub invariant-loop-count : goal.invariant-loop-count
invariant-loop-count l = l.rows.items ≡ flat_map row (take l.count l.measures)
