use Rattle.std.proofs.Common.{◌≡◌, ◌+ℤ◌, map, take, Some}
use Rattle.std.specs.Int.{int_min, int_max}
use Rattle.lane_kernels.specs.Lanes.{offset}
use Rattle.lane_kernels.proofs.Ends.{one_of}
use Rattle.lane_kernels.proofs.extremes.lane_ends.Given as goal

abbrev pub invariant-loop-k : goal.invariant-loop-k
invariant-loop-k l = record {
  low : Some (l.low +ℤ offset l.kind) ≡ one_of int_min (map (λ x. x +ℤ offset l.kind) (take l.k l.lows));
  high : Some (l.high +ℤ offset l.kind) ≡ one_of int_max (map (λ x. x +ℤ offset l.kind) (take l.k l.highs));
}
