use Rattle.std.proofs.Common.{◌≡◌, ◌≤◌, ◌+◌, ◌*◌, ◌-◌, ◌/◌, length}
use Rattle.nd_base.specs.Samples.{numbers, width}
use Rattle.nd_stats.specs.Samples.{placed}
use Rattle.nd_stats.specs.Spots.{IsSpot}
use Rattle.nd_stats.specs.Running.{sums_along, AreWithin}
use Rattle.nd_stats.proofs.profiles.add_narrow_lines.Given as goal

abbrev pub invariant-loop-done : goal.invariant-loop-done
invariant-loop-done l = record {
  done : l.done ≤ length l.samples / width l.kind;
  parts : l.parts ≤ 32768;
  some : l.parts ≤ l.done;
  place : l.spot.place ≡ l.from + l.done;
  spot : IsSpot l.rule.border l.dims l.spot;
  columns : l.columns ≡ sums_along l.dims 0 (placed l.from (numbers l.kind l.done l.samples));
  room : AreWithin (l.parts * 65535) l.columns;
  rows : l.rows ≡ sums_along l.dims 1 (placed l.from (numbers l.kind l.done l.samples));
}

abbrev pub decreases-loop-done : goal.decreases-loop-done
decreases-loop-done l = l.count - l.done
