use Rattle.std.proofs.Common.{◌*◌, ◌≤◌, ◌-◌, ◌/◌, length}
use Rattle.std.specs.Prelude.{unsigned_abs}
use Rattle.nd_base.specs.Samples.{numbers, width}
use Rattle.nd_stats.specs.Samples.{placed}
use Rattle.nd_stats.specs.Over.{IsOver}
use Rattle.nd_stats.proofs.over.part_over.Given as goal

abbrev pub invariant-loop-done : goal.invariant-loop-done
invariant-loop-done l = record {
  done : l.done ≤ length l.line / width l.kind;
  over : IsOver l.threshold (placed 0 (numbers l.kind l.done l.line)) l.over;
  few : l.over.count ≤ l.done;
  sum : unsigned_abs l.over.sum ≤ l.done * 4294967296;
  weighted : unsigned_abs l.over.weighted ≤ l.done * 70368744177664;
}

abbrev pub decreases-loop-done : goal.decreases-loop-done
decreases-loop-done l = l.count - l.done
