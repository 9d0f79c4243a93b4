use Rattle.std.proofs.Common.{◌≡◌, ◌+◌, ◌-◌, ◌*◌, ◌≤◌, ◌++◌, take, reverse}
use Rattle.nd_base.specs.Samples.{width}
use Rattle.nd_roi.specs.Walk.{line_bytes}
use Rattle.nd_roi.proofs.walk.fill_line.Given as goal

abbrev pub invariant-loop-done : goal.invariant-loop-done
invariant-loop-done l = record {
  done : l.done ≤ l.size;
  next : l.next ≡ l.at + l.done * width l.job.out_kind;
  written : take l.next l.out ≡ take l.at l.initial.out
      ++ line_bytes l.job.kind l.input l.job.line (reverse l.job.slower.now) l.job.scale l.job.out_kind l.base 0 l.done;
}

abbrev pub decreases-loop-done : goal.decreases-loop-done
decreases-loop-done l = l.size - l.done
