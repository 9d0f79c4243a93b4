use Rattle.std.proofs.Common.{◌≡◌, ◌+◌, ◌*◌, ◌++◌, length, take, reverse}
use Rattle.nd_base.specs.Samples.{width}
use Rattle.nd_roi.specs.Walk.{covers_from}
use Rattle.nd_roi.specs.Walk.{line_bytes, lines, for_lines, concat_below}
use Rattle.nd_roi.proofs.walk.+fill_lines.Given as goal

abbrev pub decreases-fill_lines : goal.decreases-fill_lines
decreases-fill_lines l = length l.slower.now

abbrev pub invariant-loop-index : goal.invariant-loop-index
invariant-loop-index l = record {
  next : l.next ≡ l.at + l.index * for_lines (reverse l.faster) (l.job.line.size * width l.job.out_kind);
  written : take l.next l.out ≡ take l.at l.initial.out
      ++ concat_below l.index
      (λ index. lines (reverse l.faster) (λ at. line_bytes l.job.kind l.input l.job.line
      (reverse l.job.slower.now) l.job.scale l.job.out_kind at 0 l.job.line.size) (l.base + covers_from l.axis.cut index * l.axis.stride));
}
