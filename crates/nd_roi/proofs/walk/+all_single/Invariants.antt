use Rattle.std.proofs.Common.{length}
use Rattle.nd_roi.proofs.walk.+all_single.Given as goal

abbrev pub decreases-all_single : goal.decreases-all_single
decreases-all_single l = length l.axes.now
