use Rattle.std.proofs.Common.{ap, ◌∙◌}
use Rattle.std.specs.Int.{w16, to_le_bytes}
use Rattle.nd_roi.proofs.Bytes.{swapped_2}
use Rattle.nd_roi.proofs.sample.pair_bytes.Goals as goal

pub returns : goal.returns
returns c = c.to_le_bytes.ensures ∙ ap (to_le_bytes w16) c.swap_bytes.ensures ∙ swapped_2 c.args.pair
