use Rattle.std.proofs.Common.{ap, ◌∙◌}
use Rattle.std.specs.Int.{w32, to_le_bytes}
use Rattle.nd_roi.proofs.Bytes.{swapped_4}
use Rattle.nd_roi.proofs.sample.word_bytes.Goals as goal

pub returns : goal.returns
returns c = c.to_le_bytes.ensures ∙ ap (to_le_bytes w32) c.swap_bytes.ensures ∙ swapped_4 c.args.word
