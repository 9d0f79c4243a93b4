use Rattle.std.proofs.Common.{length, ◌∙◌, ap}
use Rattle.std.proofs.lemmas.List.{length-map}
use Rattle.chain_plain.specs.OneThread.{fires_at}
use Rattle.chain_plain.proofs.outputs.windowed.Goals as goal

pub passed_positions-requires : goal.passed_positions-requires
passed_positions-requires c = record {
  positive = c.requires.rule.post.0;
  flags = ap length (c.deref.ensures.value ∙ c.in_ok-fired.ensures) ∙ length-map c.args.accepted.now (fires_at c.args.rule.now c.args.stack.now.arrays);
}
