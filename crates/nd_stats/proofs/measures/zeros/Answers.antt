use Rattle.std.proofs.Common.{rules, ◌≡◌, ◌∙◌, pos, replicate}
use Rattle.nd_stats.proofs.Pieces.{table-replicate}
use Rattle.nd_stats.proofs.measures.zeros.Goals as goal

pub returns : goal.returns
returns c = let e : c.in_ok-sums.sums.items ≡ replicate c.args.count (pos 0) = search rules in e ∙ table-replicate 0 c.args.count
