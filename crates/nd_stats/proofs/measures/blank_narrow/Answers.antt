use Rattle.std.proofs.Common.{rules, ◌≡◌, ◌∙◌, pos, replicate}
use Rattle.nd_base.specs.Places.{size_in}
use Rattle.nd_stats.proofs.Pieces.{table-replicate}
use Rattle.nd_stats.proofs.measures.blank_narrow.Goals as goal

pub returns-in_ok-sums : goal.returns-in_ok-sums
returns-in_ok-sums c = λ wanted narrow.
    let e : c.in_ok-sums.sums.items ≡ replicate (size_in c.args.dims.now 0) (pos 0) = search rules in e ∙ table-replicate 0 (size_in c.args.dims.now 0)
