use Rattle.std.proofs.Common.{◌+◌, arith}
use Rattle.nd_stats.proofs.Lanes.{zip2-same}
use Rattle.nd_stats.proofs.columns.plus.Goals as goal

pub returns : goal.returns
returns c = zip2-same _ (λ a b. a + b) c.args.one c.args.two (omega (arith, c.requires.long, c.requires.as_long))
    (λ k h. let few = c.requires.fit k (omega (arith, h, c.requires.long)) in omega (arith, few))
