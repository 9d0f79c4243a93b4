use Rattle.std.proofs.Common.{pos, arith}
use Rattle.std.proofs.lemmas.List.{ext_get_or}
use Rattle.nd_stats.proofs.profiles.widen.Goals as goal

pub returns : goal.returns
returns c =
    ext_get_or (pos 0) c.loop-k.sums c.args.narrow.now c.loop-k.invariant.long
    (λ i h. c.loop-k.invariant.same i (omega (arith, h, c.loop-k.invariant.long, c.loop-k-test.false)))
