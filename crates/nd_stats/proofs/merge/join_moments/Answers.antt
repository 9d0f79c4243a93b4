use Rattle.nd_stats.proofs.Joins.{room_sum, moment_sum}
use Rattle.nd_stats.proofs.merge.join_moments.Goals as goal

pub returns : goal.returns
returns c =
    let one = c.args.m.now in
    let two = c.args.later.now in
    rw (
      room_sum one.m0 two.m0 c.requires.one.m0 c.requires.two.m0,
      moment_sum one.mx two.mx c.requires.one.mx c.requires.two.mx,
      moment_sum one.my two.my c.requires.one.my c.requires.two.my,
    )
