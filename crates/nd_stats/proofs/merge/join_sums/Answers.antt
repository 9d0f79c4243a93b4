use Rattle.nd_stats.proofs.Joins.{room_sum}
use Rattle.nd_stats.proofs.merge.join_sums.Goals as goal

pub returns : goal.returns
returns c =
    let one = c.args.m.now in
    let two = c.args.later.now in
    rw (room_sum one.total two.total c.requires.one.total c.requires.two.total, room_sum one.border two.border c.requires.one.border c.requires.two.border)
