use Rattle.std.proofs.Common.{◌+◌, rules}
use Rattle.side_threads.proofs.each.+each.Goals as goal

pub each_beside-one_beside-requires-clause-first : goal.each_beside-one_beside-requires-clause-first
each_beside-one_beside-requires-clause-first g t c κs within = λ has p at. c.requires.accepts 0 has p (search rules) (search rules)

pub each_beside-one_beside-requires-clause-accepts : goal.each_beside-one_beside-requires-clause-accepts
each_beside-one_beside-requires-clause-accepts g t c κs within = λ k has p low is. c.requires.accepts (k + 1) has p (search rules) (search rules)
