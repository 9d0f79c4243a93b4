use Rattle.nd_stats.proofs.Merges.{can_join, merged-joined}
use Rattle.nd_stats.proofs.merge.MeasureMerge.merge.Goals as goal

pub join-requires-clause-one : goal.join-requires-clause-one
join-requires-clause-one c = (can_join c.args.self.now c.args.later.now c.requires).0

pub join-requires-clause-two : goal.join-requires-clause-two
join-requires-clause-two c = (can_join c.args.self.now c.args.later.now c.requires).1

pub join-requires-clause-lengths : goal.join-requires-clause-lengths
join-requires-clause-lengths c = (can_join c.args.self.now c.args.later.now c.requires).2

pub returns : goal.returns
returns c = merged-joined c.args.self.now c.args.later.now _ c.join.ensures
