use Rattle.flow_roles.proofs.Results.{index-of-stack, fires-for}
use Rattle.flow_roles.proofs.job.fires_at.Goals as goal

pub head-requires : goal.head-requires
head-requires g c = index-of-stack g.R.Run.stack c.args.stack.now c.index_of.result c.requires.stack c.index_of.ensures.there

pub returns : goal.returns
returns g c =
    fires-for g.R.Run.graph g.R.Run.stack c.args.stack.now c.args.node c.args.rule.now c.args.circular.now c.args.input.now.name c.head.result.now
    c.index_of.result c.trigger_fires.result
    c.requires.stack c.requires.rule c.requires.kind c.index_of.ensures.index c.index_of.ensures.there c.head.ensures c.trigger_fires.ensures
