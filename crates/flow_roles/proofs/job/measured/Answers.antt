use Rattle.std.proofs.Common.{rules, w32, FitsSigned}
use Rattle.std.proofs.lemmas.Int.{to_z-of_z}
use Rattle.flow_roles.proofs.Results.{input-is, stats-rule, index-of-stack, measure-for}
use Rattle.flow_roles.proofs.job.measured.Goals as goal

pub head-requires : goal.head-requires
head-requires g c = index-of-stack g.R.Run.stack c.args.stack.now c.index_of.result c.requires.stack c.index_of.ensures.there

pub measure-requires-clause-rule : goal.measure-requires-clause-rule
measure-requires-clause-rule g c = stats-rule g.R.Run.graph c.args.node c.args.rule.now c.args.stats.now c.requires.graph c.requires.rule c.requires.kind

pub measure-requires-clause-dimensions : goal.measure-requires-clause-dimensions
measure-requires-clause-dimensions g c = rw c.as_slice.ensures c.made_by-from.ensures.dims.dimensions

pub measure-requires-clause-few : goal.measure-requires-clause-few
measure-requires-clause-few g c = rw c.as_slice.ensures c.made_by-from.ensures.dims.few

pub measure-requires-clause-samples : goal.measure-requires-clause-samples
measure-requires-clause-samples g c =
    let i =
    input-is g.R.Run.graph g.R.Run.stack c.args.node c.args.rule.now c.made_by-from.result.now c.args.input.now c.samples.result.now
    c.requires.graph c.made_by-from.ensures.stack
    c.requires.rule c.made_by-from.ensures.shape c.requires.comes c.samples.ensures.content in
    rw c.as_slice.ensures i.size

pub returns : goal.returns
returns g c =
    let fits : FitsSigned w32 c.head.result.now.id = search rules in
    let i =
    input-is g.R.Run.graph g.R.Run.stack c.args.node c.args.rule.now c.made_by-from.result.now c.args.input.now c.samples.result.now
    c.requires.graph c.made_by-from.ensures.stack
    c.requires.rule c.made_by-from.ensures.shape c.requires.comes c.samples.ensures.content in
    measure-for g.R.Run.graph g.R.Run.stack c.args.stack.now c.args.node c.args.rule.now c.args.stats.now c.made_by-from.result.now c.args.input.now.name
    c.samples.result.now c.head.result.now c.index_of.result
    _ c.as_slice.result.now c.measure.result (to_z-of_z w32 c.head.result.now.id fits) c.as_slice.ensures c.requires.stack c.requires.rule c.requires.kind i
    c.index_of.ensures.index c.head.ensures c.measure.ensures
