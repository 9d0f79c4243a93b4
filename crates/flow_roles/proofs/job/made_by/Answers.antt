use Rattle.chain_plain.specs.ContentBytes.{maker-sound}
use Rattle.flow_roles.proofs.Results.{plan-sound, plan-own, maker-own, stack-sound}
use Rattle.flow_roles.proofs.job.made_by.Goals as goal

pub maker_for-requires-clause-graph : goal.maker_for-requires-clause-graph
maker_for-requires-clause-graph g c = plan-sound g.R.Run.graph g.R.Run.stack c.args.plan.now c.requires.plan c.requires.graph

pub maker_for-requires-clause-plan : goal.maker_for-requires-clause-plan
maker_for-requires-clause-plan g c = plan-own g.R.Run.graph g.R.Run.stack c.args.stack.now c.args.plan.now c.requires.plan c.requires.stack

pub returns-clause-shape : goal.returns-clause-shape
returns-clause-shape g c =
    maker-own g.R.Run.graph g.R.Run.stack c.args.stack.now c.args.plan.now c.maker_for.result.now c.args.node c.requires.plan
    c.requires.stack c.maker_for.ensures.shape

pub returns-clause-dims : goal.returns-clause-dims
returns-clause-dims g c =
    let made =
    maker-own g.R.Run.graph g.R.Run.stack c.args.stack.now c.args.plan.now c.maker_for.result.now c.args.node c.requires.plan
    c.requires.stack c.maker_for.ensures.shape in
    maker-sound g.R.Run.graph g.R.Run.stack c.maker_for.result.now c.args.node
    (stack-sound g.R.Run.stack c.args.stack.now c.requires.stack c.shape-shape.ensures.sound) made

pub returns-clause-stack : goal.returns-clause-stack
returns-clause-stack g c = stack-sound g.R.Run.stack c.args.stack.now c.requires.stack c.shape-shape.ensures.sound
