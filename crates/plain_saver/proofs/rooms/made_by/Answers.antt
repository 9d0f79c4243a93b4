use Rattle.chain_plain.specs.ContentBytes.{maker-sound}
use Rattle.plain_saver.proofs.rooms.made_by.Goals as goal

pub returns-clause-dims : goal.returns-clause-dims
returns-clause-dims c =
    maker-sound c.args.plan.now.graph c.args.stack.now c.maker_for.result.now c.args.node c.shape-shape.ensures.sound c.maker_for.ensures.shape
