use Rattle.plain_saver.proofs.Places.{empty-cut}
use Rattle.plain_saver.proofs.rooms.Rooms.new.Goals as goal

pub returns-clause-cut : goal.returns-clause-cut
returns-clause-cut c = λ s. empty-cut c.args.plan.now.graph s _ c.loop-node.invariant.1
