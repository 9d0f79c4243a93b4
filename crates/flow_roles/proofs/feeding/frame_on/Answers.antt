use Rattle.std.proofs.Common.{length}
use Rattle.flow_roles.proofs.Results.{frame-holds, frame-few, frame-fits}
use Rattle.flow_roles.proofs.feeding.frame_on.Goals as goal

pub filled-requires-clause-few : goal.filled-requires-clause-few
filled-requires-clause-few g c = frame-few c.args.stack.now (length c.frame.result.now) c.shape-shape.ensures.sound c.frame.ensures.size

pub filled-requires-clause-room : goal.filled-requires-clause-room
filled-requires-clause-room g c = frame-fits c.args.stack.now (length c.frame.result.now) (length c.args.blank) c.frame.ensures.size c.requires.room

pub filled-requires-clause-content : goal.filled-requires-clause-content
filled-requires-clause-content g c =
    frame-holds g.R.Run.graph g.R.Run.stack c.args.stack.now c.args.index c.frame.result.now c.requires.stack c.shape-shape.ensures.sound c.requires.frame
    c.frame.ensures.samples c.frame.ensures.size
