use Rattle.nd_stack.specs.ColumnLaws.{frame_stands}
use Rattle.nd_stack.proofs.read.frames_stand_where_their_values_do.Goals as goal

pub returns : goal.returns
returns c = frame_stands
