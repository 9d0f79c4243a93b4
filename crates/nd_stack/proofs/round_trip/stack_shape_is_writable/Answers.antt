use Rattle.cdf_write.specs.WritableLaws.{shape_for-IsWritable}
use Rattle.nd_stack.proofs.Writable.{stack_of-IsWritable}
use Rattle.nd_stack.proofs.round_trip.stack_shape_is_writable.Goals as goal

pub returns-clause-read : goal.returns-clause-read
returns-clause-read c = stack_of-IsWritable

pub returns-clause-made : goal.returns-clause-made
returns-clause-made c = shape_for-IsWritable
