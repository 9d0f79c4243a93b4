use Rattle.std.proofs.Common.{arith}
use Rattle.nd_stack.proofs.Sizes.{values_size-most}
use Rattle.nd_stack.proofs.column.column_of.Goals as goal

pub overflow_mul-size : goal.overflow_mul-size
overflow_mul-size c =
    let whole = values_size-most c.args.header.now c.args.var.now in
    rw (c.frame_values.ensures, c.from.ensures, c.size_of_value.ensures.value) (omega (arith, whole, c.requires))
