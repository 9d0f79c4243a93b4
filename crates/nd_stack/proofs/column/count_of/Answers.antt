use Rattle.std.proofs.Common.{◌≡◌, ◌+◌, ◌*◌, arith, drop, get_or, max}
use Rattle.cdf_read.specs.Places.{value_count, dim_length}
use Rattle.cdf_read.specs.PlaceLaws.{size_step, size_most}
use Rattle.nd_stack.proofs.column.count_of.Goals as goal

pub loop-number-preserved : goal.loop-number-preserved
loop-number-preserved c =
    let dims = c.args.dims.now in
    let numbers = c.args.numbers.now in
    let i = c.loop-number.number-index in
    let factor : c.from-count.result ≡ max (dim_length dims (get_or numbers i 0)) 1 = grind arith in
    size_step dims numbers i c.loop-number.count c.from-count.result (value_count dims numbers) c.loop-number-test.true factor c.loop-number.invariant

pub overflow_mul-count : goal.overflow_mul-count
overflow_mul-count c =
    let dims = c.args.dims.now in
    let numbers = c.args.numbers.now in
    let i = c.loop-number.number-index in
    let factor : c.from-count.result ≡ max (dim_length dims (get_or numbers i 0)) 1 = grind arith in
    let more =
    size_step dims numbers i c.loop-number.count c.from-count.result (value_count dims numbers) c.loop-number-test.true factor c.loop-number.invariant in
    omega (arith, c.requires, size_most dims (drop (i + 1) numbers) (c.loop-number.count * c.from-count.result) (value_count dims numbers) more)
