use Rattle.std.proofs.Common.{◌≡◌, ◌+◌, ◌*◌, arith, drop, get_or, max}
use Rattle.cdf_read.specs.Places.{size_of, dim_length}
use Rattle.cdf_read.specs.PlaceLaws.{size_step, size_most}
use Rattle.cdf_read.proofs.size.size_within.Goals as goal

pub returns-then-size-gt-LARGEST-clause-none : goal.returns-then-size-gt-LARGEST-clause-none
returns-then-size-gt-LARGEST-clause-none c =
    let dims = c.args.dims.now in
    let numbers = c.args.numbers.now in
    let i = c.loop-number.number-index in
    let factor : c.from-size-in-loop-number.result ≡ max (dim_length dims (get_or numbers i 0)) 1 = grind arith in
    let more = size_step dims numbers i c.loop-number.size c.from-size-in-loop-number.result
    (size_of dims numbers c.args.kind) c.loop-number-test.true factor c.loop-number.invariant.whole in
    omega (
      arith,
      c.if-size-gt-LARGEST.true,
      size_most dims (drop (i + 1) numbers) (c.loop-number.size * c.from-size-in-loop-number.result) (size_of dims numbers c.args.kind) more,
    )

pub loop-number-preserved : goal.loop-number-preserved
loop-number-preserved c =
    let dims = c.args.dims.now in
    let numbers = c.args.numbers.now in
    let i = c.loop-number.number-index in
    let factor : c.from-size-in-loop-number.result ≡ max (dim_length dims (get_or numbers i 0)) 1 = grind arith in
    record {
      whole = size_step dims numbers i c.loop-number.size c.from-size-in-loop-number.result
          (size_of dims numbers c.args.kind) c.loop-number-test.true factor c.loop-number.invariant.whole;
      within = c.if-size-gt-LARGEST.false;
    }
