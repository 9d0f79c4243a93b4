use Rattle.std.proofs.Common.{◌≡◌, ◌+◌, ◌*◌, ◌≤◌, ◌^◌, arith, drop, get_or, max, refl}
use Rattle.std.proofs.lemmas.Nat.{mul-le}
use Rattle.cdf_read.specs.Places.{value_count, dim_length}
use Rattle.cdf_read.specs.PlaceLaws.{size_step, size_most}
use Rattle.cdf_read.proofs.place.span_more_than.Goals as goal

pub returns-then-count-from : goal.returns-then-count-from
returns-then-count-from c =
    let dims = c.args.dims.now in
    let numbers = c.args.numbers.now in
    let most = size_most dims (drop c.loop-number.number-index numbers) c.loop-number.count (value_count dims numbers) c.loop-number.invariant.whole in
    (λ _. omega (arith, most, c.if-count-from.true, c.from.ensures), λ _. refl)

pub loop-number-preserved : goal.loop-number-preserved
loop-number-preserved c =
    let dims = c.args.dims.now in
    let numbers = c.args.numbers.now in
    let i = c.loop-number.number-index in
    let factor : c.from-count.result ≡ max (dim_length dims (get_or numbers i 0)) 1 = grind arith in
    let few : c.from-count.result ≤ 2 ^ 32 = grind arith in
    let many : c.loop-number.count ≤ 2 ^ 64 = omega (arith, c.if-count-from.false, c.from.ensures, c.ranges.i.fits) in
    record {
      whole = size_step dims numbers i c.loop-number.count c.from-count.result (value_count dims numbers) c.loop-number-test.true factor c.loop-number.invariant.whole;
      small = mul-le c.loop-number.count c.from-count.result (2 ^ 64) (2 ^ 32) many few;
    }
