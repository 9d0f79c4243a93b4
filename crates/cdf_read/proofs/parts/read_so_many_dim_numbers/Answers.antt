use Rattle.std.proofs.Common.{◌≡◌, Ok}
use Rattle.std.proofs.lemmas.Result.{err_from_is_err_and}
use Rattle.cdf_read.specs.HeaderReading.{dim_number_at, Fails}
use Rattle.cdf_read.specs.ManyLaws.{many_at-step, many_at-fails}
use Rattle.cdf_read.proofs.parts.read_so_many_dim_numbers.Goals as goal

pub returns-in_err-number : goal.returns-in_err-number
returns-in_err-number c =
    let p = err_from_is_err_and c.from_residual.result c.from_residual.ensures.1 in
    let read = dim_number_at c.args.total c.args.dims.now c.args.var in
    let here : Fails c.in_err-number.field-0.0 (read c.loop.numbers.items c.loop.rest.now) = rw (← c.deref.ensures.value) c.in_err-number.ensures in
    rw (p.1, p.2) (many_at-fails read c.args.count c.loop.counter c.loop.numbers.items c.loop.rest.now c.in_err-number.field-0.0 _ c.loop-test.true here
    c.loop.invariant)

pub loop-preserved : goal.loop-preserved
loop-preserved c =
    let read = dim_number_at c.args.total c.args.dims.now c.args.var in
    let here : read c.loop.numbers.items c.loop.rest.now ≡ Ok (c.in_ok-number.number, c.in_ok-number.after.now) =
    rw (← c.deref.ensures.value) c.in_ok-number.ensures in
    rw c.in_ok-push.ensures.items
    (many_at-step read c.args.count c.loop.counter c.loop.numbers.items c.loop.rest.now c.in_ok-number.number c.in_ok-number.after.now _ c.loop-test.true
    here c.loop.invariant)
