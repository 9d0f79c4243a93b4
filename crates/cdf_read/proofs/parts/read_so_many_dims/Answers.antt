use Rattle.std.proofs.Common.{◌≡◌, Ok}
use Rattle.std.proofs.lemmas.Result.{err_from_is_err_and}
use Rattle.cdf_read.specs.HeaderReading.{dim_at, Fails}
use Rattle.cdf_read.specs.ManyLaws.{many_at-step, many_at-fails}
use Rattle.cdf_read.proofs.parts.read_so_many_dims.Goals as goal

pub returns-in_err-dim : goal.returns-in_err-dim
returns-in_err-dim c =
    let p = err_from_is_err_and c.from_residual.result c.from_residual.ensures.1 in
    let read = dim_at c.args.total in
    let here : Fails c.in_err-dim.field-0.0 (read c.loop.dims.items c.loop.rest.now) = rw (← c.deref.ensures.value) c.in_err-dim.ensures in
    rw (p.1, p.2) (many_at-fails read c.args.count c.loop.counter c.loop.dims.items c.loop.rest.now c.in_err-dim.field-0.0 _ c.loop-test.true here
    c.loop.invariant)

pub loop-preserved : goal.loop-preserved
loop-preserved c =
    let read = dim_at c.args.total in
    let here : read c.loop.dims.items c.loop.rest.now ≡ Ok (c.in_ok-dim.dim, c.in_ok-dim.after.now) = rw (← c.deref.ensures.value) c.in_ok-dim.ensures in
    rw c.in_ok-push.ensures.items
    (many_at-step read c.args.count c.loop.counter c.loop.dims.items c.loop.rest.now c.in_ok-dim.dim c.in_ok-dim.after.now _ c.loop-test.true here
    c.loop.invariant)
