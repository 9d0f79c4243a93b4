use Rattle.std.proofs.Common.{◌≡◌, Ok}
use Rattle.std.proofs.lemmas.Result.{err_from_is_err_and}
use Rattle.std.proofs.Common.{List}
use Rattle.cdf_read.specs.declared.head.HeadAttr.{HeadAttr}
use Rattle.cdf_read.specs.HeaderReading.{attr_at, Fails}
use Rattle.cdf_read.specs.ManyLaws.{many_at-step, many_at-fails}
use Rattle.cdf_read.proofs.parts.read_so_many_attrs.Goals as goal

pub returns-in_err-attr : goal.returns-in_err-attr
returns-in_err-attr c =
    let p = err_from_is_err_and c.from_residual.result c.from_residual.ensures.1 in
    let read = λ (earlier : List HeadAttr). attr_at c.args.total in
    let here : Fails c.in_err-attr.field-0.0 (read c.loop.attrs.items c.loop.rest.now) = c.in_err-attr.ensures in
    rw (p.1, p.2) (many_at-fails read c.args.count c.loop.counter c.loop.attrs.items c.loop.rest.now c.in_err-attr.field-0.0 _ c.loop-test.true here
    c.loop.invariant)

pub loop-preserved : goal.loop-preserved
loop-preserved c =
    let read = λ (earlier : List HeadAttr). attr_at c.args.total in
    let here : read c.loop.attrs.items c.loop.rest.now ≡ Ok (c.in_ok-attr.attr, c.in_ok-attr.after.now) = c.in_ok-attr.ensures in
    rw c.in_ok-push.ensures.items
    (many_at-step read c.args.count c.loop.counter c.loop.attrs.items c.loop.rest.now c.in_ok-attr.attr c.in_ok-attr.after.now _ c.loop-test.true here
    c.loop.invariant)
