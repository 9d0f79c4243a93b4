use Rattle.std.proofs.Common.{◌≡◌, ◌≤◌, ◌+◌, List, [], ◌∷◌, ◌++◌, length, length-append, arith, Ok}
use Rattle.std.proofs.lemmas.List.Elements.{All-push}
use Rattle.std.proofs.lemmas.Result.{err_from_is_err_and}
use Rattle.cdf_read.specs.declared.head.HeadVar.{HeadVar}
use Rattle.cdf_read.specs.HeaderReading.{var_at, Fails}
use Rattle.cdf_read.specs.Places.{var_size}
use Rattle.cdf_read.specs.ManyLaws.{many_at-step, many_at-fails}
use Rattle.cdf_read.proofs.parts.read_so_many_vars.Goals as goal

pub returns-in_err-var-clause-gives : goal.returns-in_err-var-clause-gives
returns-in_err-var-clause-gives c =
    let p = err_from_is_err_and c.from_residual.result c.from_residual.ensures.1 in
    let read = λ (earlier : List HeadVar). var_at c.args.form c.args.total c.args.dims.now (length earlier) in
    let here : Fails c.in_err-var.field-0.0 (read c.loop-number.vars.items c.loop-number.rest.now) =
    rw c.loop-number.invariant.so_far c.in_err-var.ensures.gives in
    rw (p.1, p.2) (many_at-fails read c.args.count c.loop-number.number c.loop-number.vars.items c.loop-number.rest.now c.in_err-var.field-0.0 _
    c.loop-number-test.true here c.loop-number.invariant.left)

pub loop-number-preserved : goal.loop-number-preserved
loop-number-preserved c =
    let dims = c.args.dims.now in
    let vars = c.loop-number.vars.items in
    let var = c.in_ok-var.var in
    let read = λ (earlier : List HeadVar). var_at c.args.form c.args.total dims (length earlier) in
    let here : read vars c.loop-number.rest.now ≡ Ok (var, c.in_ok-var.after.now) = rw c.loop-number.invariant.so_far c.in_ok-var.ensures.gives in
    let left = many_at-step read c.args.count c.loop-number.number vars c.loop-number.rest.now var c.in_ok-var.after.now _ c.loop-number-test.true here
    c.loop-number.invariant.left in
    let so_far : length (vars ++ var ∷ []) ≡ c.loop-number.number + 1 = omega (arith, length-append vars (var ∷ []), c.loop-number.invariant.so_far) in
    let small = All-push (λ v. var_size dims v ≤ 4294967296) vars var c.loop-number.invariant.small c.in_ok-var.ensures.small in
    record {
      left = rw c.in_ok-push.ensures.items left;
      so_far = rw c.in_ok-push.ensures.items so_far;
      small = rw c.in_ok-push.ensures.items small;
    }
