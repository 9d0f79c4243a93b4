use Rattle.std.proofs.Common.{◌≤◌, ◌<◌, length, refl, arith, inl}
use Rattle.stack_file.specs.TurnedShapes.{oriented-HasSmallDims}
use Rattle.tool_commands.specs.Command.{Orient}
use Rattle.tool_commands.proofs.Leads.{orient_one, orient_to}
use Rattle.std.proofs.lemmas.Result.{err_from_is_err_and}
use Rattle.tool_commands.proofs.Unread.{unread-to, unreading-at}
use Rattle.tool_commands.proofs.orient.orient.Goals as goal

pub returns-then-dims-lt2-clause-ends : goal.returns-then-dims-lt2-clause-ends
returns-then-dims-lt2-clause-ends g c =
    let s = c.in_ok-stack.stack in
    let few : length s.shape.dims < 2 = (rw (c.as_slice-dims.ensures, c.shape.ensures.value) at c.if-dims-lt2.true) in
    (orient_one _ c.args.mode c.args.stack.now c.args.name.now s c.in_ok-stack.ensures.ok few, (refl, refl))

pub write_changed-requires-clause-small : goal.write_changed-requires-clause-small
write_changed-requires-clause-small g c = oriented-HasSmallDims c.args.mode c.in_ok-stack.stack.shape c.in_ok-stack.ensures.kept.dims

pub returns-clause-ends : goal.returns-clause-ends
returns-clause-ends g c =
    let s = c.in_ok-stack.stack in
    let two : 2 ≤ length s.shape.dims = omega (arith, (rw (c.as_slice-dims.ensures, c.shape.ensures.value) at c.if-dims-lt2.false)) in
    c.write_changed.ensures.ends (g.L.Library.holds c.args.library.now) (Orient c.args.mode c.args.stack.now c.args.name.now)
    (orient_to _ c.args.mode c.args.stack.now c.args.name.now s c.in_ok-stack.ensures.ok two)

pub returns-in_err-stack-clause-unread : goal.returns-in_err-stack-clause-unread
returns-in_err-stack-clause-unread g c =
    let p = err_from_is_err_and c.from_residual.result c.from_residual.ensures.1 in
    rw (p.1, p.2) (unread-to _ _ (λ failed. inl failed) _ c.in_err-stack.ensures.unread)

pub returns-clause-unread : goal.returns-clause-unread
returns-clause-unread g c = unreading-at _ _ _ _ _ _ c.write_changed.ensures.cause
