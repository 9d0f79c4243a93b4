use Rattle.std.proofs.Common.{◌≡◌, ◌≤◌, None, length, ap, sym, subst, ◌∙◌}
use Rattle.std.proofs.lemmas.List.{length-map}
use Rattle.std.proofs.lemmas.Result.{err_from_is_err_and}
use Rattle.nd_base.specs.Array.{Array, StackValue}
use Rattle.nd_stack.specs.RoundTrip.{ReadsBack}
use Rattle.cdf_write.specs.Layout.{layout}
use Rattle.file_out.specs.Saving.{IsBegun}
use Rattle.stack_file.specs.ChangedStacks.{changed_shape, changed_stack, with_stack_file}
use Rattle.tool_commands.specs.Printed.{frames_line}
use Rattle.tool_commands.specs.StackFiles.{stack_limit}
use Rattle.tool_commands.proofs.StackEnds.{no_limit, ends-save, ends-printed}
use Rattle.tool_commands.proofs.stack_files.write_changed.Goals as goal

pub returns-in_err-save_stack-clause-ends : goal.returns-in_err-save_stack-clause-ends
returns-in_err-save_stack-clause-ends g c =
    let p = err_from_is_err_and c.from_residual-in_err-save_stack.result c.from_residual-in_err-save_stack.ensures.1 in
    let stack = c.args.stack.now in
    let change : Array → Array = g.C.Change.change c.args.change.now in
    let s : StackValue = changed_stack change (g.C.Change.dims c.args.change.now) stack in
    let held = g.K.Shelf.held c.args.shelf.now in
    let shape : c.in_ok-shape.shape ≡ s.shape =
    c.in_ok-shape.ensures ∙ ap (λ ds. changed_shape (λ _. ds) stack.shape) c.requires.dims in
    let count : length s.arrays ≡ length stack.arrays = length-map stack.arrays change in
    let unlimited : stack_limit c.in_ok-shape.shape c.frames.result ≡ None = no_limit _ _ (sym c.in_ok-within_limit.was ∙ c.within_limit.ensures) in
    let within : stack_limit s.shape (length s.arrays) ≡ None =
    ap (λ sh. stack_limit sh (length s.arrays)) (sym shape) ∙ ap (stack_limit c.in_ok-shape.shape) (count ∙ sym c.frames.ensures) ∙ unlimited in
    rw (p.1, p.2)
    (ends-save c.args.name.now s held (g.T.Sink.written c.args.out.now) within (g.K.Shelf.held c.save_stack.new.shelf) c.in_err-save_stack.field-0.0 _ _
    (subst (λ n. 1 ≤ n) (sym count) c.in_err-save_stack.ensures.some)
    (subst (λ sh. IsBegun held c.args.name.now (layout sh s.arrays) (g.K.Shelf.held c.save_stack.new.shelf)) shape c.in_err-save_stack.ensures.err)
    c.in_err-save_stack.ensures.cause)

pub returns-clause-ends : goal.returns-clause-ends
returns-clause-ends g c =
    let stack = c.args.stack.now in
    let change : Array → Array = g.C.Change.change c.args.change.now in
    let s : StackValue = changed_stack change (g.C.Change.dims c.args.change.now) stack in
    let held = g.K.Shelf.held c.args.shelf.now in
    let shape : c.in_ok-shape.shape ≡ s.shape =
    c.in_ok-shape.ensures ∙ ap (λ ds. changed_shape (λ _. ds) stack.shape) c.requires.dims in
    let count : length s.arrays ≡ length stack.arrays = length-map stack.arrays change in
    let unlimited : stack_limit c.in_ok-shape.shape c.frames.result ≡ None = no_limit _ _ (sym c.in_ok-within_limit.was ∙ c.within_limit.ensures) in
    let within : stack_limit s.shape (length s.arrays) ≡ None =
    ap (λ sh. stack_limit sh (length s.arrays)) (sym shape) ∙ ap (stack_limit c.in_ok-shape.shape) (count ∙ sym c.frames.ensures) ∙ unlimited in
    let line : frames_line c.frames-2.result ≡ frames_line (length s.arrays) = ap frames_line (c.frames-2.ensures ∙ sym count) in
    ends-printed c.args.name.now s held (g.T.Sink.written c.args.out.now) within (g.K.Shelf.held c.save_stack.new.shelf) c.print_frames.result
    (g.T.Sink.written c.print_frames.new.out) _ _
    (c.in_ok-save_stack.ensures.ok ∙ ap (λ sh. with_stack_file held c.args.name.now sh s.arrays) shape)
    (subst (λ sh. 1 ≤ length s.arrays → ReadsBack sh s.arrays) shape (λ some. c.in_ok-save_stack.ensures.back (subst (λ n. 1 ≤ n) count some)))
    (rw line at c.print_frames.ensures.ok) (rw line at c.print_frames.ensures.err)
