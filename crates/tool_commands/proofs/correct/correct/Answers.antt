use Rattle.std.proofs.Common.{◌≡◌, false, sym, subst, refl, ◌∙◌, inl, inr}
use Rattle.std.specs.Prelude.{IfSome}
use Rattle.std.proofs.lemmas.Result.{err_from_is_err_and}
use Rattle.tool_commands.specs.Command.{Correct}
use Rattle.tool_commands.specs.Inputs.{most_stack_bytes}
use Rattle.tool_commands.specs.Works.{same_sizes}
use Rattle.tool_commands.proofs.Leads.{correct_sizes, correct_to}
use Rattle.tool_commands.proofs.Sizes.{dark_count}
use Rattle.tool_commands.proofs.Unread.{failed-after, unread-to, unreading-at}
use Rattle.tool_commands.proofs.correct.correct.Goals as goal

pub returns-in_err-dark-2-clause-ends : goal.returns-in_err-dark-2-clause-ends
returns-in_err-dark-2-clause-ends g c =
    let p = err_from_is_err_and c.from_residual-in_err-dark-2.result c.from_residual-in_err-dark-2.ensures.1 in
    let s = c.in_ok-stack.stack in
    let d = c.in_ok-dark.ensures.ok in
    let read = (rw c.in_ok-dark.ensures.files at c.in_ok-stack.ensures.ok) in
    let other = (rw (c.as_slice-dims.ensures, c.shape.ensures.value) at c.in_err-dark-2.ensures.err) in
    rw (p.1, p.2, other.0) (
      correct_sizes _ c.args.rule.now c.args.dark.now c.args.stack.now c.args.name.now d.0 d.1 s read
          (subst (λ o. IfSome o (λ a. same_sizes a.dims s.shape.dims ≡ false)) d.3 other.1),
      (refl, refl),
    )

pub write_changed-requires-clause-fits : goal.write_changed-requires-clause-fits
write_changed-requires-clause-fits g c =
    let d = c.in_ok-dark.ensures.ok in
    let fits = (rw (c.as_slice-dims.ensures, c.shape.ensures.value) at c.in_ok-dark-2.ensures.ok) in
    (c.requires, dark_count d.0 c.in_ok-dark-2.dark c.in_ok-stack.stack.shape.dims d.2 (sym d.3 ∙ fits.0) fits.1)

pub returns-clause-ends : goal.returns-clause-ends
returns-clause-ends g c =
    let s = c.in_ok-stack.stack in
    let d = c.in_ok-dark.ensures.ok in
    let read = (rw c.in_ok-dark.ensures.files at c.in_ok-stack.ensures.ok) in
    let fits = (rw (c.as_slice-dims.ensures, c.shape.ensures.value) at c.in_ok-dark-2.ensures.ok) in
    c.write_changed.ensures.ends (g.L.Library.holds c.args.library.now) (Correct c.args.rule.now c.args.dark.now c.args.stack.now c.args.name.now)
    (correct_to _ c.args.rule.now c.args.dark.now c.args.stack.now c.args.name.now d.0 d.1 s read c.in_ok-dark-2.dark (sym d.3 ∙ fits.0) fits.1)

pub returns-in_err-dark-clause-unread : goal.returns-in_err-dark-clause-unread
returns-in_err-dark-clause-unread g c =
    let p = err_from_is_err_and c.from_residual.result c.from_residual.ensures.1 in
    rw (p.1, p.2) (unread-to _ _ (λ failed. inl failed) _ c.in_err-dark.ensures.unread)

pub returns-in_err-stack-clause-unread : goal.returns-in_err-stack-clause-unread
returns-in_err-stack-clause-unread g c =
    let p = err_from_is_err_and c.from_residual-in_err-stack.result c.from_residual-in_err-stack.ensures.1 in
    let d = c.in_ok-dark.ensures.ok in
    rw (p.1, p.2) (unread-to _ _
    (λ failed. inr (
      d.0,
      d.1,
      inl (failed-after (g.L.Library.holds c.args.library.now) most_stack_bytes (g.L.Library.faults_at c.args.library.now)
          (g.L.Library.faults_at c.load_dark.new.library) (g.L.Library.faults_at c.load_stack.new.library) c.args.stack.now
          c.in_ok-dark.ensures.none_failed failed),
    )) _ (rw c.in_ok-dark.ensures.files at c.in_err-stack.ensures.unread))

pub returns-in_err-dark-2-clause-unread : goal.returns-in_err-dark-2-clause-unread
returns-in_err-dark-2-clause-unread g c =
    let p = err_from_is_err_and c.from_residual-in_err-dark-2.result c.from_residual-in_err-dark-2.ensures.1 in
    rw (p.1, p.2, c.in_err-dark-2.ensures.err.0) tt

pub returns-clause-unread : goal.returns-clause-unread
returns-clause-unread g c = unreading-at _ _ _ _ _ _ c.write_changed.ensures.cause
