use Rattle.std.proofs.Common.{◌≡◌, ◌∙◌, refl, inl}
use Rattle.std.proofs.lemmas.List.Elements.{All-nil}
use Rattle.std.proofs.lemmas.Result.{err_from_is_err_and}
use Rattle.tool_commands.specs.Command.{Info}
use Rattle.tool_commands.specs.Info.{info_text}
use Rattle.tool_commands.specs.Works.{IsBack, info_work}
use Rattle.tool_commands.proofs.Leads.{info_unread, info_read}
use Rattle.tool_commands.proofs.Stops.{Ends-unread, Ends-printed}
use Rattle.tool_commands.proofs.Unread.{unread-to, printed-at}
use Rattle.tool_commands.proofs.info.info.Goals as goal

pub returns-in_err-stack-clause-ends : goal.returns-in_err-stack-clause-ends
returns-in_err-stack-clause-ends g c held =
    let p = err_from_is_err_and c.from_residual.result c.from_residual.ensures.1 in
    let name = c.args.name.now in
    rw (p.1, p.2) (Ends-unread (Info name) _ _ _ _ (info_unread _ name _ _ _ c.in_err-stack.ensures.err) (refl, refl))

pub returns-clause-ends : goal.returns-clause-ends
returns-clause-ends g c held =
    let name = c.args.name.now in
    let stack = c.in_ok-stack.stack in
    let text : c.as_str.result.now ≡ info_text stack = c.as_str.ensures.value ∙ c.in_ok-text.ensures in
    Ends-printed (Info name) _ (info_work stack) (info_read _ name stack c.in_ok-stack.ensures.ok) refl c.print.result _ _ (All-nil IsBack)
    (rw text at c.print.ensures.ok) (rw text at c.print.ensures.err)

pub returns-in_err-stack-clause-unread : goal.returns-in_err-stack-clause-unread
returns-in_err-stack-clause-unread g c =
    let p = err_from_is_err_and c.from_residual.result c.from_residual.ensures.1 in
    rw (p.1, p.2) (unread-to _ _ (λ failed. inl failed) _ c.in_err-stack.ensures.unread)

pub returns-clause-unread : goal.returns-clause-unread
returns-clause-unread g c = printed-at _ c.print.result _ _ _ _ _ c.print.ensures.err
