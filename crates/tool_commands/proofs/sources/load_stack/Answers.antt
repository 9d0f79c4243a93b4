use Rattle.tool_commands.proofs.Inputs.{stack_read, stack_unread, stack_refused}
use Rattle.tool_commands.proofs.Unread.{unread-stack-at, read-stack-at}
use Rattle.tool_commands.proofs.sources.load_stack.Goals as goal

pub returns-in-Err-clause-err : goal.returns-in-Err-clause-err
returns-in-Err-clause-err g c =
    rw c.unread_stack.ensures (stack_unread c.in-Err.refusal (g.L.Library.holds c.args.library.now) c.args.name.now _ _ c.in-Err.ensures.refused)

pub returns-in-Ok-stack_in-clause-ok : goal.returns-in-Ok-stack_in-clause-ok
returns-in-Ok-stack_in-clause-ok g c =
    stack_read (g.L.Library.holds c.args.library.now) c.args.name.now c.in-Ok.bytes.items c.in-Ok-stack_in.stack
    c.in-Ok.ensures.bytes c.in-Ok.ensures.within c.in-Ok-stack_in.ensures.gives c.in-Ok-stack_in.ensures.kept.few

pub returns-in-Err-stack_in-clause-err : goal.returns-in-Err-stack_in-clause-err
returns-in-Err-stack_in-clause-err g c =
    rw c.from.ensures (stack_refused (g.L.Library.holds c.args.library.now) c.args.name.now c.in-Ok.bytes.items
    c.in-Ok.ensures.bytes c.in-Ok.ensures.within c.in-Err-stack_in.fault _ _ c.in-Err-stack_in.ensures.gives c.in-Ok.ensures.same)

pub returns-in-Err-clause-unread : goal.returns-in-Err-clause-unread
returns-in-Err-clause-unread g c = rw c.unread_stack.ensures (unread-stack-at _ c.in-Err.refusal c.in-Err.ensures.failed)

pub returns-in-Err-stack_in-clause-unread : goal.returns-in-Err-stack_in-clause-unread
returns-in-Err-stack_in-clause-unread g c = rw c.from.ensures (read-stack-at _ c.in-Err-stack_in.fault)
