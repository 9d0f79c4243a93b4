use Rattle.std.proofs.Common.{sym, ◌∙◌}
use Rattle.tool_commands.proofs.Claims.{Ends-none, Ends-refused, Ends-untouched, answered}
use Rattle.tool_commands.proofs.Unread.{decided, unread-is}
use Rattle.tool_commands.proofs.top.tool_top.Goals as goal

pub returns-clause-usage : goal.returns-clause-usage
returns-clause-usage g c =
    let ends = c.run_command.ensures.ends in (
      (λ usage. (rw (sym c.status_of.ensures ∙ usage) at ends).0),
      (λ none. c.status_of.ensures ∙ Ends-none _ _ (rw none at ends)),
    )

pub returns-clause-refused : goal.returns-clause-refused
returns-clause-refused g c = rw c.status_of.ensures (Ends-refused _ _ _ c.run_command.ensures.ends)

pub returns-clause-untouched : goal.returns-clause-untouched
returns-clause-untouched g c = rw c.status_of.ensures (Ends-untouched _ _ _ c.run_command.ensures.ends)

pub returns-clause-complete : goal.returns-clause-complete
returns-clause-complete g c = rw c.status_of.ensures (answered _ _ _ _ _ c.run_command.ensures.ends c.run_command.ensures.cause)

pub returns-clause-unread : goal.returns-clause-unread
returns-clause-unread g c = rw c.status_of.ensures (unread-is _ _ c.run_command.ensures.unread)

pub returns-clause-decides : goal.returns-clause-decides
returns-clause-decides g c = rw c.status_of.ensures (decided _ _ _ _ _ c.run_command.ensures.ends c.run_command.ensures.unread)
