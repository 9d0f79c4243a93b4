use Rattle.tool_commands.proofs.Unread.{unreading-at}
use Rattle.tool_commands.proofs.top.run_command.Goals as goal

pub returns-in-Some-Gen-clause-unread : goal.returns-in-Some-Gen-clause-unread
returns-in-Some-Gen-clause-unread g c = unreading-at _ _ _ 0 _ 0 (λ library. c.generate.ensures.cause library 0)
