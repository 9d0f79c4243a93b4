use Rattle.std.proofs.Common.{rules}
use Rattle.tool_commands.proofs.Sizes.{longer_differs}
use Rattle.tool_commands.proofs.correct.+same_sizes.Goals as goal

pub returns-in-len1-up-empty : goal.returns-in-len1-up-empty
returns-in-len1-up-empty t c = longer_differs c.args.dims.now c.args.others.now (search rules) (search rules)
