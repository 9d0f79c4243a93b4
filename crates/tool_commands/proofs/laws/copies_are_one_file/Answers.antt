use Rattle.tool_commands.proofs.Copies.{one_file, one_limit}
use Rattle.tool_commands.proofs.laws.copies_are_one_file.Goals as goal

pub returns-clause-files : goal.returns-clause-files
returns-clause-files c = one_file

pub returns-clause-limit : goal.returns-clause-limit
returns-clause-limit c = one_limit
