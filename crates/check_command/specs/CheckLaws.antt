-- LAWS of checks.
use Rattle.std.specs.Prelude.{◌≡◌, Some}
use Rattle.edge_traits.specs.Files.{Files}
use Rattle.check_command.specs.CheckAnswers.{IsAnswer}
use Rattle.check_command.specs.CheckCommand.{CheckCommand}
use Rattle.check_command.specs.declared.status.CheckStatus.{CheckStatus}

-- of the answers to a check over the files of a library at most one is right
abbrev pub OneAnswer : Type 0
OneAnswer = (files : Files) (c : CheckCommand) (a b : CheckStatus) → IsAnswer (Some files) c a → IsAnswer (Some files) c b → a ≡ b
