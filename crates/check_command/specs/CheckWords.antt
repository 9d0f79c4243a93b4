-- A check of the code as the definitions see it.
use Rattle.check_command.specs.declared.words.CheckWords.{CheckWords}
use Rattle.check_command.specs.CheckCommand.{CheckCommand}

abbrev pub check_told : CheckWords → CheckCommand
check_told w = record { graph = w.graph.now; stack = w.stack.now; log = w.log.now; prefix = w.prefix.now }
