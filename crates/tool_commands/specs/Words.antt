-- A command of the code as the definitions see it.
use Rattle.std.specs.Prelude.{◌≢◌, ◌<◌, Some, IsSome, [], unwrap_or}
use Rattle.nd_base.specs.GraphRules.{IsBetween}
use Rattle.nd_orient.specs.Correction.{IsCorrectRule}
use Rattle.nd_stack.specs.declared.generated.GenFault.TheVariants.{GenRange}
use Rattle.nd_stack.specs.Generated.{gen_fault}
use Rattle.nd_series.specs.Words.{regions_in}
use Rattle.tool_commands.specs.declared.words.Command.{Command}
use Rattle.tool_commands.specs.declared.words.Command.TheVariants as coded
use Rattle.tool_commands.specs.Command as told

abbrev pub command_told : Command → told.Command
command_told (coded.Copy stack prefix) = told.Copy stack.now prefix.now
command_told (coded.Plain graph stack prefix) = told.Plain graph.now stack.now prefix.now
command_told (coded.Info stack) = told.Info stack.now
command_told (coded.Gen rule name) = told.Gen rule name.now
command_told (coded.Orient mode stack name) = told.Orient mode stack.now name.now
command_told (coded.Correct rule dark stack name) = told.Correct rule dark.now stack.now name.now
command_told (coded.Series most regions stack name) = told.Series most (unwrap_or (regions_in regions.now) []) stack.now name.now

-- its numbers are within what the commands take
abbrev pub IsSound : Command → Type 0
IsSound (coded.Copy stack prefix) = Unit {0}
IsSound (coded.Plain graph stack prefix) = Unit {0}
IsSound (coded.Info stack) = Unit {0}
IsSound (coded.Gen rule name) = gen_fault rule.frames rule.width rule.height rule.kind ≢ Some GenRange
IsSound (coded.Orient mode stack name) = mode < 8
IsSound (coded.Correct rule dark stack name) = IsCorrectRule rule
IsSound (coded.Series most regions stack name) = IsBetween 1 4096 most × IsSome (regions_in regions.now)
