-- A run of the code as the definitions see it.
use Rattle.replay_top.specs.declared.run_words.RunSource as coded
use Rattle.replay_top.specs.declared.run_words.RunSource.TheVariants as source
use Rattle.replay_top.specs.declared.run_words.RunWords.{RunWords}
use Rattle.replay_top.specs.RunCommand.{RunCommand, RunSource, Named, Demo}

abbrev pub source_told : coded.RunSource → RunSource
source_told (source.Named graph stack) = Named graph.now stack.now
source_told (source.Demo frames) = Demo frames

abbrev pub run_told : RunWords → RunCommand
run_told w = record { source = source_told w.source; prefix = w.prefix.now; logs = w.logs; watched = w.watched }
