-- The words that the names of kinds stand for.
use Rattle.graph_conf.specs.declared.kind.KindName.{KindName}
use Rattle.graph_conf.specs.declared.kind.KindName.TheVariants.{Roi, Stats, Circular, File, Scatter}
use Rattle.graph_conf.specs.Named.{KindWord, roi, stats, circular, file, scatter}

abbrev pub kind_word : KindName → KindWord
kind_word Roi = roi
kind_word Stats = stats
kind_word Circular = circular
kind_word File = file
kind_word Scatter = scatter
