use Rattle.nd_series.proofs.Spellings.{number-spelled, spelled-number, regions-spelled, spelled-regions}
use Rattle.nd_series.proofs.laws.words_are_as_spelled.Goals as goal

pub returns-clause-rows : goal.returns-clause-rows
returns-clause-rows c = λ text n. (number-spelled 4 1 4096 text n, spelled-number 4 1 4096 text n)

pub returns-clause-regions : goal.returns-clause-regions
returns-clause-regions c = λ text boxes. (regions-spelled text boxes, spelled-regions text boxes)
