use Rattle.cdf_write.proofs.VariableList.{numbers_of}
use Rattle.cdf_write.proofs.variables.first_numbers.Goals as goal

pub returns-clause-numbers : goal.returns-clause-numbers
returns-clause-numbers c = numbers_of c.args.count c.requires
