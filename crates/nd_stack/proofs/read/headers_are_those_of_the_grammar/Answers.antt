use Rattle.cdf_read.specs.HeaderLaws.{header_of-found, header_of-again}
use Rattle.nd_stack.proofs.read.headers_are_those_of_the_grammar.Goals as goal

pub returns : goal.returns
returns c = λ bytes h. (header_of-found bytes h, header_of-again bytes h)
