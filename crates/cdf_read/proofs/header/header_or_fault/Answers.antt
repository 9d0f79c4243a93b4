use Rattle.cdf_read.specs.HeaderLaws.{answer, Reads-no_fault, Reads-unique, Faults-unique}
use Rattle.cdf_read.specs.FaultLaws.{Faults-memory}
use Rattle.cdf_read.proofs.header.header_or_fault.Goals as goal

pub returns : goal.returns
returns c = record {
  one_of_both = answer;
  not_both = Reads-no_fault;
  one_header = Reads-unique;
  one_fault = Faults-unique;
  of_the_file = Faults-memory;
}
