use Rattle.std.proofs.Common.{◌≡◌, ◌+◌, ◌*◌, arith}
use Rattle.cdf_write.specs.Lengths.{row_length}
use Rattle.cdf_write.specs.LengthLaws.{length-header, length-row, length-layout}
use Rattle.cdf_write.proofs.laws.files_have_their_lengths.Goals as goal

pub returns : goal.returns
returns c = record {
  file = length-layout;
  header = λ shape numrecs. let h = length-header shape numrecs in omega (arith, h);
  row = λ shape a count h. let one = length-row shape a h in omega (arith, one);
}
