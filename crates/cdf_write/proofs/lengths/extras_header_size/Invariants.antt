use Rattle.std.proofs.Common.{◌≡◌, ◌≤◌, ◌*◌, take}
use Rattle.std.specs.List.{sum_by}
use Rattle.cdf_write.specs.Lengths.{extra_header_length}
use Rattle.cdf_write.proofs.lengths.extras_header_size.Given as goal

abbrev pub invariant-loop-extra : goal.invariant-loop-extra
invariant-loop-extra l = record {
  total : l.total ≡ sum_by extra_header_length (take l.extra-index l.extras);
  small : l.total ≤ l.extra-index * 18446744073709551616;
}
