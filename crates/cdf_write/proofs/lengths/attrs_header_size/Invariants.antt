use Rattle.std.proofs.Common.{◌≡◌, ◌≤◌, ◌*◌, take}
use Rattle.std.specs.List.{sum_by}
use Rattle.cdf_write.specs.Lengths.{attr_header_length}
use Rattle.cdf_write.proofs.lengths.attrs_header_size.Given as goal

abbrev pub invariant-loop-attr : goal.invariant-loop-attr
invariant-loop-attr l = record {
  total : l.total ≡ sum_by (attr_header_length l.form) (take l.attr-index l.attrs);
  small : l.total ≤ l.attr-index * 2048;
}
