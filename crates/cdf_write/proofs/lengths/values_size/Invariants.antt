use Rattle.std.proofs.Common.{◌≡◌, ◌≤◌, ◌*◌, take}
use Rattle.std.specs.List.{sum_by}
use Rattle.cdf_write.specs.Spelling.{padded_length}
use Rattle.cdf_write.specs.Columns.{kind_size}
use Rattle.cdf_write.proofs.lengths.values_size.Given as goal

abbrev pub invariant-loop-attr : goal.invariant-loop-attr
invariant-loop-attr l = record {
  total : l.total ≡ sum_by (λ a. padded_length (kind_size l.width a.kind)) (take l.attr-index l.attrs);
  small : l.total ≤ l.attr-index * 4294967296;
}
