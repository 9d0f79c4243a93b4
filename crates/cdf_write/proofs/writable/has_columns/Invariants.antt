use Rattle.std.proofs.Common.{◌≡◌, ℕ, ◌<◌, map, take, get_or}
use Rattle.nd_base.specs.declared.attribute.Attr.{Attr}
use Rattle.cdf_write.specs.Writable.{column_of, FitsIn}
use Rattle.cdf_write.proofs.writable.has_columns.Given as goal

abbrev pub invariant-loop-i : goal.invariant-loop-i
invariant-loop-i l = record {
  same : take l.i (map column_of l.attrs) ≡ take l.i l.shape.attrs;
  texts : (k : ℕ) (d : Attr) → k < l.i → FitsIn l.shape.width (get_or l.attrs k d).value;
}
