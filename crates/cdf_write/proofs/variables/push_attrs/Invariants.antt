use Rattle.std.proofs.Common.{◌≡◌, ◌+◌, ◌++◌, map, drop}
use Rattle.std.specs.List.{concat}
use Rattle.cdf_write.specs.Columns.{attr_column}
use Rattle.cdf_write.specs.Layout.{variables}
use Rattle.cdf_write.specs.Lengths.{columns_length}
use Rattle.cdf_write.proofs.variables.push_attrs.Given as goal

abbrev pub invariant-loop-attr : goal.invariant-loop-attr
invariant-loop-attr l = record {
  bytes : l.out.items ++ concat (variables l.shape.form l.begin (map (attr_column l.shape) (drop l.attr-index l.shape.attrs)))
      ≡ l.initial.out.items ++ concat (variables l.shape.form l.initial.begin (map (attr_column l.shape) l.shape.attrs));
  end : l.begin + columns_length (map (attr_column l.shape) (drop l.attr-index l.shape.attrs))
      ≡ l.initial.begin + columns_length (map (attr_column l.shape) l.shape.attrs);
}
