use Rattle.std.proofs.Common.{ℕ, ◌<◌, length, get_or}
use Rattle.nd_base.specs.declared.attribute.AttrColumn.{AttrColumn}
use Rattle.nd_base.specs.GraphRules.{IsBetween}
use Rattle.cdf_write.proofs.writable.have_names.Given as goal

abbrev pub invariant-loop-attr : goal.invariant-loop-attr
invariant-loop-attr l = (k : ℕ) (d : AttrColumn) → k < l.attr-index → IsBetween 1 1019 (length (get_or l.attrs k d).name)
