use Rattle.std.proofs.Common.{◌≡◌, ◌<◌, ℕ, false, nat_lt, get_or}
use Rattle.cdf_read.specs.declared.head.HeadVar.{HeadVar}
use Rattle.cdf_read.specs.Places.{values_end}
use Rattle.cdf_read.proofs.place.short_var.Given as goal

-- the last values of the variables so far are within the file
abbrev pub invariant-loop-var : goal.invariant-loop-var
invariant-loop-var l = record {
  place : l.number ≡ l.var-index;
  earlier : (k : ℕ) (d : HeadVar) → k < l.var-index → nat_lt l.total (values_end l.header (get_or l.header.vars k d)) ≡ false;
}
