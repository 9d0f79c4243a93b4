use Rattle.std.proofs.Common.{◌≡◌, ◌≤◌, ◌+◌, ◌*◌, drop, sum_by, filter}
use Rattle.cdf_read.specs.Places.{is_record_var, stored_size}
use Rattle.cdf_read.proofs.size.size_of_record.Given as goal

-- the sum so far and that of what is left are the whole
abbrev pub invariant-loop-var : goal.invariant-loop-var
invariant-loop-var l = record {
  whole : l.sum + sum_by (stored_size l.dims l.unpadded) (filter (is_record_var l.dims) (drop l.var-index l.vars))
      ≡ sum_by (stored_size l.dims l.unpadded) (filter (is_record_var l.dims) l.vars);
  within : l.sum ≤ l.var-index * 4294967296;
}
