use Rattle.std.proofs.Common.{◌≡◌, ◌≤◌, ◌-◌, List, [], length, All}
use Rattle.cdf_read.specs.declared.head.HeadVar.{HeadVar}
use Rattle.cdf_read.specs.HeaderReading.{var_at, many_at}
use Rattle.cdf_read.specs.Places.{var_size}
use Rattle.cdf_read.proofs.parts.read_so_many_vars.Given as goal

-- what is left to read, after the variables so far, is all
abbrev pub invariant-loop-number : goal.invariant-loop-number
invariant-loop-number l = record {
  left : many_at (λ (earlier : List HeadVar). var_at l.form l.total l.dims (length earlier)) (l.count - l.number) l.vars.items l.rest ≡ many_at
      (λ (earlier : List HeadVar). var_at l.fn.form l.fn.total l.fn.dims (length earlier)) l.fn.count [] l.fn.rest;
  so_far : length l.vars.items ≡ l.number;
  small : All (λ v. var_size l.dims v ≤ 4294967296) l.vars.items;
}
