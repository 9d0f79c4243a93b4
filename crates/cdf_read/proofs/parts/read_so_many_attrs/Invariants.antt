use Rattle.std.proofs.Common.{◌≡◌, ◌-◌, []}
use Rattle.std.proofs.Common.{List}
use Rattle.cdf_read.specs.declared.head.HeadAttr.{HeadAttr}
use Rattle.cdf_read.specs.HeaderReading.{attr_at, many_at}
use Rattle.cdf_read.proofs.parts.read_so_many_attrs.Given as goal

-- what is left to read, after the attributes so far, is all
abbrev pub invariant-loop : goal.invariant-loop
invariant-loop l = many_at (λ (earlier : List HeadAttr). attr_at l.total) (l.count - l.counter) l.attrs.items l.rest
    ≡ many_at (λ (earlier : List HeadAttr). attr_at l.fn.total) l.fn.count [] l.fn.rest
