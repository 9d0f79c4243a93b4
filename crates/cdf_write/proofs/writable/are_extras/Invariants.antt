use Rattle.std.proofs.Common.{ℕ, ◌<◌, get_or}
use Rattle.nd_base.specs.declared.attribute.Extra.{Extra}
use Rattle.cdf_write.specs.Writable.{IsExtra}
use Rattle.cdf_write.proofs.writable.are_extras.Given as goal

abbrev pub invariant-loop-extra : goal.invariant-loop-extra
invariant-loop-extra l = (k : ℕ) (d : Extra) → k < l.extra-index → IsExtra (get_or l.extras k d)
