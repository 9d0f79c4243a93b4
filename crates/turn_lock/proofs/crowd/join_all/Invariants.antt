use Rattle.std.proofs.Common.{◌≡◌, ◌+◌, All, length, vec_len}
use Rattle.std.specs.Prelude.{IfOk}
use Rattle.turn_lock.specs.Counting.{EachCounted, IsCountDone}
use Rattle.turn_lock.proofs.crowd.join_all.Given as goal

abbrev pub invariant-loop-end : goal.invariant-loop-end
invariant-loop-end l = (l.keep.lock ≡ l.lock.id) × (length l.keep.made + vec_len l.ends ≡ vec_len l.fn.ends) × EachCounted l.times l.keep.made
    × All (λ r. IfOk r (λ p. IsCountDone l.lock.id l.times p)) l.ends.items

abbrev pub decreases-loop-end : goal.decreases-loop-end
decreases-loop-end l = vec_len l.ends
