use Rattle.pool_ledger.proofs.Walks.{Picked}
use Rattle.pool_ledger.proofs.pools.Pool.fresh_grant.Given as goal

abbrev pub invariant-loop-self : goal.invariant-loop-self
invariant-loop-self l = Picked l.self-inside l.n l.standing l.number l.below l.given_up

abbrev pub decreases-loop-self : goal.decreases-loop-self
decreases-loop-self l = l.below
