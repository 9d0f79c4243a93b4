use Rattle.pool_ledger.proofs.Giving.{GivenUp}
use Rattle.pool_ledger.proofs.pools.Pool.give_up.Given as goal

abbrev pub invariant-loop : goal.invariant-loop
invariant-loop l = GivenUp l.fn.self l.self l.counter
