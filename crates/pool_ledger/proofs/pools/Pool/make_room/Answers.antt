use Rattle.std.proofs.Common.{length, ap, arith}
use Rattle.pool_ledger.specs.Ledger.{Ledger}
use Rattle.pool_ledger.proofs.SlotLists.{length-known_from}
use Rattle.pool_ledger.proofs.pools.Pool.make_room.Goals as goal
use Rattle.pool_ledger.proofs.pools.Pool.make_room.Goals.{then-len-self-via-then-len-self, then-len-self-via-else-len-self+then-self}

pub returns-then-len-self-clause-made : goal.returns-then-len-self-clause-made
returns-then-len-self-clause-made c =
    let a = c.self.inside in
    let known = ap (λ (p : Ledger). length p.known) c.self.view_is in
    let room = ap (λ (p : Ledger). p.room) c.self.view_is in
    elim c.then-len-self.branch [
      | then-len-self-via-then-len-self w ↦ let few = length-known_from 0 a.slots.items in omega arith
      | then-len-self-via-else-len-self+then-self w ↦ omega (arith, c.requires)
    ]
