use Rattle.std.proofs.Common.{◌≡◌, true, length, subst, ap, sym, arith}
use Rattle.pool_ledger.specs.Keys.{Keys, IsRising}
use Rattle.pool_ledger.proofs.KeyLists.{length-without_key}
use Rattle.pool_ledger.proofs.KeyPlaces.{IsRising-without_key}
use Rattle.pool_ledger.proofs.TreeKeys.{has_key}
use Rattle.pool_ledger.proofs.key_set.KeySet.remove.Goals as goal

pub invariant_of-self : goal.invariant_of-self
invariant_of-self c =
    let tree = c.self.inside.tree in
    let there = subst (λ (s : Keys). has_key c.args.key s.keys ≡ true) (sym c.self.view_is) c.requires in
    let shorter = length-without_key c.args.key tree c.self.invariant.0 there in
    let now = ap length c.remove-taken.ensures in (
      subst IsRising (sym c.remove-taken.ensures) (IsRising-without_key c.args.key tree c.self.invariant.0),
      omega (arith, c.self.invariant.1, c.push_reserved.ensures.len, c.push_reserved-2.ensures.len),
      omega (arith, c.self.invariant.2, c.push_reserved.ensures.capacity, c.push_reserved-2.ensures.capacity),
    )
