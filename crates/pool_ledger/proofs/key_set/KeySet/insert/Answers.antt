use Rattle.std.proofs.Common.{◌≢◌, length, subst, ap, sym, ◌∙◌, arith}
use Rattle.std.specs.List.{AllByRecursion}
use Rattle.pool_ledger.specs.Keys.{Keys, IsRising}
use Rattle.pool_ledger.proofs.KeyLists.{length-with_key}
use Rattle.pool_ledger.proofs.KeyPlaces.{IsRising-with_key}
use Rattle.pool_ledger.proofs.key_set.KeySet.insert.Goals as goal

pub invariant_of-self : goal.invariant_of-self
invariant_of-self c =
    let tree = c.self.inside.tree in
    let absent = subst (λ (s : Keys). AllByRecursion (λ k. k ≢ c.args.key) s.keys) (sym c.self.view_is) c.requires.absent in
    let longer = ap length c.insert.ensures ∙ length-with_key c.args.key tree in (
      subst IsRising (sym c.insert.ensures) (IsRising-with_key c.args.key tree c.self.invariant.0 absent),
      omega (arith, c.self.invariant.1, c.take_spare-low.ensures.len, c.take_spare-high.ensures.len),
      omega (arith, c.self.invariant.2, c.take_spare-low.ensures.capacity, c.take_spare-high.ensures.capacity),
    )
