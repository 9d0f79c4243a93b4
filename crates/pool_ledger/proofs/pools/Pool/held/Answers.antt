use Rattle.std.proofs.Common.{ap, sym, ◌∙◌}
use Rattle.pool_ledger.specs.Ledger.{held}
use Rattle.pool_ledger.proofs.Bridges.{held-known_from}
use Rattle.pool_ledger.proofs.pools.Pool.held.Goals as goal

pub returns : goal.returns
returns c =
    let s = c.self.invariant in
    s.held_is ∙ sym (held-known_from 0 c.self.inside.slots.items s.in_range) ∙ ap held c.self.view_is
