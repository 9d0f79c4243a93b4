use Rattle.std.proofs.Common.{◌≡◌, ◌+◌, ◌*◌, ◌<◌, ◌^◌, Ok, true, false, ap, sym, ◌∙◌, arith, rules}
use Rattle.std.specs.Option.{option_map}
use Rattle.pool_ledger.specs.Keys.{least_from}
use Rattle.pool_ledger.specs.Grants.{passes}
use Rattle.pool_ledger.specs.Ledger.{Ledger, held}
use Rattle.pool_ledger.specs.Inside.{ledger_of, IsSound, block_at}
use Rattle.pool_ledger.specs.declared.pools.Pool.TheInside.{Inside}
use Rattle.pool_ledger.proofs.Bridges.{held-known_from}
use Rattle.pool_ledger.proofs.Sound.{held_fits}
use Rattle.pool_ledger.proofs.Picks.{smallest_fit-keys}
use Rattle.pool_ledger.proofs.Giving.{refused_for, kept_for, fresh_for}
use Rattle.pool_ledger.proofs.pools.Pool.peek.Goals as goal

held_now : (a : Inside) (p : Ledger) → ledger_of a ≡ p → IsSound a → a.held ≡ held p
held_now a p e s = s.held_is ∙ sym (held-known_from 0 a.slots.items s.in_range) ∙ ap held e

pub passes_limit-requires : goal.passes_limit-requires
passes_limit-requires c =
    let s = c.self.invariant in
    let fits = held_fits c.self.inside.slots.items c.self.inside.room s.in_range s.slots_fit s.room_fits in
    let small : c.args.n < 2 ^ 32 = search rules in
    omega (arith, s.held_is)

pub returns-then-passes_limit : goal.returns-then-passes_limit
returns-then-passes_limit c =
    let p = c.args.self.now in
    let same = held_now c.self.inside p c.self.view_is c.self.invariant in
    let over : passes p.limit (held p + c.args.n) ≡ true = ap (λ m. passes p.limit (m + c.args.n)) (sym same) ∙ sym c.passes_limit.ensures
    ∙ c.if-passes_limit.true in
    rw (refused_for p c.args.n over, same)

pub returns-in-Some : goal.returns-in-Some
returns-in-Some c =
    let p = c.args.self.now in
    let same = held_now c.self.inside p c.self.view_is c.self.invariant in
    let under : passes p.limit (held p + c.args.n) ≡ false = ap (λ m. passes p.limit (m + c.args.n)) (sym same) ∙ sym c.passes_limit.ensures
    ∙ c.if-passes_limit.false in
    let bound = ap (λ m. least_from (m * 4294967296) c.self.inside.free.keys) c.from.ensures in
    let key = sym bound ∙ sym c.least_from.ensures ∙ c.in-Some.is in
    let fit = smallest_fit-keys c.self.inside p c.args.n c.self.view_is c.self.invariant ∙ ap (option_map block_at) key in
    rw (kept_for p c.args.n (block_at c.in-Some.key) under fit)

pub returns : goal.returns
returns c =
    let p = c.args.self.now in
    let same = held_now c.self.inside p c.self.view_is c.self.invariant in
    let under : passes p.limit (held p + c.args.n) ≡ false = ap (λ m. passes p.limit (m + c.args.n)) (sym same) ∙ sym c.passes_limit.ensures
    ∙ c.if-passes_limit.false in
    let bound = ap (λ m. least_from (m * 4294967296) c.self.inside.free.keys) c.from.ensures in
    let key = sym bound ∙ sym c.least_from.ensures ∙ c.in_default.is in
    let fit = smallest_fit-keys c.self.inside p c.args.n c.self.view_is c.self.invariant ∙ ap (option_map block_at) key in
    rw (fresh_for p c.args.n under fit) (ap Ok c.fresh_grant.ensures)
