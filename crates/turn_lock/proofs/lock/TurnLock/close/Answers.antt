use Rattle.std.proofs.Common.{rules, ◌≡◌, ℕ, length, subst}
use Rattle.turn_lock.specs.Passes.{PassFacts, Closes}
use Rattle.turn_lock.proofs.Closing.{closes}
use Rattle.turn_lock.proofs.lock.TurnLock.close.Goals as goal

pub returns-clause-state : goal.returns-clause-state
returns-clause-state g c = let all : length c.keep.inside.seat.me.0.made ≡ c.self.inside.table.shared.key = search rules in
    let done = closes g.S.Object.entries g.S.Object.begins c.self.inside.table.shared.key c.keep.inside.seat.table_id c.keep.inside.seat.id
    c.keep.inside.seat.me.0 _ _ c.take-state.result c.keep.invariant.0 all c.close_with-closed.ensures.values.2 c.take-state.ensures.value in
    let e : c.self.inside.table.shared.key ≡ c.args.self.seats = search rules in
    subst (λ (z : ℕ × PassFacts g.row.S-Entry.Denot). Closes g.S.Object.begins z.0 z.1 (g.S.Object.entries c.take-state.result))
    (λ i. (e i, c.keep.view_is i)) done
