use Rattle.std.proofs.Common.{length, take, ap, sym, ◌∙◌, arith}
use Rattle.pool_ledger.specs.Grants.{Granted, new_number}
use Rattle.pool_ledger.specs.Ledger.{Ledger, held, blocks, grant_for, needs_room, largest_first}
use Rattle.pool_ledger.proofs.Giving.{answered_ok, granted_fresh, granted_kept, blocks-without}
use Rattle.pool_ledger.proofs.pools.Pool.ask.Goals as goal

pub give_up-requires : goal.give_up-requires
give_up-requires c =
    let p = c.args.self.now in
    let g = c.in_ok-grant.grant in
    let is = (answered_ok (held p) (grant_for c.args.n p) g (sym c.in_ok-grant.was ∙ c.peek.ensures)).is in
    (granted_fresh p c.args.n g.block g.size g.given_up (is ∙ ap (λ f. Granted g.block g.size f g.given_up) c.if-grant.true)).given_is

pub add-requires-clause-room : goal.add-requires-clause-room
add-requires-clause-room c =
    let p = c.args.self.now in
    let g = c.in_ok-grant.grant in
    let is = (answered_ok (held p) (grant_for c.args.n p) g (sym c.in_ok-grant.was ∙ c.peek.ensures)).is in
    let less = c.requires.room (ap needs_room is ∙ c.if-grant.true) in
    let none = ap length c.requires.named in
    let same = ap (λ (q : Ledger). q.room) c.give_up.ensures.given in
    omega (arith, c.give_up.ensures.room)

pub add-requires-clause-number : goal.add-requires-clause-number
add-requires-clause-number c =
    let p = c.args.self.now in
    let g = c.in_ok-grant.grant in
    let is = (answered_ok (held p) (grant_for c.args.n p) g (sym c.in_ok-grant.was ∙ c.peek.ensures)).is in
    let fresh = granted_fresh p c.args.n g.block g.size g.given_up (is ∙ ap (λ f. Granted g.block g.size f g.given_up) c.if-grant.true) in
    fresh.number_is ∙ ap new_number (sym (blocks-without (take g.given_up (largest_first p)) p.known))
    ∙ ap (λ q. new_number (blocks q)) (sym c.give_up.ensures.given)

pub reuse-requires : goal.reuse-requires
reuse-requires c =
    let p = c.args.self.now in
    let g = c.in_ok-grant.grant in
    let is = (answered_ok (held p) (grant_for c.args.n p) g (sym c.in_ok-grant.was ∙ c.peek.ensures)).is in
    granted_kept p c.args.n g.block g.size g.given_up (is ∙ ap (λ f. Granted g.block g.size f g.given_up) c.if-grant.false)
