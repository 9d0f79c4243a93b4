use Rattle.std.proofs.Common.{◌≡◌, ◌≢◌, suc, ◌-◌, ◌<◌, length, vec_len, refl, arith, rules}
use Rattle.board_cases.proofs.Seated.{working-at, seated-set, on-ok}
use Rattle.board_cases.proofs.calls.work_as.Goals as goal

pub work-requires-clause-working : goal.work-requires-clause-working
work-requires-clause-working g c =
    let ne : c.args.role ≢ 0 = c.if-role-eq0.false in
    let is : c.args.role ≡ suc (c.args.role - 1) = omega (arith, ne) in
    let many : length c.args.seats.now.workers.items ≡ vec_len c.args.seats.now.workers = search rules in
    let low : c.args.role - 1 < length c.args.seats.now.workers.items = omega (arith, ne, many, c.if-role-len.false, c.len.ensures) in
    working-at (g.D.Desk.ours c.args.desk.now) g.D.Desk.knows g.R.Run.graph g.R.Run.stack c.args.seats.now c.requires.seated c.args.role
    (c.args.role - 1) c.index_mut-worker.result.now is low
    c.index_mut-worker.ensures.value

pub returns : goal.returns
returns g c =
    let ne : c.args.role ≢ 0 = c.if-role-eq0.false in
    let is : c.args.role ≡ suc (c.args.role - 1) = omega (arith, ne) in
    on-ok c.work.result _ _
    (λ h. seated-set (g.D.Desk.ours c.args.desk.now) g.D.Desk.knows g.R.Run.graph g.R.Run.stack c.args.seats.now c.requires.seated _ c.args.role
    (c.args.role - 1) c.work.new.worker is refl refl refl h)
    c.work.ensures
