use Rattle.std.proofs.Common.{refl, length}
use Rattle.board_rules.specs.RunMeasures.{run_setting}
use Rattle.flow_roles.specs.RoleMoves.{worker_logs}
use Rattle.flow_roles.specs.RoleEnds.{worker_ends}
use Rattle.flow_roles.specs.Feeder.{name_of, parts_of}
use Rattle.flow_roles.proofs.Calls.{still-owned}
use Rattle.flow_roles.proofs.RoleCalls.{fresh-active, none-few, fresh-owned, fresh-nothing, leave-free, worker-quiet}
use Rattle.flow_roles.proofs.Reclaims.{comes-back}
use Rattle.flow_roles.proofs.without_thread.leave_work.Goals as goal

pub returns : goal.returns
returns g c =
    let s = run_setting g.R.Run.graph g.R.Run.stack in
    let v = c.args.node in
    let r = c.args.role in
    let first = fresh-nothing (worker_logs v) r (g.D.Desk.knows c.args.pass) c.requires.fresh in
    let gone =
    leave-free name_of parts_of length s (worker_logs v) (worker_ends v) r _ _ c.nothing.result first (worker-quiet v) refl (λ P h. h)
    c.nothing.ensures (none-few (g.D.Desk.knows c.args.pass).said (fresh-active _ _ c.requires.fresh)) c.leave.ensures.called in
    record {
      ours = c.leave.ensures.ours;
      role = gone.role;
      moves = gone.moves;
      owned = still-owned _ _ _ _ _ r c.requires.fresh.role c.leave.ensures.called refl (fresh-owned _ _ c.requires.fresh);
      wanted = gone.wanted;
      last = gone.last;
      left = gone.handed;
      reclaimed = comes-back name_of parts_of length s r (g.D.Desk.knows c.leave.new.pass).made c.nothing.result gone.handed;
    }
