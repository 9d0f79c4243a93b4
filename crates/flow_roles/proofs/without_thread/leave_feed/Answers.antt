use Rattle.std.proofs.Common.{refl, [], length}
use Rattle.board_rules.specs.RunMeasures.{run_setting}
use Rattle.flow_roles.specs.RoleMoves.{feeder_logs}
use Rattle.flow_roles.specs.RoleEnds.{feeder_ends}
use Rattle.flow_roles.specs.Feeder.{name_of, parts_of}
use Rattle.flow_roles.specs.FeederTicks.{stays_away}
use Rattle.flow_roles.proofs.Calls.{still-owned}
use Rattle.flow_roles.proofs.RoleCalls.{fresh-active, none-few, fresh-owned, fresh-nothing, leave-free, feeder-quiet}
use Rattle.flow_roles.proofs.Reclaims.{comes-back}
use Rattle.flow_roles.proofs.without_thread.leave_feed.Goals as goal

pub returns : goal.returns
returns g c =
    let s = run_setting g.R.Run.graph g.R.Run.stack in
    let first = fresh-nothing feeder_logs 0 (g.D.Desk.knows c.args.pass) c.requires.fresh in
    let gone = leave-free name_of parts_of length s feeder_logs feeder_ends 0 _ _ c.nothing.result first feeder-quiet refl (λ P h. h)
    c.nothing.ensures (none-few (g.D.Desk.knows c.args.pass).said (fresh-active _ _ c.requires.fresh)) c.leave.ensures.called in
    record {
      ours = c.leave.ensures.ours;
      role = gone.role;
      moves = gone.moves;
      owned = still-owned _ _ _ _ _ 0 c.requires.fresh.role c.leave.ensures.called refl (fresh-owned _ _ c.requires.fresh);
      wanted = gone.wanted;
      last = gone.last;
      left = gone.handed;
      reclaimed = comes-back name_of parts_of length s 0 (g.D.Desk.knows c.leave.new.pass).made c.nothing.result gone.handed;
      ticks = λ coming. ([], refl, stays_away _ c.leave.ensures.called);
    }
