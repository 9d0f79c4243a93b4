use Rattle.std.proofs.Common.{refl, [], length}
use Rattle.board_rules.specs.RunMeasures.{run_setting}
use Rattle.flow_roles.specs.RoleMoves.{feeder_logs}
use Rattle.flow_roles.specs.Feeder.{name_of, parts_of}
use Rattle.flow_roles.specs.FeederTicks.{none}
use Rattle.flow_roles.proofs.RoleCalls.{fresh-active, fresh-owned, fresh-nothing}
use Rattle.flow_roles.proofs.Reclaims.{comes-back}
use Rattle.flow_roles.proofs.feeding.feed_role.Goals as goal

pub load_next-answer-requires-clause-nothing : goal.load_next-answer-requires-clause-nothing
load_next-answer-requires-clause-nothing g c = fresh-nothing feeder_logs 0 (g.D.Desk.knows c.args.pass) c.requires.fresh

pub load_next-answer-requires-clause-active : goal.load_next-answer-requires-clause-active
load_next-answer-requires-clause-active g c = fresh-active _ _ c.requires.fresh

pub loop-init : goal.loop-init
loop-init g c = (
  c.load_next-answer.ensures.ours,
  c.load_next-answer.ensures.owned (fresh-owned _ _ c.requires.fresh),
  c.load_next-answer.ensures.fed (g.D.Desk.knows c.args.pass) (g.C.Clock.coming c.args.clock.now) ([], refl, none),
)

pub feed_round-requires-clause-ours : goal.feed_round-requires-clause-ours
feed_round-requires-clause-ours g c = c.loop.invariant.0

pub feed_round-requires-clause-asked : goal.feed_round-requires-clause-asked
feed_round-requires-clause-asked g c = (c.loop.invariant.2.0, c.loop.invariant.2.3)

pub loop-preserved : goal.loop-preserved
loop-preserved g c = (
  c.feed_round.ensures.ours,
  c.feed_round.ensures.owned c.loop.invariant.1,
  c.in-Again.ensures.fed _ _ c.loop.invariant.2,
)

pub returns-in-End-clause-role : goal.returns-in-End-clause-role
returns-in-End-clause-role g c = (c.in-End.ensures.fed _ _ c.loop.invariant.2).0.role

pub returns-in-End-clause-moves : goal.returns-in-End-clause-moves
returns-in-End-clause-moves g c = (c.in-End.ensures.fed _ _ c.loop.invariant.2).0.moves

pub returns-in-End-clause-last : goal.returns-in-End-clause-last
returns-in-End-clause-last g c = (c.in-End.ensures.fed _ _ c.loop.invariant.2).0.last

pub returns-in-End-clause-left : goal.returns-in-End-clause-left
returns-in-End-clause-left g c = (c.in-End.ensures.fed _ _ c.loop.invariant.2).0.handed

pub returns-in-End-clause-wanted : goal.returns-in-End-clause-wanted
returns-in-End-clause-wanted g c = (c.in-End.ensures.fed _ _ c.loop.invariant.2).0.wanted

pub returns-in-End-clause-ticks : goal.returns-in-End-clause-ticks
returns-in-End-clause-ticks g c = (c.in-End.ensures.fed _ _ c.loop.invariant.2).1

pub returns-in-End-clause-owned : goal.returns-in-End-clause-owned
returns-in-End-clause-owned g c = c.feed_round.ensures.owned c.loop.invariant.1

pub returns-in-End-clause-reclaimed : goal.returns-in-End-clause-reclaimed
returns-in-End-clause-reclaimed g c =
    comes-back name_of parts_of length (run_setting g.R.Run.graph g.R.Run.stack) 0
    (g.D.Desk.knows c.feed_round.new.pass).made c.in-End.left (c.in-End.ensures.fed _ _ c.loop.invariant.2).0.handed
