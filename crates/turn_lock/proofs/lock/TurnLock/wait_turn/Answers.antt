use Rattle.std.proofs.Common.{rules, subst, sym}
use Rattle.turn_lock.specs.Steps.{HasDrawn}
use Rattle.turn_lock.proofs.Waiting.{polls_drawn}
use Rattle.turn_lock.proofs.lock.TurnLock.wait_turn.Goals as goal

pub load-requires : goal.load-requires
load-requires g c = (
  search rules,
  search rules,
  polls_drawn _ _ _ _ _ c.args.ticket c.args.seat.now.me.0 c.loop.seat.me
      (subst (HasDrawn c.args.seat.now.me.0 c.args.ticket) (sym c.loop.invariant.2) c.requires.1),
)
