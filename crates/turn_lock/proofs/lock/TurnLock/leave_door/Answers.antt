use Rattle.std.proofs.Common.{rules, arith}
use Rattle.turn_lock.proofs.Waiting.{stays}
use Rattle.turn_lock.proofs.lock.TurnLock.leave_door.Goals as goal

pub swap-requires : goal.swap-requires
swap-requires g c = (search rules, search rules, stays _ _ _ _ _ 2 (λ _. 0) _ (omega arith))
