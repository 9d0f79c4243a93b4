use Rattle.std.proofs.Common.{rules, arith, ◌==◌}
use prog.Atomic.{either}
use Rattle.turn_lock.proofs.Waiting.{stays}
use Rattle.turn_lock.proofs.lock.TurnLock.try_door.Goals as goal

pub compare_exchange-requires : goal.compare_exchange-requires
compare_exchange-requires g c = (search rules, search rules, stays _ _ _ _ _ 2 (λ n. either (n == 0) 1 n) _ (omega arith))
