use Rattle.std.proofs.Common.{rules}
use Rattle.turn_lock.proofs.Waiting.{draws}
use Rattle.turn_lock.proofs.lock.TurnLock.begin.Goals as goal

pub fetch_add-ticket-requires : goal.fetch_add-ticket-requires
fetch_add-ticket-requires g c = (search rules, search rules, draws _ _ _ _ _ c.take_door.new.seat.me (search rules) (search rules) (search rules))
