use Rattle.std.proofs.Common.{rules, ◌≡◌, []}
use Rattle.turn_lock.specs.Views.{joined}
use Rattle.turn_lock.proofs.Seats.{joins, settles_joined}
use Rattle.turn_lock.proofs.lock.TurnLock.take_in.Goals as goal

pub join_seat-requires : goal.join_seat-requires
join_seat-requires g c = (
  search rules,
  search rules,
  search rules,
  search rules,
  joins _ _ _ _ c.args.seat.now.me.0 _ c.args.other.me.0 c.requires.idle.0 c.requires.idle.2,
)

pub load-requires : goal.load-requires
load-requires g c = let is : c.join_seat.new.seat.me ≡ (joined c.args.seat.now.me.0 c.args.other.me.0, []) = search rules in
    (search rules, search rules, settles_joined _ _ _ _ _ c.args.seat.now.me.0 c.args.other.me.0 c.join_seat.new.seat.me is)
