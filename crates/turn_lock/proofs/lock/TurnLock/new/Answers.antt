use Rattle.std.proofs.Common.{◌≡◌, ◌∷◌, [], List, replicate, subst, sym, arith}
use Rattle.atomic_table.specs.Table.{opening}
use Rattle.turn_lock.specs.Views.{first_view}
use Rattle.turn_lock.specs.Rule.{TurnRule}
use Rattle.turn_lock.proofs.Seats.{opens}
use Rattle.turn_lock.proofs.lock.TurnLock.new.Goals as goal

pub new-requires : goal.new-requires
new-requires g c = let is : c.in_ok-slots.slots.items ≡ c.args.state ∷ [] = c.in_ok-slots.ensures in let fits = c.ranges.seats.fits in
    subst (λ (xs : List g.row.S.Denot). TurnRule g.S.Object.entries g.S.Object.begins c.args.seats
    (opening (replicate 3 0) xs (first_view c.args.seats)))
    (sym is) (opens g.S.Object.entries g.S.Object.begins c.args.seats (replicate 1 0) c.args.state c.requires.0 (omega (arith, fits)) c.requires.1)
