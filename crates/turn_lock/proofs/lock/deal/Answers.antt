use Rattle.std.proofs.Common.{rules, ap, ◌∙◌, arith, [], ◌<◌, ◌+◌}
use Rattle.turn_lock.specs.Views.{other_roles}
use Rattle.turn_lock.proofs.Seats.{splits}
use Rattle.turn_lock.proofs.Dealing.{others_from, dealt_one}
use Rattle.turn_lock.proofs.lock.deal.Goals as goal

pub split_seat-others-requires : goal.split_seat-others-requires
split_seat-others-requires g c = (search rules, search rules, splits _ _ _ _ c.loop-k.seat.me.0 (ap (λ m. m.0.stage) c.loop-k.invariant.1))

pub loop-k-preserved : goal.loop-k-preserved
loop-k-preserved g c = let more : c.loop-k.k + 1 < c.args.seats = omega (arith, c.loop-k-test.true, c.loop-k.invariant.2) in (
  search rules,
  search rules ∙ ap (λ (w : _). (w, [])) (ap (λ m. other_roles m.0) c.loop-k.invariant.1 ∙ others_from _ c.loop-k.k c.args.seats more),
  more,
  search rules,
  search rules,
  dealt_one _ c.args.shared.now.table_id c.loop-k.k c.args.seats c.loop-k.seat.me.0 c.loop-k.passes.items c.push_reserved.new.self.items _
      (omega (arith, more)) (ap (λ m. m.0) c.loop-k.invariant.1) (search rules) c.loop-k.invariant.5,
)
