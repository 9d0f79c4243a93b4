use Rattle.std.proofs.Common.{ap, ◌∙◌, length, arith}
use Rattle.flow_run.proofs.Parting.{parting-back, parting-on}
use Rattle.flow_run.proofs.seats.part_all.Goals as goal

pub part_one-requires-clause-back : goal.part_one-requires-clause-back
part_one-requires-clause-back g c = parting-back _ _ _ _ _ _ c.in-Some.seat c.next.new.self.rest.items c.in-Some.ensures.steps.0 c.loop-seat.invariant.0

pub loop-seat-preserved : goal.loop-seat-preserved
loop-seat-preserved g c =
    let i = c.loop-seat.invariant in
    let e = c.part_one.ensures in
    let fewer = ap length c.in-Some.ensures.steps.0 in (
      parting-on c.args.seats.items c.loop-seat.seat-iterator.rest.items c.args.passes.now.items c.loop-seat.passes.items c.args.lefts.now.items
          c.loop-seat.lefts.items c.in-Some.seat c.next.new.self.rest.items
          c.part_one.new.passes.items c.part_one.new.lefts.items c.in-Some.ensures.steps.0 e.passes e.lefts i.0,
      omega (arith, fewer, i.1, e.room.0, e.many.0),
      omega (arith, fewer, i.2, e.room.1, e.many.1),
      e.room.0 ∙ i.3,
      omega (arith, fewer, i.4, e.many.0),
    )
