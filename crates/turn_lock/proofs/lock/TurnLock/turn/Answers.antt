use Rattle.std.proofs.Common.{rules, subst, sym}
use Rattle.turn_lock.specs.Passes.{Called, pass_facts}
use Rattle.turn_lock.specs.Steps.{Seated}
use Rattle.turn_lock.proofs.Growth.{of_move}
use Rattle.turn_lock.proofs.Turn.{turn_ends, turn_tells}
use Rattle.turn_lock.proofs.lock.TurnLock.turn.Goals as goal

pub fetch_add-requires : goal.fetch_add-requires
fetch_add-requires g c = (
  search rules,
  search rules,
  turn_ends g.S.Object.entries g.S.Object.begins _ (g.S.Object.role c.args.op) (λ mine. g.S.Object.may mine c.args.op)
      c.args.seat.now.me.0 c.begin.new.seat.me c.slot_mut-state.result.now c.play-reply.new.self _ _
      c.requires.may c.begin.ensures.turn c.slot_mut-state.ensures.value
      (c.play-reply.ensures.0, c.play-reply.ensures.1, of_move g.S.Object.begins (g.S.Object.role c.args.op) c.play-reply.ensures.0 c.play-reply.ensures.2),
)

pub returns-clause-call : goal.returns-clause-call
returns-clause-call g c =
    subst (λ (m : Seated g.row.S.Denot g.row.S-Entry.Denot). Called g.S.Object.begins (g.S.Object.role c.args.op)
    (λ before added. g.S.Object.answers before c.args.op c.play-reply.result added)
    (pass_facts c.args.seat.now.table_id c.args.seat.now.me.0.seen c.args.seat.now.me.0.made)
    (pass_facts c.args.seat.now.table_id m.0.seen m.0.made)) (sym c.leave_door.ensures.stays)
    (turn_tells g.S.Object.entries g.S.Object.begins 0 (g.S.Object.role c.args.op) (λ mine. g.S.Object.may mine c.args.op)
    c.args.seat.now.me.0 c.begin.new.seat.me c.slot_mut-state.result.now c.play-reply.new.self c.args.seat.now.table_id c.fetch_add.new.seat.me
    c.begin.ensures.turn c.slot_mut-state.ensures.value (λ before added. g.S.Object.answers before c.args.op c.play-reply.result added)
    c.play-reply.ensures c.fetch_add.ensures.2)
