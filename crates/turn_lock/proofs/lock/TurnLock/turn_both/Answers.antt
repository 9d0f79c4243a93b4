use Rattle.std.proofs.Common.{rules, subst, sym}
use Rattle.turn_lock.specs.Passes.{CalledBoth, pass_facts}
use Rattle.turn_lock.specs.Steps.{Seated}
use Rattle.turn_lock.proofs.Turn.{turn_ends, both_grown, both_tell}
use Rattle.turn_lock.proofs.lock.TurnLock.turn_both.Goals as goal

pub fetch_add-requires : goal.fetch_add-requires
fetch_add-requires g c = (
  search rules,
  search rules,
  turn_ends g.S.Object.entries g.S.Object.begins _ (g.S.Object.role c.args.first) (λ mine. g.S.Object.may mine c.args.first)
      c.args.seat.now.me.0 c.begin.new.seat.me c.slot_mut-state.result.now c.play_both-replies.new.state _ _
      c.requires.first c.begin.ensures.turn c.slot_mut-state.ensures.value
      (both_grown g.S.Object.entries g.S.Object.begins 0 (g.S.Object.role c.args.first) (λ mine. g.S.Object.may mine c.args.first)
      c.args.seat.now.me.0 c.begin.new.seat.me c.slot_mut-state.result.now c.play_both-replies.new.state
      (λ before added. g.S.Object.answers before c.args.first c.play_both-replies.result.0 added)
      (λ before added. g.S.Object.answers before c.args.second c.play_both-replies.result.1 added) c.play_both-replies.ensures),
)

pub returns-clause-calls : goal.returns-clause-calls
returns-clause-calls g c =
    subst (λ (m : Seated g.row.S.Denot g.row.S-Entry.Denot). CalledBoth g.S.Object.begins (g.S.Object.role c.args.first)
    (λ before added. g.S.Object.answers before c.args.first c.play_both-replies.result.0 added)
    (λ before added. g.S.Object.answers before c.args.second c.play_both-replies.result.1 added)
    (pass_facts c.args.seat.now.table_id c.args.seat.now.me.0.seen c.args.seat.now.me.0.made)
    (pass_facts c.args.seat.now.table_id m.0.seen m.0.made)) (sym c.leave_door.ensures.stays)
    (both_tell g.S.Object.entries g.S.Object.begins 0 (g.S.Object.role c.args.first) (λ mine. g.S.Object.may mine c.args.first)
    c.args.seat.now.me.0 c.begin.new.seat.me c.slot_mut-state.result.now c.play_both-replies.new.state c.args.seat.now.table_id c.fetch_add.new.seat.me
    c.begin.ensures.turn c.slot_mut-state.ensures.value (λ before added. g.S.Object.answers before c.args.first c.play_both-replies.result.0 added)
    (λ before added. g.S.Object.answers before c.args.second c.play_both-replies.result.1 added) c.requires.first
    c.play_both-replies.ensures c.fetch_add.ensures.2)
