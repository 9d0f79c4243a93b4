use Rattle.std.proofs.Common.{ℕ, ap, ◌∙◌}
use Rattle.board_rules.specs.RunMeasures.{run_setting, run_measure}
use Rattle.flow_roles.specs.Leaving.{made_at}
use Rattle.flow_roles.specs.Operations.{frames_of, tick_of, Replies, said_reply}
use Rattle.flow_roles.proofs.Playing.{role-most}
use Rattle.flow_roles.proofs.Leaving.{by-call}
use Rattle.flow_roles.proofs.left_desk.LeftDeskDesk.call.Goals as goal

pub returns-clause-called : goal.returns-clause-called
returns-clause-called g c =
    let fs = frames_of g.F.Named.name_of g.F.Held.parts g.F.Held.bytes_of (run_measure g.F.Of.Run.graph g.F.Of.Run.stack) in
    let s = run_setting g.F.Of.Run.graph g.F.Of.Run.stack in
    let p = c.args.pass.now in
    by-call s (λ old new. Replies fs s old c.args.op c.answer-reply.result new) (said_reply (tick_of c.args.op) c.answer-reply.result) c.args.op p
    c.next_stage-stage.result c.note.new.self c.requires.pass.1 (role-most fs s (made_at p.role p.stage) c.args.op c.requires.may)
    c.next_stage-stage.ensures (c.note.ensures ∙ ap (λ (n : ℕ). said_reply n c.answer-reply.result p.said) c.tick-tick.ensures)
    c.answer-reply.ensures.replies
