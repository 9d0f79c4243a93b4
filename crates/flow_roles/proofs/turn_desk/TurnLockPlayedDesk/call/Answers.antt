use Rattle.std.proofs.Common.{ℕ, ap, ◌∙◌}
use Rattle.board_rules.specs.RunMeasures.{run_setting, run_measure}
use Rattle.flow_roles.specs.Operations.{frames_of, role_of, tick_of, MayBePlayed, said_reply}
use Rattle.flow_roles.proofs.TurnCalls.{may-call, calls-one, called, called-lends, told-last}
use Rattle.flow_roles.proofs.turn_desk.TurnLockPlayedDesk.call.Goals as goal

pub call-reply-requires-clause-may : goal.call-reply-requires-clause-may
call-reply-requires-clause-may g c =
    let fs = frames_of g.F.Named.name_of g.F.Held.parts g.F.Held.bytes_of (run_measure g.F.Of.Run.graph g.F.Of.Run.stack) in
    may-call (λ mine. MayBePlayed fs (run_setting g.F.Of.Run.graph g.F.Of.Run.stack) mine c.args.op) (role_of c.args.op)
    c.args.pass.now.inner.made c.requires.pass.0.1 c.requires.pass.1 c.requires.may

pub returns-clause-ours : goal.returns-clause-ours
returns-clause-ours g c = (
  c.call-reply.ensures.own ∙ c.requires.pass.0.0,
  calls-one (frames_of g.F.Named.name_of g.F.Held.parts g.F.Held.bytes_of (run_measure g.F.Of.Run.graph g.F.Of.Run.stack))
      (run_setting g.F.Of.Run.graph g.F.Of.Run.stack)
      c.args.op c.call-reply.result c.args.pass.now.inner c.call-reply.new.pass c.requires.pass.0.1 c.call-reply.ensures.call,
)

pub returns-clause-called : goal.returns-clause-called
returns-clause-called g c =
    let fs = frames_of g.F.Named.name_of g.F.Held.parts g.F.Held.bytes_of (run_measure g.F.Of.Run.graph g.F.Of.Run.stack) in
    let s = run_setting g.F.Of.Run.graph g.F.Of.Run.stack in
    let before = c.args.pass.now.said in
    told-last s _ (said_reply (tick_of c.args.op) c.call-reply.result) _ c.call-reply.new.pass before _
    (c.note.ensures ∙ ap (λ (n : ℕ). said_reply n c.call-reply.result before) c.tick-tick.ensures)
    (called fs s c.args.op c.call-reply.result before (said_reply (tick_of c.args.op) c.call-reply.result) c.args.pass.now.inner c.call-reply.new.pass
    c.requires.pass.0.1 c.requires.pass.1 c.call-reply.ensures.call)

pub returns-clause-lends : goal.returns-clause-lends
returns-clause-lends g c =
    called-lends (frames_of g.F.Named.name_of g.F.Held.parts g.F.Held.bytes_of (run_measure g.F.Of.Run.graph g.F.Of.Run.stack))
    (run_setting g.F.Of.Run.graph g.F.Of.Run.stack)
    c.args.op c.call-reply.result c.args.pass.now.inner c.call-reply.new.pass c.requires.pass.0.1 c.requires.pass.1 c.call-reply.ensures.call
