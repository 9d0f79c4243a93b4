use Rattle.std.proofs.Common.{ℕ, ap, ◌++◌, ◌∙◌}
use Rattle.std.specs.Prelude.{reverse}
use Rattle.board_rules.specs.RunMeasures.{run_setting, run_measure}
use Rattle.turn_lock.specs.Passes.{MayFollow}
use Rattle.flow_roles.specs.Operations.{frames_of, role_of, tick_of, MayBePlayed, IsPlayed, said_reply}
use Rattle.flow_roles.specs.declared.last.Said.{Said}
use Rattle.flow_roles.specs.TurnPasses.{moves_in}
use Rattle.flow_roles.proofs.TurnCalls.{may-call, both-called, both-lend}
use Rattle.flow_roles.proofs.turn_desk.TurnLockPlayedDesk.call_both.Goals as goal

pub call_both-one-requires-clause-second : goal.call_both-one-requires-clause-second
call_both-one-requires-clause-second g c =
    let fs = frames_of g.F.Named.name_of g.F.Held.parts g.F.Held.bytes_of (run_measure g.F.Of.Run.graph g.F.Of.Run.stack) in
    let s = run_setting g.F.Of.Run.graph g.F.Of.Run.stack in
    let made = c.args.pass.now.inner.made in
    may-call (λ mine. MayFollow (λ own o. MayBePlayed fs s own o) (λ old o reply added. IsPlayed {O = g.row.F-Of.Denot} fs s old o reply added)
    c.args.first c.args.second mine) (role_of c.args.second) made c.requires.pass.0.1 c.requires.pass.2
    (λ before added reply is. c.requires.second (reverse (moves_in made ++ added)))

pub returns-clause-called : goal.returns-clause-called
returns-clause-called g c =
    let fs = frames_of g.F.Named.name_of g.F.Held.parts g.F.Held.bytes_of (run_measure g.F.Of.Run.graph g.F.Of.Run.stack) in
    let s = run_setting g.F.Of.Run.graph g.F.Of.Run.stack in
    let before = c.args.pass.now.said in
    both-called fs s c.args.first c.args.second c.call_both-one.result.0 c.call_both-one.result.1 c.args.pass.now.inner c.call_both-one.new.pass
    c.requires.pass.0.1 c.requires.pass.1 c.requires.pass.2 c.call_both-one.ensures.calls before _
    (said_reply (tick_of c.args.first) c.call_both-one.result.0) (said_reply (tick_of c.args.second) c.call_both-one.result.1)
    (c.note-2.ensures ∙ (ap (λ (n : ℕ). said_reply n c.call_both-one.result.1 c.note.new.self) c.tick-2.ensures
    ∙ ap (λ (said : Said). said_reply (tick_of c.args.second) c.call_both-one.result.1 said)
    (c.note.ensures ∙ ap (λ (n : ℕ). said_reply n c.call_both-one.result.0 before) c.tick.ensures)))

pub returns-clause-lends : goal.returns-clause-lends
returns-clause-lends g c =
    both-lend (frames_of g.F.Named.name_of g.F.Held.parts g.F.Held.bytes_of (run_measure g.F.Of.Run.graph g.F.Of.Run.stack))
    (run_setting g.F.Of.Run.graph g.F.Of.Run.stack) c.args.first c.args.second c.call_both-one.result.0 c.call_both-one.result.1
    c.args.pass.now.inner c.call_both-one.new.pass c.requires.pass.0.1 c.requires.pass.1 c.requires.pass.2 c.call_both-one.ensures.calls
