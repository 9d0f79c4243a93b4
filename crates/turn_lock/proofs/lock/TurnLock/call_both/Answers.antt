use Rattle.std.proofs.Common.{subst}
use Rattle.turn_lock.specs.Passes.{PassFacts, CalledBoth, pass_facts}
use Rattle.turn_lock.proofs.lock.TurnLock.call_both.Goals as goal

pub returns-clause-calls : goal.returns-clause-calls
returns-clause-calls g c =
    subst (λ (p : PassFacts g.row.S-Entry.Denot). CalledBoth g.S.Object.begins (g.S.Object.role c.args.first)
    (λ before added. g.S.Object.answers before c.args.first c.turn_both.result.0 added)
    (λ before added. g.S.Object.answers before c.args.second c.turn_both.result.1 added)
    p (pass_facts c.args.pass.now.lock c.turn_both.new.seat.me.0.seen c.turn_both.new.seat.me.0.made)) c.pass.view_is c.turn_both.ensures.calls
