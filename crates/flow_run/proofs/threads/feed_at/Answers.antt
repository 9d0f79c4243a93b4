use Rattle.std.proofs.Common.{sym, ◌∙◌, subst}
use Rattle.flow_roles.specs.TurnPasses.{known_by, IsPassOf}
use Rattle.flow_run.specs.Seats.{IsReady}
use Rattle.flow_run.proofs.threads.feed_at.Goals as goal

pub returns-else-has_thread-clause-ticks : goal.returns-else-has_thread-clause-ticks
returns-else-has_thread-clause-ticks g c =
    let begins = c.in-Ready.pass in
    let ready =
    subst (λ x. IsReady (λ p. IsPassOf c.args.desk.now.id p.inner) (λ p. known_by p.inner p.said) 0 0 x)
    (sym c.replace.ensures.value ∙ c.in-Ready.is) c.requires.ready in
    (known_by begins.inner begins.said, ready.3, c.leave_feed-end.ensures.ticks (g.C.Clock.coming c.args.clock.now))
