use Rattle.std.proofs.Common.{refl}
use Rattle.flow_roles.specs.Lasts.{fresh_said}
use Rattle.flow_roles.proofs.TurnJoins.{fresh-at}
use Rattle.flow_roles.proofs.turn_desk.share_board.Goals as goal

pub returns-clause-fresh : goal.returns-clause-fresh
returns-clause-fresh g c =
    λ k p at. fresh-at (λ x. x.inner) (λ x. x.said) (λ q. record { inner = q; said = fresh_said }) c.in_ok-desk.desk.id c.args.roles k
    c.in_ok-passes.passes.items c.in_ok-desk.inners.items p
    (λ q. (refl, refl)) c.in_ok-desk.ensures.passes c.in_ok-passes.ensures at
