use Rattle.std.proofs.Common.{vec_len}
use Rattle.flow_roles.proofs.TurnJoins.{Joined}
use Rattle.flow_roles.proofs.turn_desk.join_all.Given as goal

abbrev pub invariant-loop-pass : goal.invariant-loop-pass
invariant-loop-pass g l = Joined (λ p. p.inner) l.desk.id l.fn.passes.items l.passes.items l.keep

abbrev pub decreases-loop-pass : goal.decreases-loop-pass
decreases-loop-pass g l = vec_len l.passes
