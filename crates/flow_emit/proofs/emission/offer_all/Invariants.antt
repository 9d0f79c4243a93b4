use Rattle.board_rules.specs.RunMeasures.{run_setting}
use Rattle.flow_emit.specs.Emissions.{OffersMade}
use Rattle.flow_emit.proofs.emission.offer_all.Given as goal

abbrev pub invariant-loop-place : goal.invariant-loop-place
invariant-loop-place g l = OffersMade (run_setting g.F.Of.Run.graph g.F.Of.Run.stack) l.from l.name l.place l.initial.course l.course
