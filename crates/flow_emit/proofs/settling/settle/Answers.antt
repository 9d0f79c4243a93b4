use Rattle.std.proofs.Common.{◌∙◌, sym, ap}
use Rattle.run_course.specs.Puts.{is_watching}
use Rattle.flow_emit.proofs.Flushing.{not-watching}
use Rattle.flow_emit.proofs.settling.settle.Goals as goal

pub settle_circular-requires-clause-kind : goal.settle_circular-requires-clause-kind
settle_circular-requires-clause-kind g c = ap is_watching (sym c.in-Watches.ensures)

pub settle_plain-requires-clause-kind : goal.settle_plain-requires-clause-kind
settle_plain-requires-clause-kind g c = ap is_watching (sym c.work.ensures) ∙ not-watching c.work.result c.in-Makes.is
