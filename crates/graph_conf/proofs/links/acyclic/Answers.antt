use Rattle.std.proofs.Common.{length, sym, ◌∙◌}
use Rattle.graph_conf.specs.Graphs.{is_circular}
use Rattle.graph_conf.proofs.Joined.{place_past}
use Rattle.graph_conf.proofs.links.acyclic.Goals as goal

pub loop-place-preserved : goal.loop-place-preserved
loop-place-preserved c =
    place_past (is_circular c.args.inputs.now) c.loop-place.place (length c.args.inputs.now) c.loop-place-test.true
    (sym c.is_circular.ensures ∙ c.if-is_circular.false) ∙ c.loop-place.invariant
