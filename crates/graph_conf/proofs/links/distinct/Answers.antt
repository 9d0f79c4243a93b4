use Rattle.std.proofs.Common.{length, sym, ◌∙◌}
use Rattle.graph_conf.specs.Graphs.{is_double}
use Rattle.graph_conf.proofs.Joined.{place_past}
use Rattle.graph_conf.proofs.links.distinct.Goals as goal

pub loop-place-preserved : goal.loop-place-preserved
loop-place-preserved c =
    place_past (is_double c.args.nodes.now) c.loop-place.place (length c.args.nodes.now) c.loop-place-test.true (sym c.is_double.ensures ∙ c.if-is_double.false)
    ∙ c.loop-place.invariant
