use Rattle.std.proofs.Common.{◌∙◌, sym}
use Rattle.board_rules.specs.RunMeasures.{run_setting}
use Rattle.flow_emit.proofs.Offering.{dealing-node}
use Rattle.flow_emit.proofs.emission.pass_on.Goals as goal

pub deal-requires-clause-node : goal.deal-requires-clause-node
deal-requires-clause-node g c =
    let s = run_setting g.F.Of.Run.graph g.F.Of.Run.stack in
    dealing-node s c.args.from c.requires.node (sym c.deals.ensures ∙ c.if-deals.true)
