use Rattle.std.proofs.Common.{ap, sym, subst, ◌∙◌}
use Rattle.nd_base.specs.GraphRules.{IsGraph}
use Rattle.nd_base.specs.declared.graph.Graph.{Graph}
use Rattle.chain_plain.specs.Plans.{shape_at, plan_of}
use Rattle.graph_conf.proofs.load.made_at.Goals as goal

pub maker_for-requires-clause-graph : goal.maker_for-requires-clause-graph
maker_for-requires-clause-graph c = subst IsGraph (sym (ap (λ p. p.graph) c.requires.plan)) c.requires.graph

pub maker_for-requires-clause-plan : goal.maker_for-requires-clause-plan
maker_for-requires-clause-plan c = c.requires.plan ∙ ap (λ (g : Graph). plan_of g c.args.stack.now) (sym (ap (λ p. p.graph) c.requires.plan))

pub returns-clause-kind : goal.returns-clause-kind
returns-clause-kind c =
    ap (λ m. m.kind) c.maker_for.ensures.shape
    ∙ ap (λ (g : Graph). (shape_at g.nodes c.args.stack.now.shape c.args.node).kind) (ap (λ p. p.graph) c.requires.plan)

pub returns-clause-dims : goal.returns-clause-dims
returns-clause-dims c =
    ap (λ m. m.dims) c.maker_for.ensures.shape
    ∙ ap (λ (g : Graph). (shape_at g.nodes c.args.stack.now.shape c.args.node).dims) (ap (λ p. p.graph) c.requires.plan)
