use Rattle.std.proofs.Common.{ap, ◌∙◌}
use Rattle.nd_base.specs.declared.plan.Plan.{Plan}
use Rattle.graph_conf.specs.Loads.{limit_fault}
use Rattle.demo_laws.specs.Demo.{demo_graph}
use Rattle.replay_top.proofs.DemoLimits.{demo-within}
use Rattle.replay_top.proofs.demo.make_demo.Goals as goal

pub returns-clause-within : goal.returns-clause-within
returns-clause-within c =
    ap (λ (p : Plan). limit_fault p.graph c.in_ok-stack.stack) c.in_ok-plan.ensures
    ∙ (ap (λ g. limit_fault g c.in_ok-stack.stack) c.in_ok-graph.ensures
    ∙ (ap (limit_fault (demo_graph c.args.frames)) c.in_ok-stack.ensures.value ∙ demo-within c.args.frames c.requires.few))
