use Rattle.std.proofs.Common.{◌∙◌, ap, sym, subst, List, map}
use Rattle.nd_base.specs.declared.plan.Plan.{Plan}
use Rattle.flow_journal.specs.Setting.{Setting}
use Rattle.flow_journal.specs.RunSetting.{need_of as need_among, node_of, setting_of}
use Rattle.board_rules.specs.RunMeasures.{run_setting}
use Rattle.course_parts.specs.declared.rules.NodeRules.{NodeRules}
use Rattle.course_parts.specs.RunRules.{AreNodeRules}
use Rattle.course_parts.proofs.RulesOf.{are_rules}
use Rattle.course_parts.proofs.rules.Rules.of.Goals as goal

pub returns : goal.returns
returns g c =
    let graph = g.R.Run.graph in
    let stack = g.R.Run.stack in
    let s : Setting = run_setting graph stack in
    let planned = c.requires.plan in
    let of_plan : AreNodeRules s c.in_ok-nodes.nodes.items =
    subst (λ (p : Plan). AreNodeRules (setting_of p.graph p.makers stack.arrays) c.in_ok-nodes.nodes.items) planned (c.in_ok-nodes.ensures stack.arrays) in
    are_rules graph stack _ c.requires.graph c.requires.stack
    (ap (λ (p : Plan). p.graph.wait) planned)
    (ap (λ (p : Plan). p.graph.limit) planned)
    (c.new.ensures ∙ c.in_ok-ids.ensures.items_if_clones_equal (λ x y e. e) ∙ c.as_slice.ensures ∙ ap (λ (p : Plan). p.ids) planned)
    (c.need_among.ensures ∙ ap (λ ms. need_among ms 0) (c.as_slice-3.ensures ∙ ap (λ (p : Plan). p.makers) planned))
    (c.new-2.ensures ∙ c.in_ok-children.ensures s (ap (map node_of) (sym (c.as_slice-2.ensures ∙ ap (λ (p : Plan). p.graph.nodes) planned))))
    (subst (λ (ns : List NodeRules). AreNodeRules s ns) (sym c.new-3.ensures) of_plan)
