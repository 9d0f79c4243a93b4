use Rattle.std.proofs.Common.{◌≡◌, ◌∙◌, ◌-◌, ap, get_or, List}
use Rattle.board_rules.specs.RunMeasures.{run_setting}
use Rattle.flow_journal.specs.Setting.{Node, node}
use Rattle.course_parts.specs.RunRules.{as_node}
use Rattle.course_parts.specs.declared.rules.NodeRules.{NodeRules}
use Rattle.run_course.proofs.RuleFound.{rule-found}
use Rattle.run_course.proofs.course.Course.work.Goals as goal

pub returns : goal.returns
returns g c =
    let n = c.index-as_slice-node.result in
    let s = run_setting g.F.Of.Run.graph g.F.Of.Run.stack in
    let rule : as_node n ≡ node s c.args.node =
    rule-found s c.self.inside.rules c.args.node n c.self.invariant.ruled c.requires
    (c.index-as_slice-node.is ∙ ap (λ (ns : List NodeRules). get_or ns (c.args.node - 1) n) c.as_slice.ensures) in
    ap (λ (m : Node). m.work) rule
