use Rattle.std.proofs.Common.{◌≡◌, ◌∙◌, ap, length, arith, ℕ}
use Rattle.std.proofs.lemmas.List.{length-map}
use Rattle.board_rules.specs.RunMeasures.{run_setting}
use Rattle.flow_journal.specs.Setting.{children}
use Rattle.course_parts.specs.RunRules.{as_node}
use Rattle.run_course.proofs.Children.{few-children}
use Rattle.run_course.proofs.course.Course.children.Goals as goal

pub returns-clause-children : goal.returns-clause-children
returns-clause-children g c = c.children_of.ensures ∙ c.self.invariant.ruled.children c.args.node c.requires

pub returns-clause-few : goal.returns-clause-few
returns-clause-few g c =
    let s = run_setting g.F.Of.Run.graph g.F.Of.Run.stack in
    let kids : c.children_of.result.now ≡ children s c.args.node = c.children_of.ensures ∙ c.self.invariant.ruled.children c.args.node c.requires in
    omega (
      arith,
      ap (length {A = ℕ}) kids,
      few-children s c.args.node,
      c.self.invariant.ruled.few_nodes,
      ap length c.self.invariant.ruled.nodes,
      length-map c.self.inside.rules.nodes as_node,
    )
