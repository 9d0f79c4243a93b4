use Rattle.std.proofs.Common.{◌-◌, length, sym, ap, subst, arith}
use Rattle.std.proofs.lemmas.List.{length-map}
use Rattle.board_rules.specs.RunMeasures.{run_setting}
use Rattle.course_parts.specs.declared.rules.NodeRules.{NodeRules}
use Rattle.course_parts.specs.RunRules.{as_node}
use Rattle.std.proofs.lemmas.Option.{slice_get_within, get_or_from_slice_get}
use Rattle.course_parts.specs.RunRules.{IsNodeWithin, IsWorkWithin}
use Rattle.run_course.proofs.Reading.{place-of, rule-of}
use Rattle.run_course.proofs.course.Course.rules_of.Goals as goal

pub returns-clause-rule : goal.returns-clause-rule
returns-clause-rule g c =
    let s = run_setting g.F.Of.Run.graph g.F.Of.Run.stack in
    sym (rule-of c.self.inside.rules s c.args.node (c.args.node - 1) c.node.result.now
    (place-of s c.args.node c.requires).0 c.self.invariant.ruled c.node.ensures)

pub returns-clause-within : goal.returns-clause-within
returns-clause-within g c =
    let r = c.node.result.now in
    let ns = c.self.inside.rules.nodes in
    subst (λ (x : NodeRules). IsWorkWithin x.work) (get_or_from_slice_get ns (c.args.node - 1) r r c.node.ensures)
    (c.self.invariant.ruled.works (c.args.node - 1) r (slice_get_within ns (c.args.node - 1) r c.node.ensures))

pub returns-clause-input : goal.returns-clause-input
returns-clause-input g c =
    let r = c.node.result.now in
    let ns = c.self.inside.rules.nodes in
    let within : IsNodeWithin (length ns) r =
    subst (λ (x : NodeRules). IsNodeWithin (length ns) x) (get_or_from_slice_get ns (c.args.node - 1) r r c.node.ensures)
    (c.self.invariant.ruled.within (c.args.node - 1) r (slice_get_within ns (c.args.node - 1) r c.node.ensures)) in
    omega (arith, within.0, ap length c.self.invariant.ruled.nodes, length-map ns as_node)
