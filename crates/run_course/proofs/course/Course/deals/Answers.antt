use Rattle.std.proofs.Common.{◌≡◌, ◌∙◌, ◌-◌, suc, sym, ap, arith}
use Rattle.board_rules.specs.RunMeasures.{run_setting, run_measure}
use Rattle.flow_journal.specs.Setting.{Node}
use Rattle.flow_journal.specs.Turns.{is_dealing}
use Rattle.run_course.specs.Courses.{IsCourse}
use Rattle.run_course.proofs.Opening.{parts}
use Rattle.run_course.proofs.Reading.{rule-of}
use Rattle.run_course.proofs.course.Course.deals.Goals as goal

pub returns-then-node-gt0 : goal.returns-then-node-gt0
returns-then-node-gt0 g c =
    let a = c.self.inside in
    let s = run_setting g.F.Of.Run.graph g.F.Of.Run.stack in
    let m = run_measure g.F.Of.Run.graph g.F.Of.Run.stack in
    let k = parts a in
    let i : IsCourse m s k = c.self.invariant in
    let node_is : suc (c.args.node - 1) ≡ c.args.node = omega (arith, c.if-node-gt0.true) in
    let rule = rule-of a.rules s c.args.node (c.args.node - 1) c.node.result.now node_is i.ruled c.node.ensures in
    c.deals.ensures ∙ sym (ap (λ (o : Node). is_dealing o.work) rule)
