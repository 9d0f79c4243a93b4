use Rattle.std.proofs.Common.{◌-◌, ap, sym}
use Rattle.flow_journal.specs.Setting.{Node}
use Rattle.board_rules.specs.RunMeasures.{run_setting}
use Rattle.run_course.proofs.Reading.{place-of, rule-of}
use Rattle.run_course.proofs.course.Course.queue_of.Goals as goal

pub returns : goal.returns
returns g c =
    let s = run_setting g.F.Of.Run.graph g.F.Of.Run.stack in
    let v = c.args.v in
    let is = (place-of s v c.requires).0 in
    ap (λ (n : Node). n.queue) (sym (rule-of c.self.inside.rules s v (v - 1) c.node.result.now is c.self.invariant.ruled c.node.ensures))
