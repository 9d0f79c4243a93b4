use Rattle.std.proofs.Common.{subst}
use Rattle.board_rules.specs.RunMeasures.{run_setting, run_measure}
use Rattle.board_rules.specs.States.{past}
use Rattle.run_course.specs.Courses.{IsCourse, Coursed}
use Rattle.course_parts.specs.NodeStates.{IsNode}
use Rattle.run_course.proofs.Opening.{parts}
use Rattle.run_course.proofs.Finding.{node-found, node-is, few-saves}
use Rattle.run_course.proofs.course.Course.state.Goals as goal

pub returns-clause-kept : goal.returns-clause-kept
returns-clause-kept g c =
    let m = run_measure g.F.Of.Run.graph g.F.Of.Run.stack in
    let s = run_setting g.F.Of.Run.graph g.F.Of.Run.stack in
    let k = parts c.self.inside in
    let i : IsCourse m s k = c.self.invariant in
    let v = c.args.node in
    let n = c.index.result.now in
    subst (λ (w : Coursed). IsNode m s v (past w.told) n) c.self.view_is (node-is m s k v n i c.requires (node-found m s k v n i c.requires c.index.ensures))

pub returns-clause-few : goal.returns-clause-few
returns-clause-few g c =
    let m = run_measure g.F.Of.Run.graph g.F.Of.Run.stack in
    let s = run_setting g.F.Of.Run.graph g.F.Of.Run.stack in
    let k = parts c.self.inside in
    let i : IsCourse m s k = c.self.invariant in
    few-saves m s k c.args.node c.index.result.now i c.requires (node-found m s k c.args.node c.index.result.now i c.requires c.index.ensures)
