use Rattle.std.proofs.Common.{◌∙◌, arith}
use Rattle.board_rules.specs.RunMeasures.{run_setting}
use Rattle.run_course.proofs.Children.{child-node}
use Rattle.run_course.proofs.course.Course.load_refusal.Goals as goal

pub have_room-requires : goal.have_room-requires
have_room-requires g c =
    let s = run_setting g.F.Of.Run.graph g.F.Of.Run.stack in
    λ j d lt. child-node s 0 j d c.children_of.result.now (c.children_of.ensures ∙ c.self.invariant.ruled.children 0 (omega arith)) lt
