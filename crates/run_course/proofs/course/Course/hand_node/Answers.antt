use Rattle.std.proofs.Common.{◌∙◌, ap}
use Rattle.board_rules.specs.States.{past}
use Rattle.flow_journal.specs.Hands.{hand}
use Rattle.course_parts.specs.HandWords.{node_of}
use Rattle.run_course.proofs.HandWords.{node-is}
use Rattle.run_course.proofs.course.Course.hand_node.Goals as goal

pub returns : goal.returns
returns g c =
    let h = hand c.args.role (past c.args.self.now.told) in
    c.node.ensures ∙ (ap node_of c.hand.ensures ∙ node-is h)
