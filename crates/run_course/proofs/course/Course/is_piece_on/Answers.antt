use Rattle.std.proofs.Common.{◌∙◌, ap}
use Rattle.board_rules.specs.States.{past}
use Rattle.flow_journal.specs.Hands.{hand}
use Rattle.course_parts.specs.HandWords.{saves_on}
use Rattle.run_course.proofs.HandWords.{saves_on-is}
use Rattle.run_course.proofs.course.Course.is_piece_on.Goals as goal

pub returns : goal.returns
returns g c =
    let h = hand c.args.role (past c.args.self.now.told) in
    c.is_piece_on.ensures ∙ (ap (saves_on c.args.name) c.hand.ensures ∙ saves_on-is c.args.name h)
