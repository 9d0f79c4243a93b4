use Rattle.std.proofs.Common.{◌∙◌, ap}
use Rattle.board_rules.specs.States.{past}
use Rattle.flow_journal.specs.Hands.{hand}
use Rattle.course_parts.specs.HandWords.{shares}
use Rattle.run_course.proofs.HandWords.{shares-is}
use Rattle.run_course.proofs.course.Course.has_part_of.Goals as goal

pub returns : goal.returns
returns g c =
    let h = hand c.args.role (past c.args.self.now.told) in
    c.has_part_of.ensures ∙ (ap (shares c.args.name) c.hand.ensures ∙ shares-is c.args.name h)
