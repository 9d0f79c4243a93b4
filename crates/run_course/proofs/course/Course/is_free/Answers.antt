use Rattle.std.proofs.Common.{◌∙◌, ap}
use Rattle.board_rules.specs.States.{past}
use Rattle.flow_journal.specs.Hands.{hand}
use Rattle.course_parts.specs.HandWords.{has_nothing}
use Rattle.run_course.proofs.HandWords.{free-is}
use Rattle.run_course.proofs.course.Course.is_free.Goals as goal

pub returns : goal.returns
returns g c =
    let h = hand c.args.role (past c.args.self.now.told) in
    c.is_free.ensures ∙ (ap has_nothing c.hand.ensures ∙ free-is c.args.role (past c.args.self.now.told))
