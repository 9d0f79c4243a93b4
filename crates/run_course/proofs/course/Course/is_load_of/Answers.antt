use Rattle.std.proofs.Common.{◌∙◌, ap}
use Rattle.board_rules.specs.States.{past}
use Rattle.flow_journal.specs.Hands.{hand}
use Rattle.course_parts.specs.HandWords.{loads}
use Rattle.run_course.proofs.HandWords.{loads-is}
use Rattle.run_course.proofs.course.Course.is_load_of.Goals as goal

pub returns : goal.returns
returns g c =
    let h = hand c.args.role (past c.args.self.now.told) in
    c.is_load_of.ensures ∙ (ap (loads c.args.name) c.hand.ensures ∙ loads-is c.args.name h)
