use Rattle.std.proofs.Common.{◌∙◌, ap}
use Rattle.board_rules.specs.States.{past}
use Rattle.flow_journal.specs.Hands.{hand}
use Rattle.course_parts.specs.HandWords.{works_on}
use Rattle.run_course.proofs.HandWords.{works_on-is}
use Rattle.run_course.proofs.course.Course.is_job_on.Goals as goal

pub returns : goal.returns
returns g c =
    let h = hand c.args.role (past c.args.self.now.told) in
    c.is_job_on.ensures ∙ (ap (works_on c.args.node c.args.name) c.hand.ensures ∙ works_on-is c.args.node c.args.name h)
