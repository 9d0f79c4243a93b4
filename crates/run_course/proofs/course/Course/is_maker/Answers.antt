use Rattle.std.proofs.Common.{◌∙◌, ap}
use Rattle.flow_journal.specs.Setting.{Node, makes}
use Rattle.run_course.proofs.course.Course.is_maker.Goals as goal

pub returns : goal.returns
returns g c = c.makes.ensures ∙ ap (λ (n : Node). makes n.work) c.rules_of.ensures.rule
