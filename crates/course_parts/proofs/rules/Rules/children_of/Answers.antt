use Rattle.std.proofs.Common.{◌∙◌}
use Rattle.course_parts.proofs.RulesOf.{children-at}
use Rattle.course_parts.proofs.rules.Rules.children_of.Goals as goal

pub returns-else-v-eq0 : goal.returns-else-v-eq0
returns-else-v-eq0 c = c.as_slice-else-v-eq0.ensures ∙ children-at c.args.self.now c.args.v c.node.result.now c.if-v-eq0.false c.node.ensures
