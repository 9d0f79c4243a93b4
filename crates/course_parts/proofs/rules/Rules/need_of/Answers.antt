use Rattle.course_parts.proofs.RulesOf.{need-at}
use Rattle.course_parts.proofs.rules.Rules.need_of.Goals as goal

pub returns-in-Some : goal.returns-in-Some
returns-in-Some c =
    need-at c.args.self.now c.args.v c.in-Some.rules.now c.as_slice.result.now c.as_slice.ensures c.if-v-eq0.false c.in-Some.ensures.lookup.3.0
    (c.in-Some.ensures.lookup.3.1 c.in-Some.rules.now)
