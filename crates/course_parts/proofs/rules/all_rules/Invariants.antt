use Rattle.std.proofs.Common.{List}
use Rattle.nd_base.specs.Array.{Array}
use Rattle.flow_journal.specs.RunSetting.{setting_of}
use Rattle.course_parts.proofs.RulesOf.{RulesUpTo}
use Rattle.course_parts.proofs.rules.all_rules.Given as goal

-- the rules of the nodes so far
abbrev pub invariant-loop-place : goal.invariant-loop-place
invariant-loop-place l = (arrays : List Array) → RulesUpTo (setting_of l.plan.graph l.plan.makers arrays) l.place l.rules.items
