use Rattle.std.proofs.Common.{◌≡◌, drop}
use Rattle.flow_journal.specs.RunSetting.{need_of as need_among}
use Rattle.course_parts.proofs.rules.need_among.Given as goal

-- none of the makers so far is the node
abbrev pub invariant-loop-maker : goal.invariant-loop-maker
invariant-loop-maker l = need_among (drop l.maker-index l.makers) l.node ≡ need_among l.makers l.node
