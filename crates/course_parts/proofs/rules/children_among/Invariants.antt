use Rattle.std.proofs.Common.{◌≡◌, take}
use Rattle.course_parts.proofs.RulesOf.{fed}
use Rattle.course_parts.proofs.rules.children_among.Given as goal

-- the children among the nodes so far
abbrev pub invariant-loop-place : goal.invariant-loop-place
invariant-loop-place l = l.children.items ≡ fed l.node 1 (take l.place l.nodes)
