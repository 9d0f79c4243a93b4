-- What code reads of a node and of a role at the end.
use Rattle.std.specs.Prelude.{Bool, ◌&&◌, ◌==◌, length}
use Rattle.course_parts.specs.declared.node.NodeState.{NodeState}
use Rattle.course_parts.specs.declared.hand.RoleState.{RoleState}
use Rattle.course_parts.specs.HandWords.{has_nothing}

-- the node is settled, with nothing queued and nothing to save
abbrev pub is_over : NodeState → Bool
is_over n = n.settled && (length n.inbox.items == 0) && (length n.unsaved.items == 0)

abbrev pub has_free_hand : RoleState → Bool
has_free_hand x = has_nothing x.hand
