-- What is kept of a role, by the log.
use Rattle.std.specs.Prelude.{◌≡◌, ◌+◌, ℕ, List, length, Option, Some, None, slice_get}
use Rattle.flow_journal.specs.declared.entry.Entry.{Entry}
use Rattle.flow_journal.specs.declared.entry.Entry.TheVariants as entry
use Rattle.course_parts.specs.declared.hand.Hand.{Hand}
use Rattle.course_parts.specs.declared.hand.Hand.TheVariants.{Free, Loaded, Job, Piece}
use Rattle.course_parts.specs.declared.hand.RoleState.{RoleState}
use Rattle.flow_journal.specs.Setting.{Setting, last_role}
use Rattle.flow_journal.specs.Pasts.{Past, frame}
use Rattle.flow_journal.specs.Hands.{hand}
use Rattle.flow_journal.specs.Ended.{has_left, was_reclaimed}

-- the hand, by the entry that gave it
abbrev pub hand_of : Option Entry → Hand
hand_of (Some (entry.Load r k b n f g x)) = Loaded k (record { number = b; size = n })
hand_of (Some (entry.Take r v m k)) = Job v (frame m k) None
hand_of (Some (entry.TakeBlock f x r v m k b n g)) = Job v (frame m k) (Some (record { number = b; size = n }))
hand_of (Some (entry.Save r v m k g)) = Piece v (frame m k)
hand_of _ = Free

-- what is kept of the role
abbrev pub role_of : Past → ℕ → RoleState
role_of P r = record { hand = hand_of (hand r P); has_left = has_left r P; was_reclaimed = was_reclaimed r P }

-- each role is what the log says
pub record AreRoles (s : Setting) (P : Past) (rs : List RoleState) : Type 0 where
  pub all : length rs ≡ last_role s + 1
  pub each : (r : ℕ) (x : RoleState) → slice_get rs r ≡ Some x → x ≡ role_of P r
