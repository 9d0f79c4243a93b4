-- What code reads of a hand.
use Rattle.std.specs.Prelude.{ℕ, ◌==◌, Bool, true, false, ◌&&◌, Option, Some, None}
use Rattle.nd_base.specs.declared.frame.FrameName.{FrameName}
use Rattle.flow_journal.specs.Pasts.{frame, same}
use Rattle.board_rules.specs.declared.answers.HandName.{HandName}
use Rattle.board_rules.specs.InHand.{at}
use Rattle.course_parts.specs.declared.hand.Hand.{Hand}
use Rattle.course_parts.specs.declared.hand.Hand.TheVariants.{Free, Loaded, Job, Piece}
use Rattle.course_parts.specs.declared.hand.Block.{Block}

abbrev pub has_nothing : Hand → Bool
has_nothing Free = true
has_nothing (Loaded k b) = false
has_nothing (Job v a b) = false
has_nothing (Piece v a) = false

-- the array, and its node
abbrev pub array_of : Hand → Option HandName
array_of Free = None
array_of (Loaded k b) = Some (at 0 (frame 0 k))
array_of (Job v a b) = Some (at v a)
array_of (Piece v a) = Some (at v a)

-- the node, or 0
abbrev pub node_of : Hand → ℕ
node_of Free = 0
node_of (Loaded k b) = 0
node_of (Job v a b) = v
node_of (Piece v a) = v

-- the loaded frame of this name
abbrev pub loads : FrameName → Hand → Bool
loads a Free = false
loads a (Loaded k b) = same a (frame 0 k)
loads a (Job v c b) = false
loads a (Piece v c) = false

-- a job of the node on this array
abbrev pub works_on : ℕ → FrameName → Hand → Bool
works_on v a Free = false
works_on v a (Loaded k b) = false
works_on v a (Job w c b) = (w == v) && same a c
works_on v a (Piece w c) = false

-- a piece of this array
abbrev pub saves_on : FrameName → Hand → Bool
saves_on a Free = false
saves_on a (Loaded k b) = false
saves_on a (Job w c b) = false
saves_on a (Piece w c) = same a c

-- a job or a piece of this array
abbrev pub shares : FrameName → Hand → Bool
shares a Free = false
shares a (Loaded k b) = false
shares a (Job w c b) = same a c
shares a (Piece w c) = same a c

-- the block that was granted with it
abbrev pub grant_of : Hand → Option Block
grant_of Free = None
grant_of (Loaded k b) = Some b
grant_of (Job v a b) = b
grant_of (Piece v a) = None
