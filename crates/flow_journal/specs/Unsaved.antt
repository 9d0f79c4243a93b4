-- What a file node has to save.
use Rattle.std.specs.Prelude.{ℕ, ◌+◌, ◌*◌, ◌/◌, Bool, true, false, ◌||◌, not, nat_le, List, [], ◌∷◌, length, if◌then◌else◌}
use Rattle.nd_base.specs.declared.frame.FrameName.{FrameName}
use Rattle.flow_journal.specs.declared.entry.Entry.TheVariants.{Save}
use Rattle.flow_journal.specs.Setting.{Setting, node, Work, Saves}
use Rattle.flow_journal.specs.Pasts.{Past, frame, comes_at, minus}
use Rattle.flow_journal.specs.Hands.{standing}
use Rattle.flow_journal.specs.Ended.{is_settled}
use Rattle.flow_journal.specs.Puts.{puts}

-- the arrays of the Saves of a node, in order
abbrev pub saves : ℕ → Past → List FrameName
saves v [] = []
saves v (Save r w m k g ∷ P) = comes_at v w (frame m k) (saves v P)
saves v (e ∷ P) = saves v P

-- the arrays of those that stand
abbrev pub standing_saves : ℕ → Past → List FrameName
standing_saves v P = saves v (standing P)

abbrev pub is_file : Work → Bool
is_file (Saves whole_groups count) = true
is_file _ = false

-- the arrays put at a file node that no standing Save took, in the order of their Puts
abbrev pub unsaved : Setting → ℕ → Past → List FrameName
unsaved s v P = if is_file (node s v).work then minus (puts v P) (standing_saves v P) else []

-- the group of the piece after n others
abbrev pub group_of : Work → ℕ → ℕ
group_of (Saves whole_groups count) n = n / count
group_of _ n = 0

-- The first unsaved array is due: at once, or with whole groups when count arrays of its group are put or the node has ended.
abbrev pub is_due : Work → ℕ → Past → Bool
is_due (Saves whole_groups count) v P =
    not whole_groups || is_settled v P || nat_le ((length (standing_saves v P) / count + 1) * count) (length (puts v P))
is_due _ v P = false
