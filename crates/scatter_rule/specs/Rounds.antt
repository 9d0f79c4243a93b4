-- The children of a node round, from the one whose turn it is.
use Rattle.std.specs.Prelude.{ℕ, ◌-◌, Bool, nat_lt, List, ◌++◌, Option, Some, None, slice_index_or}
use Rattle.std.specs.List.{range_with_len}
use Rattle.scatter_rule.specs.declared.Choice.{Choice}
use Rattle.scatter_rule.specs.declared.Choice.TheVariants.{Give, AllFull}

-- fewer arrays are queued at the child at this place than its queue takes
abbrev pub has_room : (queued sizes : List ℕ) → ℕ → Bool
has_room queued sizes i = nat_lt (slice_index_or queued i 0) (slice_index_or sizes i 0)

-- the places of n children, from this one on round
abbrev pub in_turn : (turn n : ℕ) → List ℕ
in_turn turn n = range_with_len turn (n - turn) ++ range_with_len 0 turn

abbrev pub choice : Option ℕ → Choice
choice (Some i) = Give i
choice None = AllFull
