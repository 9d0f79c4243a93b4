-- The accepted list of a node, and what it emitted.
use Rattle.std.specs.Prelude.{ℕ, ◌==◌, Bool, false, ◌&&◌, not, List, [], ◌∷◌, filter, if◌then◌else◌}
use Rattle.std.specs.List.{list_any}
use Rattle.nd_base.specs.declared.frame.FrameName.{FrameName}
use Rattle.flow_journal.specs.declared.entry.Entry.{Entry}
use Rattle.flow_journal.specs.declared.entry.Entry.TheVariants.{Accept, Emit, PoolDrop, SortDrop}
use Rattle.flow_journal.specs.Setting.{Setting, is_maker}
use Rattle.flow_journal.specs.Pasts.{Past, frame, same, comes_at}

-- the arrays of the Accept entries of a node, in order
abbrev pub accepts : ℕ → Past → List FrameName
accepts v [] = []
accepts v (Accept w m k ∷ P) = comes_at v w (frame m k) (accepts v P)
accepts v (e ∷ P) = accepts v P

-- The entry drops the array at the node. A SortDrop at a maker names the result, and the input of that index is meant.
abbrev pub is_dropped_by : Setting → ℕ → FrameName → Entry → Bool
is_dropped_by s v a (PoolDrop r w m k n h) = (w == v) && same a (frame m k)
is_dropped_by s v a (SortDrop w m k) = (w == v) && (if is_maker s v then a.index == k else same a (frame m k))
is_dropped_by s v a _ = false

-- the accepted list: those that the node accepted and didn't drop later
abbrev pub accepted : Setting → ℕ → Past → List FrameName
accepted s v P = filter (λ a. not (list_any (is_dropped_by s v a) P)) (accepts v P)

-- the arrays that went out of a node by its Emit entries, in order
abbrev pub emitted : ℕ → Past → List FrameName
emitted v [] = []
emitted v (Emit w m k why ∷ P) = comes_at v w (frame m k) (emitted v P)
emitted v (e ∷ P) = emitted v P
