-- What went out of a node, the previous id, and the breaks.
use Rattle.std.specs.Prelude.{ℕ, ◌+◌, ◌==◌, Bool, ◌&&◌, not, List, [], ◌∷◌, flat_map, ℤ, if◌then◌else◌}
use Rattle.queue_sort.specs.Sorting.{keeps_step}
use Rattle.flow_journal.specs.declared.entry.Entry.{Entry}
use Rattle.flow_journal.specs.declared.entry.Entry.TheVariants.{Emit, Save}
use Rattle.flow_journal.specs.Setting.{Setting, node, id_at, first_prev}
use Rattle.flow_journal.specs.Pasts.{Past}
use Rattle.flow_journal.specs.Hands.{standing}
use Rattle.flow_journal.specs.Unsaved.{is_file}

-- the index that the entry lets out of the node: where it saves by a save, and else by an emission
abbrev pub out_at : (saves : Bool) → ℕ → Entry → List ℕ
out_at saves v (Emit w m k why) = if not saves && (w == v) then k ∷ [] else []
out_at saves v (Save r w m k g) = if saves && (w == v) then k ∷ [] else []
out_at saves v _ = []

-- the indices that went out of the node, the newest first; a save counts while it stands
abbrev pub outs : Setting → ℕ → Past → List ℕ
outs s v P = flat_map (out_at (is_file (node s v).work) v) (standing P)

abbrev pub prev_of : Setting → List ℕ → ℤ
prev_of s [] = first_prev s.ids
prev_of s (k ∷ ks) = id_at s k

-- the previous id: that of what went out last
abbrev pub prev : Setting → ℕ → Past → ℤ
prev s v P = prev_of s (outs s v P)

-- how many of these keep no step, the newest first
abbrev pub breaks_of : Setting → List ℕ → ℕ
breaks_of s [] = 0
breaks_of s (k ∷ ks) = breaks_of s ks + (if keeps_step (prev_of s ks) (id_at s k) then 0 else 1)

-- the breaks of a node
abbrev pub breaks : Setting → ℕ → Past → ℕ
breaks s v P = breaks_of s (outs s v P)
