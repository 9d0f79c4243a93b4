-- What was offered: frames at the driver, and arrays at the nodes.
use Rattle.std.specs.Prelude.{ℕ, List, [], ◌∷◌, flat_map}
use Rattle.nd_base.specs.declared.frame.FrameName.{FrameName}
use Rattle.pool_ledger.specs.Grants.{least_missing}
use Rattle.flow_journal.specs.declared.entry.Entry.{Entry}
use Rattle.flow_journal.specs.declared.entry.Entry.TheVariants.{Load, LoadRefused, Accept, Full}
use Rattle.flow_journal.specs.Pasts.{Past, frame, comes_at}
use Rattle.flow_journal.specs.Hands.{standing}

-- the index of a Load or a LoadRefused
abbrev pub loads : Entry → List ℕ
loads (Load r k b n f g x) = k ∷ []
loads (LoadRefused r k n h) = k ∷ []
loads _ = []

-- the indices of the frames that were offered at the driver and stand, the newest first
abbrev pub offered_frames : Past → List ℕ
offered_frames P = flat_map loads (standing P)

-- the least index that wasn't offered
abbrev pub next_index : Past → ℕ
next_index P = least_missing (offered_frames P)

-- the arrays that came to the node, in order: those of its Accept and Full entries
abbrev pub offered : ℕ → Past → List FrameName
offered v [] = []
offered v (Accept w m k ∷ P) = comes_at v w (frame m k) (offered v P)
offered v (Full w m k ∷ P) = comes_at v w (frame m k) (offered v P)
offered v (e ∷ P) = offered v P
