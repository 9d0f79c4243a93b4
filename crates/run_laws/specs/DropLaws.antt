-- LAWS: all that came to a node was accepted for good or dropped, all that its input emitted came to it, and every frame came.
use Rattle.std.specs.Prelude.{◌≡◌, ◌≢◌, ◌⊎◌, ℕ, ◌+◌, ◌==◌, Bool, ◌&&◌, ◌||◌, true, false, length}
use Rattle.std.specs.List.{Contains, list_any}
use Rattle.nd_base.specs.declared.frame.FrameName.{FrameName}
use Rattle.flow_journal.specs.declared.entry.Entry.{Entry}
use Rattle.flow_journal.specs.declared.entry.Entry.TheVariants.{Full}
use Rattle.flow_journal.specs.Setting.{Setting, node, is_node}
use Rattle.flow_journal.specs.Turns.{deals}
use Rattle.flow_journal.specs.Pasts.{Past, frame, same}
use Rattle.flow_journal.specs.Breaks.{outs}
use Rattle.flow_journal.specs.Offered.{offered, offered_frames}
use Rattle.flow_journal.specs.Accepted.{accepted, emitted, is_dropped_by}
use Rattle.flow_journal.specs.Histories.{is_legal, is_history}
use Rattle.flow_journal.specs.FirstEntries.{has_loaded}
use Rattle.flow_journal.specs.IndexLaws.{below}
use Rattle.run_laws.specs.Drops.{fulls, pool_drops, sort_drops, loaded_frames, refused}
use Rattle.run_laws.specs.Results.{IsFinishedRun}

-- what was offered to a node is what its input emitted, in this order, where the input doesn't deal it out
abbrev pub EmissionsAreOffered : Type 0
EmissionsAreOffered =
    (s : Setting) (P : Past) (v : ℕ) → is_node s v ≡ true → deals s (node s v).input ≡ false → is_history s P ≡ true → offered v P ≡ emitted (node s v).input P

-- the entry tells that the array found the node's queue full
abbrev pub is_full_for : ℕ → FrameName → Entry → Bool
is_full_for v a (Full w m k) = (w == v) && same a (frame m k)
is_full_for v a _ = false

-- an entry drops the array at the node: it found the queue full, or was dropped once it had been accepted
abbrev pub was_dropped : Setting → ℕ → FrameName → Past → Bool
was_dropped s v a P = list_any (is_full_for v a) P || list_any (is_dropped_by s v a) P

-- each array that came to a node was accepted for good or dropped there
abbrev pub EachOfferIsAcceptedOrDropped : Type 0
EachOfferIsAcceptedOrDropped =
    (s : Setting) (P : Past) (v : ℕ) (a : FrameName) → Contains (offered v P) a → Contains (accepted s v P) a ⊎ (was_dropped s v a P ≡ true)

-- and it was one of them once: as many came as were accepted for good or dropped
abbrev pub OffersAreAcceptedOrDropped : Type 0
OffersAreAcceptedOrDropped =
    (s : Setting) (P : Past) (v : ℕ) → v ≢ 0 → is_legal s P ≡ true
    → length (offered v P) ≡ length (accepted s v P) + fulls v P + pool_drops v P + sort_drops v P

-- and at the driver it was loaded for good or refused
abbrev pub FramesAreLoadedOrRefused : Type 0
FramesAreLoadedOrRefused = (P : Past) → length (offered_frames P) ≡ length (loaded_frames P) + refused P

-- where no block is loaded the driver emitted what was loaded for good, in this order
abbrev pub LoadedFramesAreIssued : Type 0
LoadedFramesAreIssued = (s : Setting) (P : Past) → is_history s P ≡ true → has_loaded P ≡ false → outs s 0 P ≡ loaded_frames P

-- each frame was offered, and once
abbrev pub EveryFrameIsOffered : Type 0
EveryFrameIsOffered = (s : Setting) (P : Past) → IsFinishedRun s P → offered_frames P ≡ below (length s.ids)
