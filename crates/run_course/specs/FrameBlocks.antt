-- Which block each frame has, by name.
use Rattle.std.specs.Prelude.{◌≡◌, ◌*◌, ◌+◌, ◌<◌, ℕ, List, [], ◌∷◌, length, slice_index_or}
use Rattle.nd_base.specs.declared.frame.FrameName.{FrameName}
use Rattle.flow_journal.specs.Setting.{Setting}
use Rattle.flow_journal.specs.Pasts.{Past}
use Rattle.flow_journal.specs.Accounts.{block_of}

-- the place of a frame's block: each maker has a row of all frames
abbrev pub place_of : Setting → FrameName → ℕ
place_of s a = a.maker * length s.ids + a.index

pub record AreBlocks (s : Setting) (P : Past) (bs : List ℕ) : Type 0 where
  pub all : length bs ≡ (length s.nodes + 1) * length s.ids
  pub each : (a : FrameName) (b : ℕ) → block_of P a ≡ b ∷ [] → (a.index < length s.ids) × (slice_index_or bs (place_of s a) 0 ≡ b)
