-- A frame that stands on a block.
use Rattle.std.specs.Prelude.{◌≡◌, ℕ, [], ◌∷◌}
use Rattle.nd_base.specs.declared.frame.FrameName.{FrameName}
use Rattle.flow_journal.specs.Pasts.{Past}
use Rattle.flow_journal.specs.Accounts.{block_of}

abbrev pub HasBlock : Past → FrameName → Type 0
HasBlock P a = (b : ℕ) × (block_of P a ≡ b ∷ [])
