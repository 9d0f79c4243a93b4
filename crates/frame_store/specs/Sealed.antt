-- What a frame is.
use Rattle.std.specs.Prelude.{ℕ, List}
use Rattle.nd_base.specs.Parts.{Parts}
use Rattle.nd_base.specs.declared.frame.FrameName.{FrameName}

-- its name, the bytes of its samples, and what it has of its block
pub record Sealed : Type 0 where
  pub name : FrameName
  pub bytes : List ℕ
  pub parts : Parts
