-- What a region rule cuts out of one dimension.
use Rattle.std.specs.Prelude.{ℕ, Bool}

-- from index min on, so many groups of bin indices each, the last group first where reverse is set
pub record Groups : Type 0 where
  pub min : ℕ
  pub bin : ℕ
  pub size : ℕ
  pub reverse : Bool
