-- What a gate holds, and for how long.
use Rattle.std.specs.Prelude.{ℕ}

-- Turns of other threads that are waited for: how many in all, and how many are left.
pub record TurnCount : Type 0 where
  pub all : ℕ
  pub left : ℕ

-- A gate that holds a node at one index until it comes to another.
pub record Pair : Type 0 where
  pub node : ℕ
  pub first : ℕ
  pub second : ℕ
  pub turns : ℕ

-- A gate that holds a node at an index until so much was appended.
pub record Awaiting : Type 0 where
  pub node : ℕ
  pub index : ℕ
  pub appends : ℕ
  pub turns : ℕ
