-- What the text of a trigger expression is made of.
use Rattle.std.specs.Prelude.{ℕ, ℤ}
use Rattle.nd_base.specs.declared.graph.Sign as signs

pub data Symbol : Type 0 where
  Number : ℤ → Symbol
  A : Symbol
  B : Symbol
  Sign : signs.Sign → Symbol
  Not : Symbol
  Open : Symbol
  Close : Symbol
  -- what is no symbol: a byte that begins none, or digits above the greatest number
  Unknown : Symbol

-- a symbol and the place of its first byte
pub record Token : Type 0 where
  pub symbol : Symbol
  pub at : ℕ
