-- The levels of signs between two sides.

-- the loosest first
pub data Level : Type 0 where
  Or : Level
  And : Level
  Comparison : Level
  Sum : Level
  Product : Level
