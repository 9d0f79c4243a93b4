-- Sums over the columns of rows.
use Rattle.std.specs.Prelude.{ℕ, ◌+◌, ◌*◌, List, [], ◌∷◌}
use Rattle.nd_base.specs.declared.array.SampleType.{SampleType}
use Rattle.nd_base.specs.declared.array.SampleType.TheVariants.{Int8, UInt8, Int16, UInt16, Int32, UInt32}

-- the types of at most 16 bits without a sign
abbrev pub IsNarrowUnsigned : SampleType → Type 0
IsNarrowUnsigned UInt8 = Unit {0}
IsNarrowUnsigned UInt16 = Unit {0}
IsNarrowUnsigned Int8 = ⊥
IsNarrowUnsigned Int16 = ⊥
IsNarrowUnsigned Int32 = ⊥
IsNarrowUnsigned UInt32 = ⊥

-- the sum of the numbers, each times its index, which is `k` for the first
abbrev pub moment : ℕ → List ℕ → ℕ
moment k [] = 0
moment k (x ∷ xs) = k * x + moment (k + 1) xs

-- how many samples a block has at most
abbrev pub most_in_block : SampleType → ℕ
most_in_block UInt8 = 1024
most_in_block UInt16 = 1024
most_in_block Int8 = 128
most_in_block Int16 = 128
most_in_block Int32 = 128
most_in_block UInt32 = 128
