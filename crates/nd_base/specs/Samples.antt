-- Samples as whole numbers. In memory and in files a sample is bytes, the most significant first.
use Rattle.std.specs.Prelude.{ℕ, zero, suc, ◌/◌, ◌<◌, ◌^◌, unsigned_abs, ℤ, pos, List, [], ◌∷◌, length, take, drop}
use Rattle.std.specs.List.{flat_map}
use Rattle.std.specs.Int.{w8, w16, w32, cast_signed, cast_unsigned, from_be_bytes, to_be_bytes}
use Rattle.nd_base.specs.declared.array.SampleType.{SampleType}
use Rattle.nd_base.specs.declared.array.SampleType.TheVariants.{Int8, UInt8, Int16, UInt16, Int32, UInt32}

-- the bytes of one sample
abbrev pub width : SampleType → ℕ
width Int8 = 1
width UInt8 = 1
width Int16 = 2
width UInt16 = 2
width Int32 = 4
width UInt32 = 4

-- the number that the bytes of one sample stand for
abbrev pub number : SampleType → List ℕ → ℤ
number Int8 bytes = cast_signed w8 (from_be_bytes w8 bytes)
number UInt8 bytes = pos (from_be_bytes w8 bytes)
number Int16 bytes = cast_signed w16 (from_be_bytes w16 bytes)
number UInt16 bytes = pos (from_be_bytes w16 bytes)
number Int32 bytes = cast_signed w32 (from_be_bytes w32 bytes)
number UInt32 bytes = pos (from_be_bytes w32 bytes)

-- the numbers of the first so many samples
abbrev pub numbers : SampleType → ℕ → List ℕ → List ℤ
numbers kind zero bytes = []
numbers kind (suc n) bytes = number kind (take (width kind) bytes) ∷ numbers kind n (drop (width kind) bytes)

-- the numbers of all samples that the bytes hold
abbrev pub samples_of : SampleType → List ℕ → List ℤ
samples_of kind bytes = numbers kind (length bytes / width kind) bytes

-- the bytes of the sample that stands for a number
abbrev pub sample_bytes : SampleType → ℤ → List ℕ
sample_bytes Int8 v = to_be_bytes w8 (cast_unsigned w8 v)
sample_bytes UInt8 v = to_be_bytes w8 (cast_unsigned w8 v)
sample_bytes Int16 v = to_be_bytes w16 (cast_unsigned w16 v)
sample_bytes UInt16 v = to_be_bytes w16 (cast_unsigned w16 v)
sample_bytes Int32 v = to_be_bytes w32 (cast_unsigned w32 v)
sample_bytes UInt32 v = to_be_bytes w32 (cast_unsigned w32 v)

-- the bytes of samples, one after another
abbrev pub bytes_of : SampleType → List ℤ → List ℕ
bytes_of kind samples = flat_map (sample_bytes kind) samples

-- a number of at most 32 bits
abbrev pub IsSmall : ℤ → Type 0
IsSmall v = unsigned_abs v < 2 ^ 32
