-- Lanes that stand for samples.
use Rattle.std.specs.Prelude.{ℤ, pos, negsuc}
use Rattle.nd_base.specs.declared.array.SampleType.{SampleType}
use Rattle.nd_base.specs.declared.array.SampleType.TheVariants.{Int8, UInt8, Int16, UInt16, Int32, UInt32}

-- what a lane lacks of its sample: lanes of 8 bits are without a sign, those of 16 and of 32 bits with one
abbrev pub offset : SampleType → ℤ
offset Int8 = negsuc 127
offset UInt8 = pos 0
offset Int16 = pos 0
offset UInt16 = pos 32768
offset Int32 = pos 0
offset UInt32 = pos 2147483648
