-- Correction of an array by a dark one.
use Rattle.std.specs.Prelude.{ℤ, pos, negsuc, ◌+ℤ◌, ◌-ℤ◌, ◌*ℤ◌, ◌≤ℤ◌, List, [], ◌∷◌}
use Rattle.std.specs.Int.{int_max, int_min}
use Rattle.std.specs.Int.RustNames.{int_div}
use Rattle.nd_base.specs.declared.array.SampleType.{SampleType}
use Rattle.nd_base.specs.declared.array.SampleType.TheVariants.{Int8, UInt8, Int16, UInt16, Int32, UInt32}
use Rattle.nd_base.specs.Array.{Array}
use Rattle.nd_orient.specs.declared.rule.CorrectRule.{CorrectRule}

-- it divides by a number from 1 on, and its range isn't empty
pub record IsCorrectRule (rule : CorrectRule) : Type 0 where
  pub den : pos 1 ≤ℤ rule.den
  pub range : rule.low ≤ℤ rule.high

-- the least sample of a type
abbrev pub least : SampleType → ℤ
least Int8 = negsuc 127
least UInt8 = pos 0
least Int16 = negsuc 32767
least UInt16 = pos 0
least Int32 = negsuc 2147483647
least UInt32 = pos 0

-- the greatest sample of a type
abbrev pub greatest : SampleType → ℤ
greatest Int8 = pos 127
greatest UInt8 = pos 255
greatest Int16 = pos 32767
greatest UInt16 = pos 65535
greatest Int32 = pos 2147483647
greatest UInt32 = pos 4294967295

-- the number nearest to this one from low to high
abbrev pub nearest : (low high : ℤ) → ℤ → ℤ
nearest low high z = int_max low (int_min z high)

-- the number nearest to this one that is a sample of the type
abbrev pub nearest_sample : SampleType → ℤ → ℤ
nearest_sample kind z = nearest (least kind) (greatest kind) z

-- the difference times num over den, toward zero
abbrev pub scaled : CorrectRule → (v d : ℤ) → ℤ
scaled rule v d = int_div ((v -ℤ d) *ℤ rule.num) rule.den

-- a sample over a dark sample
abbrev pub corrected_sample : CorrectRule → SampleType → (v d : ℤ) → ℤ
corrected_sample rule kind v d = nearest (nearest_sample kind rule.low) (nearest_sample kind rule.high) (scaled rule v d +ℤ rule.offset)

-- each sample over the dark sample at its place
abbrev pub corrected_samples : CorrectRule → SampleType → (dark samples : List ℤ) → List ℤ
corrected_samples rule kind [] samples = []
corrected_samples rule kind (d ∷ dark) [] = []
corrected_samples rule kind (d ∷ dark) (v ∷ samples) = corrected_sample rule kind v d ∷ corrected_samples rule kind dark samples

-- the corrected array: all but the samples is the input's
abbrev pub corrected : CorrectRule → (dark a : Array) → Array
corrected rule dark a = record {
  id = a.id;
  stamp = a.stamp;
  sec = a.sec;
  nsec = a.nsec;
  kind = a.kind;
  dims = a.dims;
  samples = corrected_samples rule a.kind dark.samples a.samples;
  attrs = a.attrs;
}
