-- A corrected sample is one of its type.
use Rattle.std.specs.Prelude.{ℤ, ◌+ℤ◌, ◌≤ℤ◌, ◌<◌, ◌^◌, unsigned_abs}
use Rattle.std.proofs.Common.{arith}
use Rattle.std.proofs.lemmas.Int.{ints, clamps}
use Rattle.nd_base.specs.declared.array.SampleType.{SampleType}
use Rattle.nd_base.specs.declared.array.SampleType.TheVariants.{Int8, UInt8, Int16, UInt16, Int32, UInt32}
use Rattle.nd_base.specs.SampleLaws.{IsSample}
use Rattle.nd_orient.specs.declared.rule.CorrectRule.{CorrectRule}
use Rattle.nd_orient.specs.Correction.{IsCorrectRule, nearest, nearest_sample, corrected_sample, scaled}

within : (kind : SampleType) (low high z : ℤ) → low ≤ℤ high → IsSample kind (nearest (nearest_sample kind low) (nearest_sample kind high) z)
within Int8 low high z h = omega (arith, ints, clamps)
within UInt8 low high z h = omega (arith, ints, clamps)
within Int16 low high z h = omega (arith, ints, clamps)
within UInt16 low high z h = omega (arith, ints, clamps)
within Int32 low high z h = omega (arith, ints, clamps)
within UInt32 low high z h = omega (arith, ints, clamps)

pub corrected_sample-IsSample : (rule : CorrectRule) (kind : SampleType) (v d : ℤ) → IsCorrectRule rule → IsSample kind (corrected_sample rule kind v d)
corrected_sample-IsSample rule kind v d h = within kind rule.low rule.high (scaled rule v d +ℤ rule.offset) h.range

-- no limit is far from zero
pub nearest_sample-near : (kind : SampleType) (z : ℤ) → unsigned_abs (nearest_sample kind z) < 2 ^ 33
nearest_sample-near Int8 z = omega (arith, ints, clamps)
nearest_sample-near UInt8 z = omega (arith, ints, clamps)
nearest_sample-near Int16 z = omega (arith, ints, clamps)
nearest_sample-near UInt16 z = omega (arith, ints, clamps)
nearest_sample-near Int32 z = omega (arith, ints, clamps)
nearest_sample-near UInt32 z = omega (arith, ints, clamps)
