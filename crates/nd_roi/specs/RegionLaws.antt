-- Laws of regions: how many samples there are, and that each is one of the output's type.
use Rattle.std.specs.Prelude.{◌≡◌, ◌<◌, ◌^◌, ℤ, pos, negsuc, List, length}
use Rattle.std.proofs.Common.{◌∙◌, arith}
use Rattle.std.proofs.lemmas.Int.{ints}
use Rattle.std.proofs.lemmas.List.{length-map}
use Rattle.nd_base.specs.declared.array.Dim.{Dim}
use Rattle.nd_base.specs.declared.array.SampleType.{SampleType}
use Rattle.nd_base.specs.declared.array.SampleType.TheVariants.{Int8, UInt8, Int16, UInt16, Int32, UInt32}
use Rattle.nd_base.specs.declared.graph.RoiRule.{RoiRule}
use Rattle.nd_base.specs.Places.{indices, sizes_of}
use Rattle.nd_base.specs.PlaceLaws.{length-indices}
use Rattle.nd_base.specs.SampleLaws.{IsSample, signed_8, signed_16, signed_32}
use Rattle.nd_base.specs.Shapes.{sample_count}
use Rattle.nd_roi.specs.Cut.{cuts, region_dims}
use Rattle.nd_roi.specs.Region.{low_bits, reduced, sum_over, sample_at, covered, scaled, region_samples}

-- a region has as many samples as its dimensions say
pub length-region_samples : (rule : RoiRule) (kind : SampleType) (dims : List Dim) (samples : List ℤ)
    → length (region_samples rule kind dims samples) ≡ sample_count (region_dims rule dims)
length-region_samples rule kind dims samples =
    let all = indices (sizes_of (region_dims rule dims)) in
    length-map all (λ index. scaled rule kind (sum_over (sample_at (sizes_of dims) samples) (covered (cuts rule dims) index)))
    ∙ length-indices (sizes_of (region_dims rule dims))

-- what is left in so many bits is below 2 to their number
pub low_bits-below_8 : (z : ℤ) → low_bits 8 z < 2 ^ 8
low_bits-below_8 (pos n) = omega arith
low_bits-below_8 (negsuc n) = omega arith

pub low_bits-below_16 : (z : ℤ) → low_bits 16 z < 2 ^ 16
low_bits-below_16 (pos n) = omega arith
low_bits-below_16 (negsuc n) = omega arith

pub low_bits-below_32 : (z : ℤ) → low_bits 32 z < 2 ^ 32
low_bits-below_32 (pos n) = omega arith
low_bits-below_32 (negsuc n) = omega arith

-- a reduced number is a sample of its type
pub reduced-IsSample : (kind : SampleType) (z : ℤ) → IsSample kind (reduced kind z)
reduced-IsSample Int8 z = signed_8 (low_bits 8 z) (low_bits-below_8 z)
reduced-IsSample UInt8 z = let h = low_bits-below_8 z in omega (arith, ints, h)
reduced-IsSample Int16 z = signed_16 (low_bits 16 z) (low_bits-below_16 z)
reduced-IsSample UInt16 z = let h = low_bits-below_16 z in omega (arith, ints, h)
reduced-IsSample Int32 z = signed_32 (low_bits 32 z) (low_bits-below_32 z)
reduced-IsSample UInt32 z = let h = low_bits-below_32 z in omega (arith, ints, h)
