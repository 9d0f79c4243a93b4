-- A region of an array: each sample of it is a sum over a set of indices of the array.
use Rattle.std.specs.Prelude.{ℕ, ◌+◌, ◌-◌, ◌*◌, ◌^◌, ℤ, pos, ◌+ℤ◌, List, [], ◌∷◌, map, slice_index_or, if◌then◌else◌}
use Rattle.std.specs.Int.{w8, w16, w32, cast_signed, int_rem_euclid}
use Rattle.std.specs.Int.RustNames.{int_div, unsigned_abs}
use Rattle.std.specs.List.{range_with_len}
use Rattle.std.specs.Option.{unwrap_or}
use Rattle.nd_base.specs.declared.array.Dim.{Dim}
use Rattle.nd_base.specs.declared.array.SampleType.{SampleType}
use Rattle.nd_base.specs.declared.array.SampleType.TheVariants.{Int8, UInt8, Int16, UInt16, Int32, UInt32}
use Rattle.nd_base.specs.declared.graph.RoiRule.{RoiRule}
use Rattle.nd_base.specs.Array.{Array}
use Rattle.nd_base.specs.Places.{place, product_of, indices, sizes_of}
use Rattle.nd_roi.specs.Groups.{Groups}
use Rattle.nd_roi.specs.Cut.{cuts, region_dims}

-- the first index of one dimension that an output index covers
abbrev pub first_covered : Groups → ℕ → ℕ
first_covered c out = c.min + (if c.reverse then c.size - 1 - out else out) * c.bin

-- all of them: there are bin
abbrev pub covered_by : Groups → ℕ → List ℕ
covered_by c out = range_with_len (first_covered c out) c.bin

-- those of each dimension
abbrev pub covered_ranges : List Groups → List ℕ → List (List ℕ)
covered_ranges [] index = []
covered_ranges (c ∷ cs) [] = []
covered_ranges (c ∷ cs) (out ∷ index) = covered_by c out ∷ covered_ranges cs index

-- the indices of the array that an index of the output covers
abbrev pub covered : List Groups → List ℕ → List (List ℕ)
covered cs index = product_of (covered_ranges cs index)

-- the sum of the values at these
abbrev pub sum_over : {X : Type 0} → (X → ℤ) → List X → ℤ
sum_over value [] = pos 0
sum_over value (x ∷ xs) = value x +ℤ sum_over value xs

-- what is left of a number in so many bits
abbrev pub low_bits : ℕ → ℤ → ℕ
low_bits bits z = unsigned_abs (int_rem_euclid z (pos (2 ^ bits)))

-- the number of this type that is the same modulo 2 to the number of its bits
abbrev pub reduced : SampleType → ℤ → ℤ
reduced Int8 z = cast_signed w8 (low_bits 8 z)
reduced UInt8 z = pos (low_bits 8 z)
reduced Int16 z = cast_signed w16 (low_bits 16 z)
reduced UInt16 z = pos (low_bits 16 z)
reduced Int32 z = cast_signed w32 (low_bits 32 z)
reduced UInt32 z = pos (low_bits 32 z)

-- the type of the output's samples
abbrev pub out_type : RoiRule → SampleType → SampleType
out_type rule kind = unwrap_or rule.out kind

-- the sample of an array of these sizes at an index
abbrev pub sample_at : (sizes : List ℕ) → List ℤ → List ℕ → ℤ
sample_at sizes samples index = slice_index_or samples (place sizes index) (pos 0)

-- a sum as a sample of the output: divided toward zero, then reduced
abbrev pub scaled : RoiRule → SampleType → ℤ → ℤ
scaled rule kind total = reduced (out_type rule kind) (int_div total (pos rule.scale))

-- the output's samples
abbrev pub region_samples : RoiRule → SampleType → List Dim → List ℤ → List ℤ
region_samples rule kind dims samples =
    map (λ index. scaled rule kind (sum_over (sample_at (sizes_of dims) samples) (covered (cuts rule dims) index)))
    (indices (sizes_of (region_dims rule dims)))

-- the region that a rule cuts out of an array: id, times and attributes are the array's
abbrev pub region : RoiRule → Array → Array
region rule a = record {
  id = a.id;
  stamp = a.stamp;
  sec = a.sec;
  nsec = a.nsec;
  kind = out_type rule a.kind;
  dims = region_dims rule a.dims;
  samples = region_samples rule a.kind a.dims a.samples;
  attrs = a.attrs;
}
