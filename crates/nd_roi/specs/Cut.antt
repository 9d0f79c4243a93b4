-- What a region rule cuts out of each dimension, and the dimensions of its output.
use Rattle.std.specs.Prelude.{ℕ, suc, ◌-◌, ◌/◌, min, max, nat_le, ℤ, pos, negsuc, ◌+ℤ◌, ◌*ℤ◌, Bool, false, not, List, [], ◌∷◌, length, slice_index_or}
use Rattle.std.specs.Prelude.{if◌then◌else◌}
use Rattle.std.specs.Int.{int_max, int_min}
use Rattle.nd_base.specs.declared.array.Dim.{Dim}
use Rattle.nd_base.specs.declared.graph.RoiRule.{RoiRule}
use Rattle.nd_roi.specs.Groups.{Groups}

-- the number nearest to this one from low to high
abbrev pub clamped : (low high : ℕ) → ℤ → ℕ
clamped low high (pos n) = min high (max low n)
clamped low high (negsuc n) = low

-- the first index that is cut out of a dimension of n, the k-th of the array
abbrev pub first_index : RoiRule → ℕ → ℕ → ℕ
first_index rule k n = clamped 0 (n - 1) (slice_index_or rule.min k (pos 0))

-- whether all from the first index on is cut out
abbrev pub takes_rest : RoiRule → ℕ → Bool
takes_rest rule k = slice_index_or rule.auto k (nat_le (length rule.size) k)

-- how many indices are cut out
abbrev pub span : RoiRule → ℕ → ℕ → ℕ
span rule k n =
    if takes_rest rule k
    then n - first_index rule k n
    else clamped 1 (n - first_index rule k n) (slice_index_or rule.size k (pos n))

-- how many of them are binned into one
abbrev pub bin : RoiRule → ℕ → ℕ → ℕ
bin rule k n = clamped 1 (span rule k n) (slice_index_or rule.bin k (pos 1))

-- the cut of a dimension of n, the k-th of the array; a remainder at the high end isn't binned
abbrev pub cut : RoiRule → ℕ → ℕ → Groups
cut rule k n = record {
  min = first_index rule k n;
  bin = bin rule k n;
  size = span rule k n / bin rule k n;
  reverse = slice_index_or rule.reverse k false;
}

-- the cuts of these dimensions, the first of which is the k-th of the array
abbrev pub cuts_from : RoiRule → ℕ → List Dim → List Groups
cuts_from rule k [] = []
cuts_from rule k (dim ∷ dims) = cut rule k dim.size ∷ cuts_from rule (suc k) dims

-- the cuts of all dimensions
abbrev pub cuts : RoiRule → List Dim → List Groups
cuts rule dims = cuts_from rule 0 dims

-- the 32-bit number nearest to this one
abbrev pub clamped_i32 : ℤ → ℤ
clamped_i32 z = int_max (negsuc 2147483647) (int_min z (pos 2147483647))

-- what a cut leaves of a dimension
abbrev pub cut_dim : Dim → Groups → Dim
cut_dim dim c = record {
  size = c.size;
  offset = clamped_i32 (dim.offset +ℤ pos c.min);
  binning = clamped_i32 (dim.binning *ℤ pos c.bin);
  reverse = if c.reverse then not dim.reverse else dim.reverse;
}

-- the output's dimensions, the first of which is the k-th of the array
abbrev pub dims_from : RoiRule → ℕ → List Dim → List Dim
dims_from rule k [] = []
dims_from rule k (dim ∷ dims) = cut_dim dim (cut rule k dim.size) ∷ dims_from rule (suc k) dims

-- the output's dimensions
abbrev pub region_dims : RoiRule → List Dim → List Dim
region_dims rule dims = dims_from rule 0 dims
