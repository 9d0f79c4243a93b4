-- What the parts of the body compute, in places of samples.
use Rattle.std.specs.Prelude.{ℕ, zero, suc, ◌+◌, ◌-◌, ◌*◌, ℤ, pos, List, [], ◌∷◌, ◌++◌}
use Rattle.std.specs.List.{range_with_len, flat_map}
use Rattle.std.specs.Int.{w16, w32, to_be_bytes}
use Rattle.nd_base.specs.declared.array.SampleType.{SampleType}
use Rattle.nd_base.specs.declared.array.SampleType.TheVariants.{Int8, UInt8, Int16, UInt16, Int32, UInt32}
use Rattle.nd_base.specs.declared.array.Dim.{Dim}
use Rattle.nd_base.specs.declared.graph.RoiRule.{RoiRule}
use Rattle.nd_roi.specs.Cut.{cut}
use Rattle.nd_roi.specs.Groups.{Groups}
use Rattle.nd_roi.specs.declared.cut.Cut.{Cut}
use Rattle.nd_roi.specs.declared.walk.Axis.{Axis}
use Rattle.std.specs.Int.RustNames.{int_div}
use Rattle.nd_roi.specs.Region.{first_covered, low_bits}
pub use Rattle.lane_kernels.specs.Plain.{stored, sum_below, run}

-- what the body keeps of the groups of a dimension, and the groups that it keeps
abbrev pub held : Groups → Cut
held c = record { min = c.min; bin = c.bin; size = c.size; reverse = c.reverse }

abbrev pub kept : Cut → Groups
kept c = record { min = c.min; bin = c.bin; size = c.size; reverse = c.reverse }

-- the first index that an output index covers
abbrev pub covers_from : Cut → ℕ → ℕ
covers_from c out = first_covered (kept c) out

-- the sum over the lines that a bin covers along these axes, the slowest first
abbrev pub lines_total : List Axis → (ℕ → ℤ) → ℕ → ℤ
lines_total [] value base = value base
lines_total (a ∷ axes) value base = sum_below a.cut.bin (λ j. lines_total axes value (base + j * a.stride))

-- how far a bin reaches along an axis
abbrev pub bin_reach : Axis → ℕ
bin_reach a = (a.cut.bin - 1) * a.stride

-- how many lines a bin covers along these axes
abbrev pub bins_of : List Axis → ℕ
bins_of [] = 1
bins_of (a ∷ axes) = a.cut.bin * bins_of axes

-- list 0 ++ list 1 ++ .. below n
abbrev pub concat_below : {X : Type 0} → ℕ → (ℕ → List X) → List X
concat_below zero list = []
concat_below (suc n) list = concat_below n list ++ list n

-- the output's lines along these axes, the slowest first
abbrev pub lines : {X : Type 0} → List Axis → (ℕ → List X) → ℕ → List X
lines [] line base = line base
lines (a ∷ axes) line base = concat_below a.cut.size (λ out. lines axes line (base + covers_from a.cut out * a.stride))

-- so many for each line along these axes
abbrev pub for_lines : List Axis → ℕ → ℕ
for_lines [] n = n
for_lines (a ∷ axes) n = a.cut.size * for_lines axes n

-- how far the last of the first covered indices reaches along an axis
abbrev pub first_reach : Axis → ℕ
first_reach a = (a.cut.min + (a.cut.size - 1) * a.cut.bin) * a.stride

-- the bytes of the sample of this type that is the same modulo 2 to the number of its bits
abbrev pub bytes_of : SampleType → ℤ → List ℕ
bytes_of Int8 z = low_bits 8 z ∷ []
bytes_of UInt8 z = low_bits 8 z ∷ []
bytes_of Int16 z = to_be_bytes w16 (low_bits 16 z)
bytes_of UInt16 z = to_be_bytes w16 (low_bits 16 z)
bytes_of Int32 z = to_be_bytes w32 (low_bits 32 z)
bytes_of UInt32 z = to_be_bytes w32 (low_bits 32 z)

-- the sum for an output index of a line; base is the place of the first line that the bin covers
abbrev pub line_total : SampleType → List ℕ → Cut → List Axis → ℕ → ℕ → ℤ
line_total kind bytes line slower base out = lines_total slower (run kind bytes line.bin) (base + covers_from line out)

-- the bytes of the output's samples at so many output indices of a line
abbrev pub line_bytes : SampleType → List ℕ → Cut → List Axis → (scale : ℕ) → (out_kind : SampleType) → (base from count : ℕ) → List ℕ
line_bytes kind bytes line slower scale out_kind base from count =
    flat_map (λ out. bytes_of out_kind (int_div (line_total kind bytes line slower base out) (pos scale))) (range_with_len from count)

-- the axes of these dimensions, the first of which is the k-th of the array and has this stride
abbrev pub axes_from : RoiRule → (k stride : ℕ) → List Dim → List Axis
axes_from rule k stride [] = []
axes_from rule k stride (dim ∷ dims) = record { cut = held (cut rule k dim.size); stride = stride } ∷ axes_from rule (suc k) (stride * dim.size) dims
