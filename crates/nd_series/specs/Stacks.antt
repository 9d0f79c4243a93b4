-- The series of a stack.
use Rattle.std.specs.Prelude.{ℕ, List, length, map}
use Rattle.circular_buffer.specs.Buffer.{keep_last}
use Rattle.nd_base.specs.Array.{Array}
use Rattle.nd_series.specs.declared.region.Box4.{Box4}
use Rattle.nd_series.specs.Kept.{Kept}
use Rattle.nd_series.specs.Regions.{row_of}

-- the rows of the last `most` frames, or of all where they are fewer
abbrev pub series_of : ℕ → List Box4 → List Array → Kept
series_of most regions arrays = record { regions = length regions; most = most; rows = keep_last most (map (row_of regions) arrays) }
