-- One sample more.
use Rattle.std.specs.Prelude.{ℕ, ◌<◌, ◌^◌, Bool, ℤ, pos, ◌+ℤ◌, List, length, slice_index_or, slice_set, unsigned_abs, int_lt, not, ◌&&◌, if◌then◌else◌}
use Rattle.nd_base.specs.declared.graph.StatsRule.{StatsRule}
pub use Rattle.nd_stats.specs.Samples.{AreSmall}
use Rattle.nd_stats.specs.Measured.{has_histogram, bin_of}

-- a sum that has room for one number more
abbrev pub HasRoom : ℤ → Type 0
HasRoom v = unsigned_abs v < 2 ^ 60

-- each sum of a list has room
abbrev pub HaveRoom : List ℤ → Type 0
HaveRoom xs = (k : ℕ) → k < length xs → HasRoom (slice_index_or xs k (pos 0))

-- a list of sums with v added at place k
abbrev pub added_at : List ℤ → ℕ → ℤ → List ℤ
added_at xs k v = slice_set xs k (slice_index_or xs k (pos 0) +ℤ v)

-- v where the test holds
abbrev pub counted : Bool → ℤ → ℤ
counted test v = if test then v else pos 0

abbrev pub one_if : Bool → ℕ
one_if test = if test then 1 else 0

-- the bins with one value more
abbrev pub bins_after : StatsRule → ℤ → List ℤ → List ℤ
bins_after rule v bins =
    if has_histogram rule && (not (int_lt v rule.hist_lo) && not (int_lt rule.hist_hi v)) then added_at bins (bin_of rule v) (pos 1) else bins
