-- The fields of a `Series`, and what contracts see of them.
use Rattle.std.specs.Prelude.{◌≡◌, ℕ, ◌≤◌, ◌^◌, ℤ, List, length, All, unsigned_abs}
use Rattle.circular_buffer.specs.Buffer.{Buffer}
use Rattle.nd_series.specs.declared.row.SeriesRow.{SeriesRow}
use Rattle.nd_series.specs.Kept.{Kept, part_at, sums_over}

abbrev pub kept_rows : Buffer SeriesRow → List ℤ → Kept
kept_rows kept sums = record { regions = length sums; most = kept.capacity; rows = kept.items }

-- a row has so many parts, each with a total of at most 64 bits
pub record IsRow (regions : ℕ) (row : SeriesRow) : Type 0 where
  pub parts : length row.parts ≡ regions
  pub small : (k : ℕ) → unsigned_abs (part_at k row.parts).total ≤ 2 ^ 63

-- no more rows than there is room for, and their sums
pub record IsSeries (kept : Buffer SeriesRow) (sums : List ℤ) : Type 0 where
  pub some : 1 ≤ kept.capacity
  pub most : kept.capacity ≤ 4096
  pub room : length kept.items ≤ kept.capacity
  pub rows : All (IsRow (length sums)) kept.items
  pub summed : sums ≡ sums_over (length sums) kept.items
