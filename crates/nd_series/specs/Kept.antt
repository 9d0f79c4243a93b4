-- The rows that a series keeps, and the sums over them.
use Rattle.std.specs.Prelude.{ℕ, ℤ, pos, ◌+ℤ◌, List, [], ◌∷◌, ◌++◌, length, map, nat_lt, slice_index_or, slice_get, Option, None, if◌then◌else◌}
use Rattle.std.specs.List.{range_with_len}
use Rattle.circular_buffer.specs.Buffer.{keep_last}
use Rattle.nd_series.specs.declared.row.Part.{Part}
use Rattle.nd_series.specs.declared.row.SeriesRow.{SeriesRow}

-- a series: how many regions its rows have, how many rows it keeps at most, and those that it keeps, the oldest first
pub record Kept : Type 0 where
  pub regions : ℕ
  pub most : ℕ
  pub rows : List SeriesRow

-- before any push
abbrev pub no_rows : (regions most : ℕ) → Kept
no_rows regions most = record { regions = regions; most = most; rows = [] }

-- with one row more, where of too many the oldest falls out
abbrev pub with_row : Kept → SeriesRow → Kept
with_row s row = record s { rows = keep_last s.most (s.rows ++ row ∷ []) }

-- the row that falls out where one more comes
abbrev pub fallen : Kept → Option SeriesRow
fallen s = if nat_lt (length s.rows) s.most then None else slice_get s.rows 0

-- after these pushes, one after another
abbrev pub after_pushes : Kept → List SeriesRow → Kept
after_pushes s [] = s
after_pushes s (row ∷ pushed) = after_pushes (with_row s row) pushed

-- the part of region k
abbrev pub part_at : ℕ → List Part → Part
part_at k parts = slice_index_or parts k (record { min = pos 0; max = pos 0; total = pos 0; border = pos 0; border_n = 0 })

-- the sum of the totals of region k over these rows
abbrev pub sum_at : ℕ → List SeriesRow → ℤ
sum_at k [] = pos 0
sum_at k (row ∷ rows) = (part_at k row.parts).total +ℤ sum_at k rows

-- the sum of each region over these rows
abbrev pub sums_over : ℕ → List SeriesRow → List ℤ
sums_over regions rows = map (λ k. sum_at k rows) (range_with_len 0 regions)
