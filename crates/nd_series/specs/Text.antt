-- A series as a text.
use Rattle.std.specs.Prelude.{ℕ, ℤ, List, ◌++◌, codes}
use Rattle.std.specs.List.{flat_map}
use Rattle.std.specs.Fmt.{decimal, signed_decimal}
use Rattle.nd_series.specs.declared.row.Part.{Part}
use Rattle.nd_series.specs.declared.row.SeriesRow.{SeriesRow}
use Rattle.nd_series.specs.Kept.{Kept, sums_over}

-- the numbers of a region, after a space
abbrev pub part_text : Part → List ℕ
part_text p =
    codes " " ++ signed_decimal p.min ++ codes "/" ++ signed_decimal p.max ++ codes "/" ++ signed_decimal p.total
    ++ codes "/" ++ signed_decimal p.border ++ codes "/" ++ decimal p.border_n

-- the line of a row: the frame's id, and the numbers of each region
abbrev pub row_text : SeriesRow → List ℕ
row_text row = signed_decimal row.id ++ flat_map part_text row.parts ++ codes "\n"

-- the line of the sums
abbrev pub sums_text : List ℤ → List ℕ
sums_text sums = codes "sum" ++ flat_map (λ s. codes " " ++ signed_decimal s) sums ++ codes "\n"

-- a line for each row that is kept, the oldest first, and that of the sums
abbrev pub series_text : Kept → List ℕ
series_text s = flat_map row_text s.rows ++ sums_text (sums_over s.regions s.rows)
