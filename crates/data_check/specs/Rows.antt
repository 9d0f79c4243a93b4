-- The row of an array in a node's file.
use Rattle.std.specs.Prelude.{◌≡◌, ℕ, List}
use Rattle.nd_base.specs.Array.{Array}
use Rattle.nd_base.specs.GraphRules.{IsStats}
use Rattle.cdf_write.specs.Layout as layout
use Rattle.chain_plain.specs.OneThread.{measure_of_array}
use Rattle.nd_stats.specs.Row as text
use Rattle.graph_files.specs.OutFiles.{file_shape}
use Rattle.data_check.specs.Histories.{HistoryValue}
use Rattle.data_check.specs.declared.rows.RowKind.{RowKind}
use Rattle.data_check.specs.declared.rows.RowKind.TheVariants.{Layout, Text}

-- the bytes of an array's row: by the layout, or the text of its measure
abbrev pub row_by : RowKind → Array → List ℕ
row_by (Layout shape) a = layout.row shape.now a
row_by (Text rule) a = text.row (measure_of_array rule.now a)

-- the arrays of a node may have such rows: in the shape of its files, or by a sound rule
abbrev pub IsRowKind : HistoryValue → (v : ℕ) → RowKind → Type 0
IsRowKind h v (Layout shape) = shape.now ≡ file_shape h.graph h.stack v
IsRowKind h v (Text rule) = IsStats rule.now
