-- The files of rows, by what the nodes measured.
use Rattle.std.specs.Prelude.{ℕ, false, List, [], ◌∷◌, ◌++◌}
use Rattle.std.specs.List.{flat_map}
use Rattle.nd_base.specs.declared.graph.Kind.{Kind}
use Rattle.nd_base.specs.declared.graph.Kind.TheVariants.{Roi, Stats, Circular, File, Scatter}
use Rattle.nd_base.specs.declared.graph.NodeRule.{NodeRule}
use Rattle.nd_base.specs.declared.measure.Measure.{Measure}
use Rattle.nd_stats.specs.Row.{row}
use Rattle.graph_files.specs.OutFiles.{OutFile, stats_name}

-- of a node of this kind and name
abbrev pub kind_rows_file : (prefix name : List ℕ) → Kind → List Measure → List OutFile
kind_rows_file prefix name (Stats r) measures = record { name = stats_name prefix name; bytes = flat_map row measures; late = false } ∷ []
kind_rows_file prefix name (Roi r) measures = []
kind_rows_file prefix name (Circular r) measures = []
kind_rows_file prefix name (File r) measures = []
kind_rows_file prefix name Scatter measures = []

abbrev pub measured_rows : (prefix : List ℕ) → NodeRule → List Measure → List OutFile
measured_rows prefix n measures = kind_rows_file prefix n.name n.kind measures

-- of these nodes, in their order, with what each measured
abbrev pub measured_files : (prefix : List ℕ) → List NodeRule → List (List Measure) → List OutFile
measured_files prefix [] ms = []
measured_files prefix (n ∷ ns) [] = []
measured_files prefix (n ∷ ns) (m ∷ ms) = measured_rows prefix n m ++ measured_files prefix ns ms
