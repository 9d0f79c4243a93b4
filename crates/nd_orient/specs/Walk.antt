-- Samples by their places, and what the walk over a plane of dimensions 0 and 1 reads.
use Rattle.std.specs.Prelude.{◌≡◌, ℕ, ℤ, ◌-◌, ◌/◌, ◌%◌, ◌+◌, ◌*◌, List, take, drop, if◌then◌else◌}
use Rattle.nd_base.specs.declared.array.SampleType.{SampleType}
use Rattle.nd_base.specs.Samples.{width, number}
use Rattle.nd_orient.specs.declared.samples.Plane.{Plane}
use Rattle.nd_orient.specs.Orientation.{along}

-- the bytes of sample k, where each sample has so many
abbrev pub cell : (width : ℕ) → List ℕ → ℕ → List ℕ
cell width bytes k = take width (drop (k * width) bytes)

-- the number of sample k
abbrev pub stored : SampleType → List ℕ → ℕ → ℤ
stored kind bytes k = number kind (cell (width kind) bytes k)

-- the byte that byte i of n samples is where the last of them comes first
abbrev pub turned : (width n i : ℕ) → ℕ
turned width n i = (n - 1 - i / width) * width + i % width

-- the size of the output's dimension 0
abbrev pub line_size : Plane → ℕ
line_size p = if p.turn.swaps then p.rows else p.columns

-- the size of the output's dimension 1
abbrev pub line_count : Plane → ℕ
line_count p = if p.turn.swaps then p.columns else p.rows

-- the input's column that sample x of the output's line y reads
abbrev pub column : Plane → (x y : ℕ) → ℕ
column p x y = if p.turn.swaps then along p.turn.y_down p.columns y else along p.turn.x_down p.columns x

-- and its row
abbrev pub row : Plane → (x y : ℕ) → ℕ
row p x y = if p.turn.swaps then along p.turn.x_down p.rows x else along p.turn.y_down p.rows y

-- its place in the plane
abbrev pub source : Plane → (x y : ℕ) → ℕ
source p x y = column p x y + p.columns * row p x y

-- place k of the output's plane has the sample that it reads
abbrev pub IsFilled : (width : ℕ) → Plane → (input out : List ℕ) → (k : ℕ) → Type 0
IsFilled width p input out k = cell width out k ≡ cell width input (source p (k % line_size p) (k / line_size p))
