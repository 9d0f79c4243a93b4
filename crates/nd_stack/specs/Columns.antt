-- Variables by name, and where a variable's values for each frame stand. A variable's first dimension counts frames.
use Rattle.std.specs.Prelude.{ℕ, ◌+◌, ◌*◌, ◌<◌, ◌≤◌, List, take, drop, position, slice_get, Option, ◌==◌, if◌then◌else◌}
use Rattle.std.specs.List.{find}
use Rattle.std.specs.Option.{option_map_or}
use Rattle.std.specs.Str.{bytes_eq}
use Rattle.cdf_read.specs.declared.head.HeadVar.{HeadVar}
use Rattle.cdf_read.specs.declared.head.Header.{Header}
use Rattle.cdf_read.specs.Places.{dim_length, value_size, value_count, is_record_var}
use Rattle.nd_stack.specs.declared.column.Column.{Column}

-- the first variable of this name, and its number
abbrev pub variable_of : Header → List ℕ → Option HeadVar
variable_of h name = find (λ v. bytes_eq v.name name) h.vars

abbrev pub number_of : Header → List ℕ → Option ℕ
number_of h name = position (λ v. bytes_eq v.name name) h.vars

-- how many elements a dimension has: one a record for the record dimension
abbrev pub extent : Header → ℕ → ℕ
extent h number = if dim_length h.dims number == 0 then h.records else dim_length h.dims number

-- how many frames a variable has values for
abbrev pub frame_count : Header → HeadVar → ℕ
frame_count h v = option_map_or (extent h) (slice_get v.dims 0) 0

-- how many values a variable has for each frame: those that its other dimensions span
abbrev pub frame_values : Header → HeadVar → ℕ
frame_values h v = value_count h.dims (drop 1 v.dims)

-- the bytes of these values
abbrev pub values_size : Header → HeadVar → ℕ
values_size h v = frame_values h v * value_size v.kind

-- a variable's values for one frame stand together, and those for the next one a record later, or right after them
abbrev pub column_of : Header → HeadVar → Column
column_of h v = record {
  first = v.begin;
  step = if is_record_var h.dims v then h.recsize else values_size h v;
  size = values_size h v;
}

-- the bytes for frame k
abbrev pub cell : List ℕ → Column → ℕ → List ℕ
cell bytes c k = take c.size (drop (c.first + k * c.step) bytes)

-- the bytes for each of so many frames lie within a file of so many bytes
abbrev pub LiesWithin : (total frames : ℕ) → Column → Type 0
LiesWithin total frames c = (k : ℕ) → k < frames → c.first + k * c.step + c.size ≤ total
