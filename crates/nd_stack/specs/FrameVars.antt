-- The four variables with one value a frame: id, time stamp, seconds and nanoseconds.
use Rattle.std.specs.Prelude.{ℕ, ◌==◌, ◌&&◌, min, Bool, true, ℤ, List, length, Option, Some, None, codes, if◌then◌else◌}
use Rattle.std.specs.Int.{w64, from_be_bytes}
use Rattle.std.specs.Option.{option_map, option_map_or}
use Rattle.nd_base.specs.declared.array.SampleType.TheVariants.{Int32}
use Rattle.nd_base.specs.Samples.{number}
use Rattle.cdf_read.specs.declared.head.HeadVar.{HeadVar}
use Rattle.cdf_read.specs.declared.head.Header.{Header}
use Rattle.nd_stack.specs.declared.column.Column.{Column}
use Rattle.nd_stack.specs.declared.heads.Times.{Times}
use Rattle.nd_stack.specs.Columns.{variable_of, number_of, frame_count, column_of, cell}

-- the variable has this rank, and values for so many frames
abbrev pub counts_frames : Header → ℕ → ℕ → HeadVar → Bool
counts_frames h frames rank v = (length v.dims == rank) && (frame_count h v == frames)

-- one value of this value type for each of so many frames
abbrev pub is_frame_var : Header → ℕ → ℕ → HeadVar → Bool
is_frame_var h frames kind v = counts_frames h frames 1 v && (v.kind == kind)

-- the number of the first variable of this name, where there is one and it has another form
abbrev pub misfit : Header → ℕ → List ℕ → ℕ → Option ℕ
misfit h frames name kind = if option_map_or (is_frame_var h frames kind) (variable_of h name) true then None else number_of h name

-- the smaller of two numbers, where they are there
abbrev pub earlier : Option ℕ → Option ℕ → Option ℕ
earlier None other = other
earlier (Some m) None = Some m
earlier (Some m) (Some n) = Some (min m n)

-- the first of the four that has another form, in the header's order
abbrev pub frame_misfit : Header → ℕ → Option ℕ
frame_misfit h frames =
    earlier (earlier (misfit h frames (codes "uniqueId") 4) (misfit h frames (codes "timeStamp") 6))
    (earlier (misfit h frames (codes "epicsTSSec") 4) (misfit h frames (codes "epicsTSNsec") 4))

abbrev pub column_named : Header → List ℕ → Option Column
column_named h name = option_map (column_of h) (variable_of h name)

-- where the four stand
abbrev pub times_of : Header → Times
times_of h = record {
  id = column_named h (codes "uniqueId");
  stamp = column_named h (codes "timeStamp");
  sec = column_named h (codes "epicsTSSec");
  nsec = column_named h (codes "epicsTSNsec");
}

-- the int for frame k, or this one where the variable is missing
abbrev pub int_for : List ℕ → Option Column → ℕ → ℤ → ℤ
int_for bytes column k missing = option_map_or (λ c. number Int32 (cell bytes c k)) column missing

-- the double's bits for frame k, or 0
abbrev pub bits_for : List ℕ → Option Column → ℕ → ℕ
bits_for bytes column k = option_map_or (λ c. from_be_bytes w64 (cell bytes c k)) column 0
