-- The eight orientations of an array: each reads the input's samples in another order of dimensions 0 and 1.
use Rattle.std.specs.Prelude.{ℕ, ◌-◌, ℤ, pos, Bool, true, false, not, List, [], ◌∷◌, map, slice_index_or, if◌then◌else◌}
use Rattle.nd_base.specs.declared.array.Dim.{Dim}
use Rattle.nd_base.specs.Array.{Array}
use Rattle.nd_base.specs.Places.{place, indices, sizes_of}
use Rattle.nd_orient.specs.declared.turn.Turn.{Turn}

-- the modes 0 to 7
abbrev pub turns : List Turn
turns =
    record { swaps = false; x_down = false; y_down = false } ∷
    record { swaps = true; x_down = true; y_down = false } ∷
    record { swaps = false; x_down = true; y_down = true } ∷
    record { swaps = true; x_down = false; y_down = true } ∷
    record { swaps = false; x_down = true; y_down = false } ∷
    record { swaps = true; x_down = false; y_down = false } ∷
    record { swaps = false; x_down = false; y_down = true } ∷
    record { swaps = true; x_down = true; y_down = true } ∷ []

-- what a mode does
abbrev pub turn_of : ℕ → Turn
turn_of mode = slice_index_or turns mode (record { swaps = false; x_down = false; y_down = false })

-- the index that the i-th reads of a dimension of n: as it stands, or from the last one down
abbrev pub along : Bool → (n i : ℕ) → ℕ
along down n i = if down then n - 1 - i else i

-- the index of the input, which has these sizes, that an index of the output reads
abbrev pub read_index : Turn → (sizes index : List ℕ) → List ℕ
read_index t [] index = index
read_index t (w ∷ []) index = index
read_index t (w ∷ h ∷ sizes) [] = []
read_index t (w ∷ h ∷ sizes) (x ∷ []) = x ∷ []
read_index t (w ∷ h ∷ sizes) (x ∷ y ∷ index) =
    if t.swaps
    then along t.y_down w y ∷ along t.x_down h x ∷ index
    else along t.x_down w x ∷ along t.y_down h y ∷ index

-- a dimension that is run over as it stands, or down
abbrev pub run_over : Bool → Dim → Dim
run_over down d = record {
  size = d.size;
  offset = d.offset;
  binning = d.binning;
  reverse = if down then not d.reverse else d.reverse;
}

-- the output's dimensions
abbrev pub turned_dims : Turn → List Dim → List Dim
turned_dims t [] = []
turned_dims t (d ∷ []) = d ∷ []
turned_dims t (d ∷ e ∷ dims) =
    if t.swaps
    then run_over t.x_down e ∷ run_over t.y_down d ∷ dims
    else run_over t.x_down d ∷ run_over t.y_down e ∷ dims

-- the output's samples
abbrev pub turned_samples : Turn → List Dim → List ℤ → List ℤ
turned_samples t dims samples =
    map (λ index. slice_index_or samples (place (sizes_of dims) (read_index t (sizes_of dims) index)) (pos 0)) (indices (sizes_of (turned_dims t dims)))

-- the dimensions that a mode gives
abbrev pub oriented_dims : ℕ → List Dim → List Dim
oriented_dims mode dims = turned_dims (turn_of mode) dims

-- the samples that a mode gives
abbrev pub oriented_samples : ℕ → List Dim → List ℤ → List ℤ
oriented_samples mode dims samples = turned_samples (turn_of mode) dims samples

-- the array that a mode gives: its id, times and attributes are those of the input
abbrev pub oriented : ℕ → Array → Array
oriented mode a = record {
  id = a.id;
  stamp = a.stamp;
  sec = a.sec;
  nsec = a.nsec;
  kind = a.kind;
  dims = oriented_dims mode a.dims;
  samples = oriented_samples mode a.dims a.samples;
  attrs = a.attrs;
}
