-- Rows of some of the arrays that are written.
use Rattle.std.specs.Prelude.{◌≡◌, ℕ, List, ◌++◌, take, drop, slice_get, Some, All}
use Rattle.std.specs.List.{flat_map}
use Rattle.nd_base.specs.declared.array.Dim.{Dim}
use Rattle.nd_base.specs.declared.attribute.FileShape.{FileShape}
use Rattle.nd_base.specs.Array.{Array, StackValue}
use Rattle.cdf_write.specs.Layout.{row}
use Rattle.cdf_write.specs.Writable.{IsWritable, HasShape}
use Rattle.nd_stack.specs.KeptStacks.{IsKeptStack}
use Rattle.nd_stack.specs.RoundTrip.{IsKept}
use Rattle.stack_file.specs.ChangedStacks.{changed_shape}

-- a stack whose changed arrays have this shape, which can be written
pub record IsSource (dims : List Dim → List Dim) (s : StackValue) (shape : FileShape) : Type 0 where
  pub kept : IsKeptStack s
  pub same : shape ≡ changed_shape dims s.shape
  pub writable : IsWritable shape

-- an array of the shape that a file gives back
pub record IsGiven (shape : FileShape) (a : Array) : Type 0 where
  pub has : HasShape shape a
  pub kept : IsKept a

-- the row of array k was added
pub record IsAdded (shape : FileShape) (arrays : List Array) (k : ℕ) (old new : List ℕ) : Type 0 where
  pub array : Array
  pub at : slice_get arrays k ≡ Some array
  pub given : IsGiven shape array
  pub rows : new ≡ old ++ row shape array

-- the arrays from one number on up to another
abbrev pub part : ℕ → ℕ → List Array → List Array
part from to arrays = drop from (take to arrays)

-- the rows of these arrays are gathered
pub record AreGathered (shape : FileShape) (arrays : List Array) (from to : ℕ) (rows : List ℕ) : Type 0 where
  pub given : All (IsGiven shape) (part from to arrays)
  pub bytes : rows ≡ flat_map (row shape) (part from to arrays)
