-- A stack with each of its arrays changed, and the file of its arrays.
use Rattle.std.specs.Prelude.{ℕ, List, [], ◌∷◌, map, Option}
use Rattle.nd_base.specs.declared.array.Dim.{Dim}
use Rattle.nd_base.specs.declared.attribute.FileShape.{FileShape}
use Rattle.nd_base.specs.declared.form.Form.TheVariants.{Classic}
use Rattle.nd_base.specs.Array.{Array, StackValue}
use Rattle.edge_traits.specs.Files.{Files, with_file}
use Rattle.cdf_write.specs.Layout.{layout}

-- the shape of the changed arrays: that of the stack with the dimensions that come of its own
abbrev pub changed_shape : (List Dim → List Dim) → FileShape → FileShape
changed_shape dims shape = record shape { form = Classic; dims = dims shape.dims }

-- the stack of what comes of each array
abbrev pub changed_stack : (Array → Array) → (List Dim → List Dim) → StackValue → StackValue
changed_stack change dims s = record { shape = changed_shape dims s.shape; arrays = map change s.arrays }

-- the file of some arrays stands under the name; where there are no arrays, nothing has changed
abbrev pub with_stack_file : Option Files → List ℕ → FileShape → List Array → Option Files
with_stack_file held name shape [] = held
with_stack_file held name shape (a ∷ arrays) = with_file held name (layout shape (a ∷ arrays))
