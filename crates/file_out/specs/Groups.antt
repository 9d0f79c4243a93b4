-- Groups of arrays that are written as one file.
use Rattle.std.specs.Prelude.{List, map}
use Rattle.nd_base.specs.declared.attribute.FileShape.{FileShape}
use Rattle.nd_base.specs.Array.{Array}
use Rattle.nd_base.specs.Shapes.{array_of}
use Rattle.file_out.specs.declared.group.Row.{Row}

-- the array of a head and samples in a file of this shape
abbrev pub row_array : FileShape → Row → Array
row_array shape r = array_of r.head shape.kind shape.dims r.samples

abbrev pub arrays_of : FileShape → List Row → List Array
arrays_of shape rows = map (row_array shape) rows
