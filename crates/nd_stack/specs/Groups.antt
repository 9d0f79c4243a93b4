-- Which lists of arrays a file in the layout holds.
use Rattle.std.specs.Prelude.{◌≤◌, List, length, All}
use Rattle.std.specs.Str.{IsUtf8}
use Rattle.nd_base.specs.declared.attribute.FileShape.{FileShape}
use Rattle.nd_base.specs.Array.{Array}
use Rattle.nd_base.specs.Forms.{longest_of}
use Rattle.cdf_write.specs.Lengths.{length_of}
use Rattle.cdf_write.specs.Writable.{IsWritable, HasShape}

-- the names of attributes and extras are texts
pub record HasTextNames (shape : FileShape) : Type 0 where
  pub attrs : All (λ a. IsUtf8 a.name) shape.attrs
  pub extras : All (λ e. IsUtf8 e.name) shape.extras

-- some arrays of one writable shape, whose file isn't too long
pub record IsGroup (shape : FileShape) (arrays : List Array) : Type 0 where
  pub writable : IsWritable shape
  pub names : HasTextNames shape
  pub some : 1 ≤ length arrays
  pub each : All (HasShape shape) arrays
  pub within : length_of shape (length arrays) ≤ longest_of shape.form
