-- Which shapes a file can have, and which arrays have a shape.
use Rattle.std.specs.Prelude.{◌≡◌, ℕ, ◌%◌, ◌/◌, ◌≤◌, List, length, map, All, IsTrue}
use Rattle.nd_base.specs.declared.attribute.Attr.{Attr}
use Rattle.nd_base.specs.declared.attribute.AttrColumn.{AttrColumn}
use Rattle.nd_base.specs.declared.attribute.AttrKind.{AttrKind}
use Rattle.nd_base.specs.declared.attribute.AttrKind.TheVariants.{WholeKind, TextKind, Bits64Kind, Bits32Kind}
use Rattle.nd_base.specs.declared.attribute.AttrValue.{AttrValue}
use Rattle.nd_base.specs.declared.attribute.AttrValue.TheVariants.{Whole, Text, Bits64, Bits32}
use Rattle.nd_base.specs.declared.attribute.Extra.{Extra}
use Rattle.nd_base.specs.declared.attribute.FileShape.{FileShape}
use Rattle.nd_base.specs.Array.{Array}
use Rattle.nd_base.specs.GraphRules.{IsBetween}
use Rattle.nd_base.specs.Shapes.{has_dimensions, sample_count, most_samples}
use Rattle.cdf_read.specs.Places.{value_size}

-- an extra's name, external type and whole values
pub record IsExtra (e : Extra) : Type 0 where
  pub name : IsBetween 1 1024 (length e.name)
  pub kind : IsBetween 1 6 e.kind
  pub whole : length e.values % value_size e.kind ≡ 0
  pub few : length e.values / value_size e.kind ≤ 2147483647

-- a shape that the layout can spell
pub record IsWritable (shape : FileShape) : Type 0 where
  pub dimensions : IsTrue (has_dimensions shape.dims)
  pub samples : sample_count shape.dims ≤ most_samples
  pub width : IsBetween 1 2147483647 shape.width
  pub attrs : length shape.attrs ≤ 2147483647
  pub names : All (λ a. IsBetween 1 1019 (length a.name)) shape.attrs
  pub extras : length shape.extras ≤ 2147483647
  pub each_extra : All IsExtra shape.extras

abbrev pub kind_of : AttrValue → AttrKind
kind_of (Whole v) = WholeKind
kind_of (Text t) = TextKind
kind_of (Bits64 b) = Bits64Kind
kind_of (Bits32 b) = Bits32Kind

abbrev pub column_of : Attr → AttrColumn
column_of t = record { name = t.name; kind = kind_of t.value }

-- a text is no longer than the room for it
abbrev pub FitsIn : ℕ → AttrValue → Type 0
FitsIn width (Text t) = length t ≤ width
FitsIn width (Whole v) = Unit {0}
FitsIn width (Bits64 b) = Unit {0}
FitsIn width (Bits32 b) = Unit {0}

-- the attributes have the names and kinds of the shape, in its order, and each text has room
pub record HasColumns (shape : FileShape) (attrs : List Attr) : Type 0 where
  pub same : map column_of attrs ≡ shape.attrs
  pub texts : All (λ t. FitsIn shape.width t.value) attrs

-- an array of a shape: the shape's type, dimensions and attributes, and a sample for each place
pub record HasShape (shape : FileShape) (a : Array) : Type 0 where
  pub kind : a.kind ≡ shape.kind
  pub dims : a.dims ≡ shape.dims
  pub count : length a.samples ≡ sample_count shape.dims
  pub attrs : HasColumns shape a.attrs
