-- The variables of a written file, in their order. All are over the record dimension numArrays.
use Rattle.std.specs.Prelude.{ℕ, suc, ◌*◌, List, [], ◌∷◌, ◌++◌, length, map, codes}
use Rattle.std.specs.List.{range_with_len}
use Rattle.nd_base.specs.declared.array.SampleType.{SampleType}
use Rattle.nd_base.specs.declared.array.SampleType.TheVariants.{Int8, UInt8, Int16, UInt16, Int32, UInt32}
use Rattle.nd_base.specs.declared.attribute.AttrColumn.{AttrColumn}
use Rattle.nd_base.specs.declared.attribute.AttrKind.{AttrKind}
use Rattle.nd_base.specs.declared.attribute.AttrKind.TheVariants.{WholeKind, TextKind, Bits64Kind, Bits32Kind}
use Rattle.nd_base.specs.declared.attribute.FileShape.{FileShape}
use Rattle.nd_base.specs.Samples.{width}
use Rattle.nd_base.specs.Shapes.{sample_count}

-- a variable: its name, the numbers of its dimensions (slowest first), its external type, and the bytes of
-- its values in one record, without padding
pub record Column : Type 0 where
  pub name : List ℕ
  pub dims : List ℕ
  pub kind : ℕ
  pub size : ℕ

-- the external type of samples: that of their width, with a sign
abbrev pub sample_kind : SampleType → ℕ
sample_kind Int8 = 1
sample_kind UInt8 = 1
sample_kind Int16 = 3
sample_kind UInt16 = 3
sample_kind Int32 = 4
sample_kind UInt32 = 4

-- NDDataType, the number of a sample type in the attribute dataType
abbrev pub type_number : SampleType → ℕ
type_number Int8 = 0
type_number UInt8 = 1
type_number Int16 = 2
type_number UInt16 = 3
type_number Int32 = 4
type_number UInt32 = 5

-- a variable with one value a record
abbrev pub scalar : List ℕ → ℕ → ℕ → Column
scalar name kind size = record { name = name; dims = 0 ∷ []; kind = kind; size = size }

-- the samples, over numArrays and dim0, dim1 and so on
abbrev pub sample_column : FileShape → Column
sample_column shape = record {
  name = codes "array_data";
  dims = range_with_len 0 (suc (length shape.dims));
  kind = sample_kind shape.kind;
  size = sample_count shape.dims * width shape.kind;
}

-- the variable of an attribute of this kind; a text has as many characters as the dimension attrStringSize
abbrev pub kind_column : FileShape → List ℕ → AttrKind → Column
kind_column shape name WholeKind = scalar name 4 4
kind_column shape name Bits64Kind = scalar name 6 8
kind_column shape name Bits32Kind = scalar name 5 4
kind_column shape name TextKind = record { name = name; dims = 0 ∷ suc (length shape.dims) ∷ []; kind = 2; size = shape.width }

-- the bytes of an attribute's value in one record, where a text has this room
abbrev pub kind_size : ℕ → AttrKind → ℕ
kind_size width WholeKind = 4
kind_size width Bits64Kind = 8
kind_size width Bits32Kind = 4
kind_size width TextKind = width

abbrev pub attr_column : FileShape → AttrColumn → Column
attr_column shape a = kind_column shape (codes "Attr_" ++ a.name) a.kind

-- the variables that every file has
abbrev pub fixed_columns : FileShape → List Column
fixed_columns shape =
    scalar (codes "uniqueId") 4 4 ∷ scalar (codes "timeStamp") 6 8 ∷ scalar (codes "epicsTSSec") 4 4 ∷ scalar (codes "epicsTSNsec") 4 4
    ∷ sample_column shape ∷ []

-- the variables: the fixed ones, then those of the attributes
abbrev pub columns : FileShape → List Column
columns shape = fixed_columns shape ++ map (attr_column shape) shape.attrs
