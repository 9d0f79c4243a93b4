-- What `info` prints of a stack.
use Rattle.std.specs.Prelude.{ℕ, List, [], ◌∷◌, ◌++◌, length, codes}
use Rattle.std.specs.List.{flat_map}
use Rattle.std.specs.Fmt.{decimal, signed_decimal}
use Rattle.nd_base.specs.Array.{Array, StackValue}
use Rattle.nd_base.specs.declared.array.Dim.{Dim}
use Rattle.nd_base.specs.declared.array.SampleType.{SampleType}
use Rattle.nd_base.specs.declared.array.SampleType.TheVariants.{Int8, UInt8, Int16, UInt16, Int32, UInt32}
use Rattle.nd_base.specs.declared.attribute.AttrColumn.{AttrColumn}
use Rattle.nd_base.specs.declared.attribute.AttrKind.{AttrKind}
use Rattle.nd_base.specs.declared.attribute.AttrKind.TheVariants.{WholeKind, TextKind, Bits64Kind, Bits32Kind}
use Rattle.tool_commands.specs.Printed.{frames_line}

abbrev pub type_word : SampleType → List ℕ
type_word Int8 = codes "Int8"
type_word UInt8 = codes "UInt8"
type_word Int16 = codes "Int16"
type_word UInt16 = codes "UInt16"
type_word Int32 = codes "Int32"
type_word UInt32 = codes "UInt32"

abbrev pub attr_word : AttrKind → List ℕ
attr_word WholeKind = codes "whole"
attr_word TextKind = codes "text"
attr_word Bits64Kind = codes "bits64"
attr_word Bits32Kind = codes "bits32"

-- `kind` and the type of the samples
abbrev pub kind_line : SampleType → List ℕ
kind_line kind = codes "kind " ++ type_word kind ++ codes "\n"

-- the sizes of the dimensions, dimension 0 first, with a space before each
abbrev pub sizes : List Dim → List ℕ
sizes dims = flat_map (λ d. codes " " ++ decimal d.size) dims

-- `dims` and the sizes
abbrev pub dims_line : List Dim → List ℕ
dims_line dims = codes "dims" ++ sizes dims ++ codes "\n"

-- the last of an array and those after it
abbrev pub last_of : Array → List Array → Array
last_of first [] = first
last_of first (next ∷ others) = last_of next others

-- where there is an array, `ids` and the ids of the first and the last one
abbrev pub ids_line : List Array → List ℕ
ids_line [] = []
ids_line (first ∷ others) = codes "ids " ++ signed_decimal first.id ++ codes " " ++ signed_decimal (last_of first others).id ++ codes "\n"

-- `attr`, the name of an attribute and what its values are
abbrev pub attr_line : AttrColumn → List ℕ
attr_line a = codes "attr " ++ a.name ++ codes " " ++ attr_word a.kind ++ codes "\n"

abbrev pub attr_lines : List AttrColumn → List ℕ
attr_lines attrs = flat_map attr_line attrs

abbrev pub info_text : StackValue → List ℕ
info_text s = kind_line s.shape.kind ++ dims_line s.shape.dims ++ frames_line (length s.arrays) ++ ids_line s.arrays ++ attr_lines s.shape.attrs
