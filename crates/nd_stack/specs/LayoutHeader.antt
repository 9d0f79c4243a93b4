-- The header that a file in the layout has, with so many records of this shape.
use Rattle.std.specs.Prelude.{ℕ, ◌+◌, ◌/◌, ℤ, pos, List, [], ◌∷◌, ◌++◌, length, map, codes, if◌then◌else◌}
use Rattle.std.specs.List.{flat_map}
use Rattle.nd_base.specs.declared.attribute.Extra.{Extra}
use Rattle.nd_base.specs.declared.attribute.FileShape.{FileShape}
use Rattle.cdf_read.specs.declared.head.HeadDim.{HeadDim}
use Rattle.cdf_read.specs.declared.head.HeadAttr.{HeadAttr}
use Rattle.cdf_read.specs.declared.head.HeadVar.{HeadVar}
use Rattle.cdf_read.specs.declared.head.Header.{Header}
use Rattle.cdf_read.specs.Places.{value_size}
use Rattle.cdf_write.specs.Spelling.{signed_word, padded_length}
use Rattle.cdf_write.specs.Columns.{Column, columns, type_number}
use Rattle.cdf_write.specs.Layout.{slowest_first, header_length}
use Rattle.cdf_write.specs.Lengths.{row_length}

-- dim0, dim1 and so on
abbrev pub size_dims : ℕ → List ℕ → List HeadDim
size_dims i [] = []
size_dims i (n ∷ ns) = record { name = codes "dim" ++ (48 + i) ∷ []; length = n } ∷ size_dims (i + 1) ns

abbrev pub layout_sizes : FileShape → List ℕ
layout_sizes shape = slowest_first (map (λ d. d.size) shape.dims)

abbrev pub layout_dims : FileShape → List HeadDim
layout_dims shape =
    (record { name = codes "numArrays"; length = 0 } ∷ size_dims 0 (layout_sizes shape)) ++ record { name = codes "attrStringSize"; length = shape.width } ∷ []

abbrev pub int_attr : List ℕ → List ℤ → HeadAttr
int_attr name values = record { name = name; kind = 4; count = length values; values = flat_map signed_word values }

abbrev pub fixed_gatts : FileShape → List HeadAttr
fixed_gatts shape =
    int_attr (codes "dataType") (pos (type_number shape.kind) ∷ [])
    ∷ record { name = codes "NDNetCDFFileVersion"; kind = 6; count = 1; values = 64 ∷ 8 ∷ 0 ∷ 0 ∷ 0 ∷ 0 ∷ 0 ∷ 0 ∷ [] }
    ∷ int_attr (codes "numArrayDims") (pos (length shape.dims) ∷ [])
    ∷ int_attr (codes "dimSize") (map (λ d. pos d.size) shape.dims)
    ∷ int_attr (codes "dimOffset") (map (λ d. d.offset) shape.dims)
    ∷ int_attr (codes "dimBinning") (map (λ d. d.binning) shape.dims)
    ∷ int_attr (codes "dimReverse") (map (λ d. (if d.reverse then pos 1 else pos 0)) shape.dims) ∷ []

abbrev pub extra_attr : Extra → HeadAttr
extra_attr e = record { name = e.name; kind = e.kind; count = length e.values / value_size e.kind; values = e.values }

abbrev pub layout_gatts : FileShape → List HeadAttr
layout_gatts shape = fixed_gatts shape ++ map extra_attr shape.extras

-- a column's variable, whose values begin at this place
abbrev pub column_var : Column → ℕ → HeadVar
column_var c begin = record { name = c.name; dims = c.dims; attrs = []; kind = c.kind; begin = begin }

abbrev pub column_vars : ℕ → List Column → List HeadVar
column_vars begin [] = []
column_vars begin (c ∷ cs) = column_var c begin ∷ column_vars (begin + padded_length c.size) cs

abbrev pub layout_vars : FileShape → List HeadVar
layout_vars shape = column_vars (header_length shape) (columns shape)

abbrev pub layout_header : FileShape → ℕ → Header
layout_header shape records = record {
  records = records;
  recsize = row_length shape;
  dims = layout_dims shape;
  gatts = layout_gatts shape;
  vars = layout_vars shape;
}
