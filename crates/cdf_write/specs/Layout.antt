-- The file layout: the bytes of a file that holds a list of arrays of one shape.
use Rattle.std.specs.Prelude.{ℕ, ◌+◌, ◌-◌, ◌/◌, pos, List, [], ◌∷◌, ◌++◌, length, map, replicate, Option, Some, None, codes, if◌then◌else◌}
use Rattle.std.specs.List.{flat_map}
use Rattle.nd_base.specs.declared.attribute.AttrValue.{AttrValue}
use Rattle.nd_base.specs.declared.attribute.AttrValue.TheVariants.{Whole, Text, Bits64, Bits32}
use Rattle.nd_base.specs.declared.attribute.Extra.{Extra}
use Rattle.nd_base.specs.declared.attribute.FileShape.{FileShape}
use Rattle.nd_base.specs.declared.form.Form.{Form}
use Rattle.nd_base.specs.declared.form.Form.TheVariants.{Classic, Wide}
use Rattle.nd_base.specs.Array.{Array}
use Rattle.nd_base.specs.Samples.{bytes_of}
use Rattle.cdf_read.specs.Places.{value_size}
use Rattle.cdf_write.specs.Spelling.{word, double_word, signed_word, padded_length, element_list, absent, name_field, dimension, attribute, int_attribute}
use Rattle.cdf_write.specs.Spelling.{padded_values}
use Rattle.cdf_write.specs.Columns.{Column, columns, sample_kind, type_number}

-- THE HEADER

-- the version of the format, 1 with places of four bytes and 2 with places of eight
abbrev pub version : Form → ℕ
version Classic = 1
version Wide = 2

abbrev pub magic : Form → List ℕ
magic form = 67 ∷ 68 ∷ 70 ∷ version form ∷ []

-- numrecs: the number of records, or STREAMING
abbrev pub record_count : Option ℕ → List ℕ
record_count (Some n) = word n
record_count None = word 4294967295

-- a list of sizes with the slowest dimension first, which is the last
abbrev pub slowest_first : List ℕ → List ℕ
slowest_first [] = []
slowest_first (n ∷ ns) = slowest_first ns ++ n ∷ []

-- dim0, dim1 and so on have these sizes
abbrev pub size_dimensions : ℕ → List ℕ → List (List ℕ)
size_dimensions i [] = []
size_dimensions i (n ∷ ns) = dimension (codes "dim" ++ (48 + i) ∷ []) n ∷ size_dimensions (i + 1) ns

-- the record dimension, the array's dimensions with the slowest first, and the room of a text
abbrev pub dimensions : FileShape → List (List ℕ)
dimensions shape =
    (dimension (codes "numArrays") 0 ∷ size_dimensions 0 (slowest_first (map (λ d. d.size) shape.dims)))
    ++ dimension (codes "attrStringSize") shape.width ∷ []

-- the global attributes that every file has
abbrev pub fixed_attributes : FileShape → List (List ℕ)
fixed_attributes shape =
    int_attribute (codes "dataType") (pos (type_number shape.kind) ∷ [])
    ∷ attribute (codes "NDNetCDFFileVersion") 6 1 (64 ∷ 8 ∷ 0 ∷ 0 ∷ 0 ∷ 0 ∷ 0 ∷ 0 ∷ [])
    ∷ int_attribute (codes "numArrayDims") (pos (length shape.dims) ∷ [])
    ∷ int_attribute (codes "dimSize") (map (λ d. pos d.size) shape.dims)
    ∷ int_attribute (codes "dimOffset") (map (λ d. d.offset) shape.dims)
    ∷ int_attribute (codes "dimBinning") (map (λ d. d.binning) shape.dims)
    ∷ int_attribute (codes "dimReverse") (map (λ d. (if d.reverse then pos 1 else pos 0)) shape.dims) ∷ []

abbrev pub extra_attribute : Extra → List ℕ
extra_attribute e = attribute e.name e.kind (length e.values / value_size e.kind) e.values

-- the global attributes: the fixed ones, then the extras
abbrev pub attributes : FileShape → List (List ℕ)
attributes shape = fixed_attributes shape ++ map extra_attribute shape.extras

-- OFFSET: a place in the file, in four bytes or in eight
abbrev pub offset : Form → ℕ → List ℕ
offset Classic place = word place
offset Wide place = double_word place

-- var: name, rank, dimension numbers, no attributes, nc_type, vsize, begin
abbrev pub variable : Form → Column → ℕ → List ℕ
variable form c begin =
    name_field c.name ++ word (length c.dims) ++ flat_map word c.dims ++ absent ++ word c.kind ++ word (padded_length c.size) ++ offset form begin

-- each variable begins where the padded values of the one before it end
abbrev pub variables : Form → ℕ → List Column → List (List ℕ)
variables form begin [] = []
variables form begin (c ∷ cs) = variable form c begin ∷ variables form (begin + padded_length c.size) cs

-- magic, numrecs, dimension list, global attribute list, variable list; the first variable begins at this place
abbrev pub header_from : FileShape → Option ℕ → ℕ → List ℕ
header_from shape numrecs begin =
    magic shape.form ++ record_count numrecs ++ element_list 10 (dimensions shape) ++ element_list 12 (attributes shape)
    ++ element_list 11 (variables shape.form begin (columns shape))

-- no begin changes the header's length
unfoldable pub header_length : FileShape → ℕ
header_length shape = length (header_from shape None 0)

-- the header, after which the values begin
unfoldable pub header : FileShape → Option ℕ → List ℕ
header shape numrecs = header_from shape numrecs (header_length shape)

-- THE RECORDS

-- the values of an attribute in one record; a text is padded with zero bytes to the width
abbrev pub attr_values : ℕ → AttrValue → List ℕ
attr_values width (Whole v) = signed_word v
attr_values width (Text t) = padded_values 2 (t ++ replicate (width - length t) 0)
attr_values width (Bits64 b) = double_word b
attr_values width (Bits32 b) = word b

-- one array: the values of all variables in their order
unfoldable pub row : FileShape → Array → List ℕ
row shape a =
    signed_word a.id ++ double_word a.stamp ++ signed_word a.sec ++ signed_word a.nsec
    ++ padded_values (sample_kind a.kind) (bytes_of a.kind a.samples) ++ flat_map (λ t. attr_values shape.width t.value) a.attrs

-- THE FILE

abbrev pub layout : FileShape → List Array → List ℕ
layout shape arrays = header shape (Some (length arrays)) ++ flat_map (row shape) arrays
