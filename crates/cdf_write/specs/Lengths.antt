-- Lengths of files and records in bytes, and what a header is refused for.
use Rattle.std.specs.Prelude.{◌≡◌, ℕ, ◌+◌, ◌*◌, ◌<◌, ◌≤◌, List, length}
use Rattle.std.specs.List.{sum_by}
use Rattle.nd_base.specs.declared.form.Form.{Form}
use Rattle.nd_base.specs.declared.form.Form.TheVariants.{Classic, Wide}
use Rattle.nd_base.specs.Forms.{longest_of}
use Rattle.nd_base.specs.declared.attribute.AttrColumn.{AttrColumn}
use Rattle.nd_base.specs.declared.attribute.AttrKind.{AttrKind}
use Rattle.nd_base.specs.declared.attribute.AttrKind.TheVariants.{WholeKind, TextKind, Bits64Kind, Bits32Kind}
use Rattle.nd_base.specs.declared.attribute.Extra.{Extra}
use Rattle.nd_base.specs.declared.attribute.FileShape.{FileShape}
use Rattle.cdf_write.specs.declared.header.TooLarge.{TooLarge}
use Rattle.cdf_write.specs.declared.header.TooLarge.TheVariants.{FileTooLarge, OutOfMemory}
use Rattle.cdf_write.specs.Spelling.{padded_length}
use Rattle.cdf_write.specs.Columns.{Column, columns}
use Rattle.cdf_write.specs.Layout.{header_length}

-- variables in one record: their padded sizes
abbrev pub columns_length : List Column → ℕ
columns_length cs = sum_by (λ c. padded_length c.size) cs

-- one record
unfoldable pub row_length : FileShape → ℕ
row_length shape = columns_length (columns shape)

-- a file with so many records
abbrev pub length_of : FileShape → ℕ → ℕ
length_of shape count = header_length shape + count * row_length shape

-- what the header of a file of this form and length is refused for: the length, exactly where it is too long, else
-- want of memory
abbrev pub IsRefusal : Form → ℕ → TooLarge → Type 0
IsRefusal form length (FileTooLarge bytes) = (bytes ≡ length) × (longest_of form < length)
IsRefusal form length OutOfMemory = length ≤ longest_of form

-- the bytes of a place in the header
abbrev pub offset_length : Form → ℕ
offset_length Classic = 4
offset_length Wide = 8

-- the bytes of the dimension numbers of an attribute's variable
abbrev pub dims_length : AttrKind → ℕ
dims_length WholeKind = 4
dims_length Bits64Kind = 4
dims_length Bits32Kind = 4
dims_length TextKind = 8

-- the header's bytes for the variable of an attribute
abbrev pub attr_header_length : Form → AttrColumn → ℕ
attr_header_length form a = 24 + offset_length form + dims_length a.kind + padded_length (5 + length a.name)

-- the header's bytes for an extra
abbrev pub extra_header_length : Extra → ℕ
extra_header_length e = 12 + padded_length (length e.name) + padded_length (length e.values)
