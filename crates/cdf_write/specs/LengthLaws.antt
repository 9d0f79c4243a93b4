-- Laws of lengths: of a header, a row and a file.
use Rattle.std.specs.Prelude.{◌≡◌, ℕ, suc, ◌+◌, ◌*◌, ◌-◌, ◌≤◌, pos, All, take, replicate, List, [], ◌∷◌, ◌++◌, length, map, codes, Option, Some, None}
use Rattle.std.specs.Prelude.{if◌then◌else◌, refl}
use Rattle.std.specs.List.{concat, flat_map, sum_by}
use Rattle.std.proofs.Common.{ap, sym, ◌∙◌, length-append, arith}
use Rattle.std.proofs.lemmas.List.{length-map, length-replicate, length-take-le}
use Rattle.std.proofs.lemmas.List.Elements.{All-head, All-tail}
use Rattle.std.proofs.Math.Nat.{zero-mul, suc-mul}
use Rattle.std.proofs.lemmas.List.Sums.{sum_by-cons, sum_by-append}
use Rattle.std.proofs.lemmas.List.FromFn.{length-range_with_len}
use Rattle.nd_base.specs.declared.array.Dim.{Dim}
use Rattle.nd_base.specs.declared.array.SampleType.{SampleType}
use Rattle.nd_base.specs.declared.array.SampleType.TheVariants.{Int8, UInt8, Int16, UInt16, Int32, UInt32}
use Rattle.nd_base.specs.declared.attribute.Attr.{Attr}
use Rattle.nd_base.specs.declared.attribute.AttrValue.{AttrValue}
use Rattle.nd_base.specs.declared.attribute.AttrValue.TheVariants.{Whole, Text, Bits64, Bits32}
use Rattle.nd_base.specs.declared.attribute.AttrColumn.{AttrColumn}
use Rattle.nd_base.specs.declared.attribute.AttrKind.{AttrKind}
use Rattle.nd_base.specs.declared.attribute.AttrKind.TheVariants.{WholeKind, TextKind, Bits64Kind, Bits32Kind}
use Rattle.nd_base.specs.declared.attribute.FileShape.{FileShape}
use Rattle.nd_base.specs.declared.form.Form.{Form}
use Rattle.nd_base.specs.declared.form.Form.TheVariants.{Classic, Wide}
use Rattle.nd_base.specs.Forms.{longest_of}
use Rattle.nd_base.specs.Array.{Array}
use Rattle.nd_base.specs.Samples.{width, bytes_of}
use Rattle.nd_base.specs.SampleLaws.{length-bytes_of}
use Rattle.nd_base.specs.Shapes.{sample_count}
use Rattle.cdf_write.specs.Spelling.{word, double_word, signed_word, gap, padded_length, name_field, absent, dimension, element_list, fill, padded_values}
use Rattle.cdf_write.specs.SpellingLaws.{length-flat_map, length-flat_map_words, length-name_field, length-attribute, length-int_attribute, concat-map}
use Rattle.cdf_write.specs.SpellingLaws.{length-concat, length-concat-append, length-element_list, length_in_room, padded_text}
use Rattle.cdf_write.specs.Columns.{Column, columns, fixed_columns, attr_column, sample_kind, kind_size}
use Rattle.cdf_write.specs.Layout.{record_count, slowest_first, size_dimensions, dimensions, fixed_attributes, extra_attribute, attributes, magic, offset}
use Rattle.cdf_write.specs.Layout.{variable, variables, header_from, header_length, header, attr_values, row, layout}
use Rattle.cdf_write.specs.Lengths.{columns_length, row_length, length_of, offset_length, attr_header_length, extra_header_length}
use Rattle.cdf_write.specs.Writable.{kind_of, column_of, FitsIn, HasShape}

-- FORMS

pub length-offset : (form : Form) (place : ℕ) → length (offset form place) ≡ offset_length form
length-offset Classic place = refl
length-offset Wide place = refl

pub offset_length_few : (form : Form) → offset_length form ≤ 8
offset_length_few Classic = omega arith
offset_length_few Wide = omega arith

-- no form has longer files than the wide one
pub longest_of_few : (form : Form) → longest_of form ≤ 8589934592
longest_of_few Classic = omega arith
longest_of_few Wide = omega arith

-- DIMENSIONS

pub length-slowest_first : (ns : List ℕ) → length (slowest_first ns) ≡ length ns
length-slowest_first [] = refl
length-slowest_first (n ∷ ns) =
    let front = length-append (slowest_first ns) (n ∷ []) in
    let rest = length-slowest_first ns in
    omega arith

pub length-size_dimensions : (i : ℕ) (ns : List ℕ) → length (size_dimensions i ns) ≡ length ns
length-size_dimensions i [] = refl
length-size_dimensions i (n ∷ ns) = ap suc (length-size_dimensions (i + 1) ns)

size_dimensions_bytes : (i : ℕ) (ns : List ℕ) → length (concat (size_dimensions i ns)) ≡ 12 * length ns
size_dimensions_bytes i [] = refl
size_dimensions_bytes i (n ∷ ns) =
    let rest = size_dimensions_bytes (i + 1) ns in
    omega arith

dimensions_bytes : (shape : FileShape) → length (element_list 10 (dimensions shape)) ≡ 52 + 12 * length shape.dims
dimensions_bytes shape =
    let sizes = map (λ (d : Dim). d.size) shape.dims in
    let whole = length-element_list 10 (dimensions shape) in
    let parts =
    length-concat-append (dimension (codes "numArrays") 0 ∷ size_dimensions 0 (slowest_first sizes)) (dimension (codes "attrStringSize") shape.width ∷ []) in
    let middle = size_dimensions_bytes 0 (slowest_first sizes) in
    let turned = length-slowest_first sizes in
    let rank = length-map shape.dims (λ (d : Dim). d.size) in
    omega arith

-- ATTRIBUTES

fixed_attributes_bytes : (shape : FileShape) → length (concat (fixed_attributes shape)) ≡ 184 + 16 * length shape.dims
fixed_attributes_bytes shape =
    let whole = length-concat (fixed_attributes shape) in
    let sizes = length-int_attribute (codes "dimSize") (λ (d : Dim). pos d.size) shape.dims in
    let offsets = length-int_attribute (codes "dimOffset") (λ (d : Dim). d.offset) shape.dims in
    let binnings = length-int_attribute (codes "dimBinning") (λ (d : Dim). d.binning) shape.dims in
    let reverses = length-int_attribute (codes "dimReverse") (λ (d : Dim). (if d.reverse then pos 1 else pos 0)) shape.dims in
    omega arith

attributes_bytes : (shape : FileShape) → length (element_list 12 (attributes shape)) ≡ 192 + 16 * length shape.dims + sum_by extra_header_length shape.extras
attributes_bytes shape =
    let whole = length-element_list 12 (attributes shape) in
    let parts = length-concat-append (fixed_attributes shape) (map extra_attribute shape.extras) in
    let fixed = fixed_attributes_bytes shape in
    let joined = ap length (concat-map extra_attribute shape.extras) in
    let extras = length-flat_map extra_attribute extra_header_length shape.extras (λ e. length-attribute e.name e.kind _ e.values) in
    omega arith

-- VARIABLES

-- the bytes of a variable in the header
abbrev variable_length : Form → Column → ℕ
variable_length form c = 24 + offset_length form + padded_length (length c.name) + 4 * length c.dims

length-variable : (form : Form) (c : Column) (begin : ℕ) → length (variable form c begin) ≡ variable_length form c
length-variable form c begin =
    let field = length-name_field c.name in
    let one = length-append (name_field c.name) (word (length c.dims)) in
    let two = length-append (name_field c.name ++ word (length c.dims)) (flat_map word c.dims) in
    let numbers = length-flat_map_words word c.dims (λ _. refl) in
    let three = length-append (name_field c.name ++ word (length c.dims) ++ flat_map word c.dims) absent in
    let four = length-append (name_field c.name ++ word (length c.dims) ++ flat_map word c.dims ++ absent) (word c.kind) in
    let five = length-append (name_field c.name ++ word (length c.dims) ++ flat_map word c.dims ++ absent ++ word c.kind) (word (padded_length c.size)) in
    let six =
    length-append (name_field c.name ++ word (length c.dims) ++ flat_map word c.dims ++ absent ++ word c.kind ++ word (padded_length c.size))
    (offset form begin) in
    let place = length-offset form begin in
    omega arith

variables_bytes : (form : Form) (begin : ℕ) (cs : List Column) → length (concat (variables form begin cs)) ≡ sum_by (variable_length form) cs
variables_bytes form begin [] = refl
variables_bytes form begin (c ∷ cs) =
    let front = length-append (variable form c begin) (concat (variables form (begin + padded_length c.size) cs)) in
    let here = length-variable form c begin in
    let rest = variables_bytes form (begin + padded_length c.size) cs in
    let total = sum_by-cons (variable_length form) c cs in
    omega arith

sum_by-map : {X Y : Type 0} → (f : Y → ℕ) (g : X → Y) (h : X → ℕ) (xs : List X) → ((x : X) → f (g x) ≡ h x) → sum_by f (map g xs) ≡ sum_by h xs
sum_by-map f g h [] e = refl
sum_by-map f g h (x ∷ xs) e =
    let left = sum_by-cons f (g x) (map g xs) in
    let right = sum_by-cons h x xs in
    let here = e x in
    let rest = sum_by-map f g h xs e in
    omega arith

attr_by_kind : (shape : FileShape) (name : List ℕ) (kind : AttrKind)
    → variable_length shape.form (attr_column shape (record { name = name; kind = kind })) ≡ attr_header_length shape.form (record { name = name; kind = kind })
attr_by_kind shape name WholeKind = omega arith
attr_by_kind shape name TextKind = omega arith
attr_by_kind shape name Bits64Kind = omega arith
attr_by_kind shape name Bits32Kind = omega arith

fixed_variables_bytes : (shape : FileShape)
    → sum_by (variable_length shape.form) (fixed_columns shape) ≡ 196 + 5 * offset_length shape.form + 4 * length shape.dims
fixed_variables_bytes shape =
    let numbers = length-range_with_len 0 (suc (length shape.dims)) in
    omega arith

all_variables_bytes : (shape : FileShape) (begin : ℕ) → length (element_list 11 (variables shape.form begin (columns shape)))
    ≡ 204 + 5 * offset_length shape.form + 4 * length shape.dims + sum_by (attr_header_length shape.form) shape.attrs
all_variables_bytes shape begin =
    let whole = length-element_list 11 (variables shape.form begin (columns shape)) in
    let bytes = variables_bytes shape.form begin (columns shape) in
    let parts = sum_by-append (variable_length shape.form) (fixed_columns shape) (map (attr_column shape) shape.attrs) in
    let fixed = fixed_variables_bytes shape in
    let attrs =
    sum_by-map (variable_length shape.form) (attr_column shape) (attr_header_length shape.form) shape.attrs (λ a. attr_by_kind shape a.name a.kind) in
    omega arith

-- THE HEADER

record_count_bytes : (numrecs : Option ℕ) → length (record_count numrecs) ≡ 4
record_count_bytes None = refl
record_count_bytes (Some n) = refl

length-header_from : (shape : FileShape) (numrecs : Option ℕ) (begin : ℕ) → length (header_from shape numrecs begin)
    ≡ 456 + 5 * offset_length shape.form + 32 * length shape.dims + sum_by (attr_header_length shape.form) shape.attrs + sum_by extra_header_length shape.extras
length-header_from shape numrecs begin =
    let front = magic shape.form in
    let dims = element_list 10 (dimensions shape) in
    let attrs = element_list 12 (attributes shape) in
    let vars = element_list 11 (variables shape.form begin (columns shape)) in
    let one = length-append front (record_count numrecs) in
    let two = length-append (front ++ record_count numrecs) dims in
    let three = length-append (front ++ record_count numrecs ++ dims) attrs in
    let four = length-append (front ++ record_count numrecs ++ dims ++ attrs) vars in
    let count = record_count_bytes numrecs in
    let dims_bytes = dimensions_bytes shape in
    let attrs_bytes = attributes_bytes shape in
    let vars_bytes = all_variables_bytes shape begin in
    omega arith

-- 456 bytes, five places, 32 bytes for each dimension, and those of each attribute's variable and each extra
pub header_length_is : (shape : FileShape) → header_length shape
    ≡ 456 + 5 * offset_length shape.form + 32 * length shape.dims + sum_by (attr_header_length shape.form) shape.attrs + sum_by extra_header_length shape.extras
unfolding header_length
header_length_is shape = length-header_from shape None 0

pub length-header : (shape : FileShape) (numrecs : Option ℕ) → length (header shape numrecs) ≡ header_length shape
unfolding header
length-header shape numrecs = length-header_from shape numrecs (header_length shape) ∙ sym (header_length_is shape)

-- ROWS

value_size : (shape : FileShape) (name : List ℕ) (kind : AttrKind) → (attr_column shape (record { name = name; kind = kind })).size ≡ kind_size shape.width kind
value_size shape name WholeKind = refl
value_size shape name TextKind = refl
value_size shape name Bits64Kind = refl
value_size shape name Bits32Kind = refl

pub attr_columns_length : (shape : FileShape)
    → columns_length (map (attr_column shape) shape.attrs) ≡ sum_by (λ a. padded_length (kind_size shape.width a.kind)) shape.attrs
attr_columns_length shape =
    sum_by-map (λ (c : Column). padded_length c.size) (attr_column shape) (λ (a : AttrColumn). padded_length (kind_size shape.width a.kind)) shape.attrs
    (λ a. ap padded_length (value_size shape a.name a.kind))

-- 20 bytes for id and times, the samples, and the attributes
pub row_length_is : (shape : FileShape)
    → row_length shape ≡ 20 + padded_length (sample_count shape.dims * width shape.kind)
    + sum_by (λ a. padded_length (kind_size shape.width a.kind)) shape.attrs
unfolding row_length
row_length_is shape =
    let parts = sum_by-append (λ (c : Column). padded_length c.size) (fixed_columns shape) (map (attr_column shape) shape.attrs) in
    let attrs = attr_columns_length shape in
    omega arith

-- ROWS OF ARRAYS

-- there is enough to fill a word
fill_enough : (kind : SampleType) (n bytes : ℕ) → bytes ≡ n * width kind → gap bytes ≤ length (fill (sample_kind kind))
fill_enough Int8 n bytes h = omega arith
fill_enough UInt8 n bytes h = omega arith
fill_enough Int16 n bytes h = omega arith
fill_enough UInt16 n bytes h = omega arith
fill_enough Int32 n bytes h = omega arith
fill_enough UInt32 n bytes h = omega arith

pub padded_values_bytes : (kind : SampleType) (n : ℕ) (values : List ℕ) → length values ≡ n * width kind
    → length (padded_values (sample_kind kind) values) ≡ padded_length (length values)
padded_values_bytes kind n values h =
    length-append values (take (gap (length values)) (fill (sample_kind kind)))
    ∙ ap (λ m. length values + m) (length-take-le (gap (length values)) (fill (sample_kind kind)) (fill_enough kind n (length values) h))

text_bytes : (text : List ℕ) (room : ℕ) → length text ≤ room → length (attr_values room (Text text)) ≡ padded_length room
text_bytes text room h =
    let whole : List ℕ = text ++ replicate (room - length text) 0 in
    let filled = ap length (padded_text text room h) in
    let both = length-append whole (replicate (gap room) 0) in
    let zeros : length (replicate {A = ℕ} (gap room) 0) ≡ gap room = length-replicate (gap room) 0 in
    let in_room = length_in_room text room h in
    omega arith

pub value_bytes : (shape : FileShape) (name : List ℕ) (value : AttrValue) → FitsIn shape.width value
    → length (attr_values shape.width value) ≡ padded_length (attr_column shape (record { name = name; kind = kind_of value })).size
value_bytes shape name (Whole v) h = refl
value_bytes shape name (Text t) h = text_bytes t shape.width h
value_bytes shape name (Bits64 b) h = refl
value_bytes shape name (Bits32 b) h = refl

attrs_bytes : (shape : FileShape) (attrs : List Attr) → All (λ t. FitsIn shape.width t.value) attrs
    → length (flat_map (λ t. attr_values shape.width t.value) attrs) ≡ columns_length (map (attr_column shape) (map column_of attrs))
attrs_bytes shape [] h = refl
attrs_bytes shape (t ∷ attrs) h =
    let both = length-append (attr_values shape.width t.value) (flat_map (λ (s : Attr). attr_values shape.width s.value) attrs) in
    let here = value_bytes shape t.name t.value (All-head (λ (s : Attr). FitsIn shape.width s.value) t attrs h) in
    let rest = attrs_bytes shape attrs (All-tail (λ (s : Attr). FitsIn shape.width s.value) t attrs h) in
    let total = sum_by-cons (λ (c : Column). padded_length c.size) (attr_column shape (column_of t)) (map (attr_column shape) (map column_of attrs)) in
    omega arith

-- a row has the padded sizes of all variables
pub length-row : (shape : FileShape) (a : Array) → HasShape shape a → length (row shape a) ≡ row_length shape
unfolding row
length-row shape a h =
    let samples = padded_values (sample_kind a.kind) (bytes_of a.kind a.samples) in
    let attrs = flat_map (λ (t : Attr). attr_values shape.width t.value) a.attrs in
    let front = signed_word a.id ++ double_word a.stamp ++ signed_word a.sec ++ signed_word a.nsec in
    let one = length-append front samples in
    let two = length-append (front ++ samples) attrs in
    let count = length-bytes_of a.kind a.samples in
    let filled = padded_values_bytes a.kind (length a.samples) (bytes_of a.kind a.samples) count in
    let size : padded_length (length (bytes_of a.kind a.samples)) ≡ padded_length (sample_count shape.dims * width shape.kind) =
    ap padded_length (count ∙ ap (λ n. n * width a.kind) h.count ∙ ap (λ k. sample_count shape.dims * width k) h.kind) in
    let values = attrs_bytes shape a.attrs h.attrs.texts ∙ ap (λ cs. columns_length (map (attr_column shape) cs)) h.attrs.same ∙ attr_columns_length shape in
    let whole = row_length_is shape in
    omega arith

rows_bytes : (shape : FileShape) (arrays : List Array) → All (HasShape shape) arrays → length (flat_map (row shape) arrays) ≡ length arrays * row_length shape
rows_bytes shape [] h = sym (zero-mul (row_length shape))
rows_bytes shape (a ∷ arrays) h =
    let both = length-append (row shape a) (flat_map (row shape) arrays) in
    let here = length-row shape a (All-head (HasShape shape) a arrays h) in
    let rest = rows_bytes shape arrays (All-tail (HasShape shape) a arrays h) in
    let more = suc-mul (length arrays) (row_length shape) in
    omega arith

-- a file has the length of its shape and number of arrays
pub length-layout : (shape : FileShape) (arrays : List Array) → All (HasShape shape) arrays → length (layout shape arrays) ≡ length_of shape (length arrays)
length-layout shape arrays h =
    let both = length-append (header shape (Some (length arrays))) (flat_map (row shape) arrays) in
    let front = length-header shape (Some (length arrays)) in
    let rows = rows_bytes shape arrays h in
    omega arith
