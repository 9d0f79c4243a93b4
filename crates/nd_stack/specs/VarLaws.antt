-- The variables of the layout are read as they are spelled, with the sizes of their columns.
use Rattle.std.specs.Prelude.{◌≡◌, ◌≢◌, ℕ, suc, ◌+◌, ◌-◌, ◌*◌, ◌^◌, ◌<◌, ◌≤◌, List, [], ◌∷◌, ◌++◌, length, map, codes, Bool, true, false, ◌==◌, ◌&&◌}
use Rattle.std.specs.Prelude.{if◌then◌else◌, All, refl}
use Rattle.std.specs.Str.{IsUtf8}
use Rattle.std.specs.List.{flat_map, range_with_len, sum_by}
use Rattle.std.proofs.Common.{ap, sym, subst, ◌∙◌, append_assoc, arith}
use Rattle.std.proofs.Math.Nat.{mul-le-mul}
use Rattle.std.proofs.lemmas.Bool.Decides.{nat_tests}
use Rattle.std.proofs.lemmas.List.Elements.{All-nil, All-cons, All-head, All-tail, All-append, All-map}
use Rattle.std.proofs.lemmas.List.FromFn.{length-range_with_len}
use Rattle.std.proofs.lemmas.List.Sums.{sum_by-cons}
use Rattle.std.proofs.lemmas.Str.{IsUtf8-append}
use Rattle.nd_base.specs.declared.form.Form.{Form}
use Rattle.nd_base.specs.declared.array.SampleType.{SampleType}
use Rattle.nd_base.specs.declared.array.SampleType.TheVariants.{Int8, UInt8, Int16, UInt16, Int32, UInt32}
use Rattle.nd_base.specs.declared.attribute.AttrColumn.{AttrColumn}
use Rattle.nd_base.specs.declared.attribute.AttrKind.{AttrKind}
use Rattle.nd_base.specs.declared.attribute.AttrKind.TheVariants.{WholeKind, TextKind, Bits64Kind, Bits32Kind}
use Rattle.nd_base.specs.declared.attribute.FileShape.{FileShape}
use Rattle.nd_base.specs.GraphRules.{IsBetween}
use Rattle.nd_base.specs.Samples.{width}
use Rattle.nd_base.specs.SampleLaws.{width-most}
use Rattle.nd_base.specs.Shapes.{sample_count}
use Rattle.cdf_read.specs.Fields as fields
use Rattle.cdf_read.specs.declared.head.HeadVar.{HeadVar}
use Rattle.cdf_read.specs.Places.{dim_length, value_size, size_of, var_size, is_record_var, begins_with_record, record_vars, is_unpadded, stored_size}
use Rattle.cdf_read.specs.Places.{record_size, values_end}
use Rattle.cdf_read.specs.Grammar.{greatest, IsAttr, IsDimNumber, IsListHead, AreMany, IsVar, IsList}
use Rattle.cdf_write.specs.Spelling.{word, absent, name_field, padded_length, element_list}
use Rattle.cdf_write.specs.Columns.{Column, scalar, sample_kind, sample_column, kind_column, attr_column, fixed_columns, columns}
use Rattle.cdf_write.specs.Layout.{offset, variable, variables, header_length}
use Rattle.cdf_write.specs.Lengths.{columns_length, row_length}
use Rattle.cdf_write.specs.Writable.{IsWritable}
use Rattle.nd_stack.specs.FieldSpelling.{greatest_begin, offset-IsBegin, word-IsWord, word-IsNumber, word-IsKind, name_field-IsName, AreSpelled}
use Rattle.nd_stack.specs.FieldSpelling.{AreSpelled-count, element_list-IsList}
use Rattle.nd_stack.specs.LayoutHeader.{layout_dims, column_var, column_vars, layout_vars, layout_header}
use Rattle.nd_stack.specs.Groups.{HasTextNames}
use Rattle.nd_stack.specs.DimLaws.{ascii-IsUtf8, few_dims, length-layout_dims, record_numbers_spelled, sample_lengths-positive, sample_values}
use Rattle.nd_stack.specs.DimLaws.{room_lengths-positive, room_values}

-- a column whose variable the header can have: over numArrays and perhaps other dimensions, with its size
pub record IsColumn (shape : FileShape) (c : Column) : Type 0 where
  pub name : IsBetween 1 1024 (length c.name)
  pub utf8 : IsUtf8 c.name
  pub kind : IsBetween 1 6 c.kind
  pub others : List ℕ
  pub numbers : c.dims ≡ 0 ∷ others
  pub lengths : All (λ n. n ≢ 0) (map (dim_length (layout_dims shape)) others)
  pub few : length others ≤ 10
  pub size : size_of (layout_dims shape) c.dims c.kind ≡ c.size
  pub small : c.size ≤ greatest

-- ONE VARIABLE

absent-IsList : (after : List ℕ) → IsList 12 (λ earlier. IsAttr) [] (absent ++ after) after
absent-IsList after =
    let head : IsListHead 12 0 (absent ++ after) after =
    record {
      first = 0;
      at_count = word 0 ++ after;
      tag_word = word-IsWord 0 (word 0 ++ after) (omega arith);
      number = word-IsNumber 0 after (omega arith);
      own = λ _. (refl, refl);
    } in
    (after, head, refl)

variable-IsVar : (form : Form) (shape : FileShape) (c : Column) (begin : ℕ) (after : List ℕ) → IsWritable shape
    → IsColumn shape c → begin ≤ greatest_begin form →
    IsVar form (layout_dims shape) (column_var c begin) (variable form c begin ++ after) after
variable-IsVar form shape c begin after writable h small =
    let at_begin : List ℕ = offset form begin ++ after in
    let at_vsize : List ℕ = word (padded_length c.size) ++ at_begin in
    let at_kind : List ℕ = word c.kind ++ at_vsize in
    let at_attrs : List ℕ = absent ++ at_kind in
    let at_dims : List ℕ = flat_map word c.dims ++ at_attrs in
    let at_rank : List ℕ = word (length c.dims) ++ at_dims in
    let whole : variable form c begin ++ after ≡ name_field c.name ++ at_rank = simp append_assoc refl in
    let rank : length c.dims ≡ suc (length h.others) = ap length h.numbers in
    let few : length (layout_dims shape) < 2 ^ 32 = omega (arith, length-layout_dims shape writable) in
    let within : size_of (layout_dims shape) c.dims c.kind ≤ 4294967296 = omega (arith, h.size, h.small) in
    let numbers : AreMany (IsDimNumber (layout_dims shape)) [] c.dims at_dims at_attrs =
    subst (λ numbers. AreMany (IsDimNumber (layout_dims shape)) [] numbers (flat_map word numbers ++ at_attrs) at_attrs) (sym h.numbers)
    (record_numbers_spelled shape h.others at_attrs few h.lengths) in
    subst (λ before. IsVar form (layout_dims shape) (column_var c begin) before after) (sym whole) (record {
      at_rank = at_rank;
      at_dims = at_dims;
      at_attrs = at_attrs;
      at_kind = at_kind;
      at_vsize = at_vsize;
      at_begin = at_begin;
      name = name_field-IsName c.name at_rank h.name.0 h.name.1 h.utf8;
      rank = word-IsNumber (length c.dims) at_dims (omega (arith, rank, h.few));
      numbers = numbers;
      attrs = absent-IsList at_kind;
      kind = word-IsKind c.kind at_vsize h.kind.0 h.kind.1;
      within = within;
      vsize = record { text = word (padded_length c.size); whole = refl; size = refl };
      begin_number = offset-IsBegin form begin after small;
    })

-- THE COLUMNS

scalar-IsColumn : (shape : FileShape) (name : List ℕ) (kind size : ℕ) → IsBetween 1 1024 (length name) → IsUtf8 name → IsBetween 1 6 kind
    → 1 * value_size kind ≡ size → size ≤ 8 → IsColumn shape (scalar name kind size)
scalar-IsColumn shape name kind size named utf8 typed is small = record {
  name = named;
  utf8 = utf8;
  kind = typed;
  others = [];
  numbers = refl;
  lengths = All-nil (λ n. n ≢ 0);
  few = omega arith;
  size = is;
  small = omega (arith, small);
}

sample_size : (kind : SampleType) → value_size (sample_kind kind) ≡ width kind
sample_size Int8 = refl
sample_size UInt8 = refl
sample_size Int16 = refl
sample_size UInt16 = refl
sample_size Int32 = refl
sample_size UInt32 = refl

sample_kind-IsBetween : (kind : SampleType) → IsBetween 1 6 (sample_kind kind)
sample_kind-IsBetween Int8 = (omega arith, omega arith)
sample_kind-IsBetween UInt8 = (omega arith, omega arith)
sample_kind-IsBetween Int16 = (omega arith, omega arith)
sample_kind-IsBetween UInt16 = (omega arith, omega arith)
sample_kind-IsBetween Int32 = (omega arith, omega arith)
sample_kind-IsBetween UInt32 = (omega arith, omega arith)

small_product : (n w : ℕ) → n ≤ 67108864 → w ≤ 4 → n * w ≤ greatest
small_product n w h k = omega (arith, mul-le-mul h k)

sample-IsColumn : (shape : FileShape) → IsWritable shape → IsColumn shape (sample_column shape)
sample-IsColumn shape h = record {
  name = (omega arith, omega arith);
  utf8 = ascii-IsUtf8 (codes "array_data") refl;
  kind = sample_kind-IsBetween shape.kind;
  others = range_with_len 1 (length shape.dims);
  numbers = refl;
  lengths = sample_lengths-positive shape h;
  few = omega (arith, length-range_with_len 1 (length shape.dims), few_dims shape.dims h.dimensions);
  size = ap (λ n. n * value_size (sample_kind shape.kind)) (sample_values shape h) ∙ ap (λ w. sample_count shape.dims * w) (sample_size shape.kind);
  small = small_product (sample_count shape.dims) (width shape.kind) h.samples (width-most shape.kind);
}

text-IsColumn : (shape : FileShape) (name : List ℕ) → IsWritable shape → IsBetween 1 1024 (length name) → IsUtf8 name
    → IsColumn shape (kind_column shape name TextKind)
text-IsColumn shape name h named utf8 = record {
  name = named;
  utf8 = utf8;
  kind = (omega arith, omega arith);
  others = suc (length shape.dims) ∷ [];
  numbers = refl;
  lengths = room_lengths-positive shape h;
  few = omega arith;
  size = ap (λ n. n * 1) (room_values shape h) ∙ omega arith;
  small = h.width.1;
}

kind_column-IsColumn : (shape : FileShape) (name : List ℕ) (kind : AttrKind) → IsWritable shape → IsBetween 1 1024 (length name) → IsUtf8 name
    → IsColumn shape (kind_column shape name kind)
kind_column-IsColumn shape name WholeKind h named utf8 = scalar-IsColumn shape name 4 4 named utf8 (omega arith, omega arith) refl (omega arith)
kind_column-IsColumn shape name Bits64Kind h named utf8 = scalar-IsColumn shape name 6 8 named utf8 (omega arith, omega arith) refl (omega arith)
kind_column-IsColumn shape name Bits32Kind h named utf8 = scalar-IsColumn shape name 5 4 named utf8 (omega arith, omega arith) refl (omega arith)
kind_column-IsColumn shape name TextKind h named utf8 = text-IsColumn shape name h named utf8

pub attr-IsColumn : (shape : FileShape) (a : AttrColumn) → IsWritable shape → IsBetween 1 1019 (length a.name) → IsUtf8 a.name
    → IsColumn shape (attr_column shape a)
attr-IsColumn shape a h named utf8 =
    kind_column-IsColumn shape (codes "Attr_" ++ a.name) a.kind h
    (omega arith, omega (arith, named.1)) (IsUtf8-append (codes "Attr_") a.name (ascii-IsUtf8 (codes "Attr_") refl) utf8)

pub columns-IsColumn : (shape : FileShape) → IsWritable shape → HasTextNames shape → All (IsColumn shape) (columns shape)
columns-IsColumn shape h texts =
    let Is = IsColumn shape in
    let int : (name : List ℕ) → IsBetween 1 1024 (length name) → IsUtf8 name → Is (scalar name 4 4) =
    λ name named utf8. scalar-IsColumn shape name 4 4 named utf8 (omega arith, omega arith) refl (omega arith) in
    let id = int (codes "uniqueId") (omega arith, omega arith) (ascii-IsUtf8 (codes "uniqueId") refl) in
    let stamp =
    scalar-IsColumn shape (codes "timeStamp") 6 8 (omega arith, omega arith) (ascii-IsUtf8 (codes "timeStamp") refl)
    (omega arith, omega arith) refl (omega arith) in
    let sec = int (codes "epicsTSSec") (omega arith, omega arith) (ascii-IsUtf8 (codes "epicsTSSec") refl) in
    let nsec = int (codes "epicsTSNsec") (omega arith, omega arith) (ascii-IsUtf8 (codes "epicsTSNsec") refl) in
    let one : List Column = sample_column shape ∷ [] in
    let two : List Column = scalar (codes "epicsTSNsec") 4 4 ∷ one in
    let three : List Column = scalar (codes "epicsTSSec") 4 4 ∷ two in
    let four : List Column = scalar (codes "timeStamp") 6 8 ∷ three in
    let fixed : All Is (fixed_columns shape) =
    All-cons Is (scalar (codes "uniqueId") 4 4) four id
    (All-cons Is (scalar (codes "timeStamp") 6 8) three stamp (All-cons Is (scalar (codes "epicsTSSec") 4 4) two sec
    (All-cons Is (scalar (codes "epicsTSNsec") 4 4) one nsec (All-cons Is (sample_column shape) [] (sample-IsColumn shape h) (All-nil Is))))) in
    let attrs : All Is (map (attr_column shape) shape.attrs) =
    All-map Is (attr_column shape) shape.attrs (λ k d within. attr-IsColumn shape _ h (h.names k d within) (texts.attrs k d within)) in
    All-append Is (fixed_columns shape) (map (attr_column shape) shape.attrs) fixed attrs

-- THE LIST

vars_spelled : (form : Form) (shape : FileShape) (earlier : List HeadVar) (begin : ℕ) (cs : List Column) → IsWritable shape → All (IsColumn shape) cs
    → begin + columns_length cs ≤ greatest_begin form →
    AreSpelled (λ earlier. IsVar form (layout_dims shape)) earlier (variables form begin cs) (column_vars begin cs)
vars_spelled form shape earlier begin [] writable h few = tt
vars_spelled form shape earlier begin (c ∷ cs) writable h few =
    let total = sum_by-cons (λ (d : Column). padded_length d.size) c cs in (
      λ after. variable-IsVar form shape c begin after writable (All-head (IsColumn shape) c cs h) (omega (arith, total, few)),
      vars_spelled form shape (earlier ++ column_var c begin ∷ []) (begin + padded_length c.size) cs writable
          (All-tail (IsColumn shape) c cs h) (omega (arith, total, few)),
    )

length-column_vars : (begin : ℕ) (cs : List Column) → length (column_vars begin cs) ≡ length cs
length-column_vars begin [] = refl
length-column_vars begin (c ∷ cs) = ap suc (length-column_vars (begin + padded_length c.size) cs)

pub vars_IsList : (form : Form) (shape : FileShape) (begin : ℕ) (cs : List Column) (after : List ℕ) → IsWritable shape → All (IsColumn shape) cs →
    begin + columns_length cs ≤ greatest_begin form → length cs ≤ greatest →
    IsList 11 (λ earlier. IsVar form (layout_dims shape)) (column_vars begin cs) (element_list 11 (variables form begin cs) ++ after) after
vars_IsList form shape begin cs after writable h few count =
    let Is = (λ (earlier : List HeadVar). IsVar form (layout_dims shape)) in
    let spelled = vars_spelled form shape [] begin cs writable h few in
    element_list-IsList 11 Is (variables form begin cs) (column_vars begin cs) after (omega arith)
    (omega (arith, AreSpelled-count Is [] (variables form begin cs) (column_vars begin cs) spelled, length-column_vars begin cs, count)) spelled

-- THE SIZE OF A RECORD

pub column-is_record : (shape : FileShape) (c : Column) (begin : ℕ) → IsColumn shape c → is_record_var (layout_dims shape) (column_var c begin) ≡ true
column-is_record shape c begin h = ap (begins_with_record (layout_dims shape)) h.numbers

pub all_record_vars : (shape : FileShape) (begin : ℕ) (cs : List Column) → All (IsColumn shape) cs
    → record_vars (layout_dims shape) (column_vars begin cs) ≡ column_vars begin cs
all_record_vars shape begin [] h = refl
all_record_vars shape begin (c ∷ cs) h =
    rw (column-is_record shape c begin (All-head (IsColumn shape) c cs h))
    (ap (λ rest. column_var c begin ∷ rest) (all_record_vars shape (begin + padded_length c.size) cs (All-tail (IsColumn shape) c cs h)))

padded_same : (n : ℕ) → fields.padded n ≡ padded_length n
padded_same n = omega arith

sizes_sum : (shape : FileShape) (begin : ℕ) (cs : List Column) → All (IsColumn shape) cs
    → sum_by (stored_size (layout_dims shape) false) (column_vars begin cs) ≡ columns_length cs
sizes_sum shape begin [] h = refl
sizes_sum shape begin (c ∷ cs) h =
    let rest : List HeadVar = column_vars (begin + padded_length c.size) cs in
    let left = sum_by-cons (stored_size (layout_dims shape) false) (column_var c begin) rest in
    let right = sum_by-cons (λ (d : Column). padded_length d.size) c cs in
    let here : stored_size (layout_dims shape) false (column_var c begin) ≡ padded_length c.size =
    ap fields.padded (All-head (IsColumn shape) c cs h).size ∙ padded_same c.size in
    let others = sizes_sum shape (begin + padded_length c.size) cs (All-tail (IsColumn shape) c cs h) in
    omega (arith, left, right, here, others)

several-padded : (vars : List HeadVar) → 2 ≤ length vars → is_unpadded vars ≡ false
several-padded vars h = grind (arith, nat_tests)

pub record_size_is : (shape : FileShape) → IsWritable shape → HasTextNames shape → record_size (layout_dims shape) (layout_vars shape) ≡ row_length shape
unfolding row_length
record_size_is shape h texts =
    let all = columns-IsColumn shape h texts in
    let vars = layout_vars shape in
    let padded : is_unpadded vars ≡ false = several-padded vars (omega (arith, length-column_vars 0 (map (attr_column shape) shape.attrs))) in
    ap (λ vs. sum_by (stored_size (layout_dims shape) (is_unpadded vs)) vs) (all_record_vars shape (header_length shape) (columns shape) all)
    ∙ ap (λ b. sum_by (stored_size (layout_dims shape) b) vars) padded
    ∙ sizes_sum shape (header_length shape) (columns shape) all

-- THE END OF THE VALUES

end_by : (b c : Bool) (begin records size limit : ℕ) → begin + records + size ≤ limit
    → (if b && c then 0 else begin + (if b then records else 0) + size) ≤ limit
end_by true true begin records size limit h = omega arith
end_by true false begin records size limit h = h
end_by false c begin records size limit h = omega (arith, h)

pub columns-end : (shape : FileShape) (records begin limit : ℕ) (cs : List Column) → All (IsColumn shape) cs
    → begin + columns_length cs + (records - 1) * row_length shape ≤ limit →
    All (λ v. values_end (layout_header shape records) v ≤ limit) (column_vars begin cs)
columns-end shape records begin limit [] h few = All-nil (λ v. values_end (layout_header shape records) v ≤ limit)
columns-end shape records begin limit (c ∷ cs) h few =
    let Ends = λ (v : HeadVar). values_end (layout_header shape records) v ≤ limit in
    let total = sum_by-cons (λ (d : Column). padded_length d.size) c cs in
    let size = (All-head (IsColumn shape) c cs h).size in
    let here : Ends (column_var c begin) =
    end_by (is_record_var (layout_dims shape) (column_var c begin)) (records == 0) begin ((records - 1) * row_length shape)
    (var_size (layout_dims shape) (column_var c begin)) limit (omega (arith, total, few, size)) in
    All-cons Ends (column_var c begin) (column_vars (begin + padded_length c.size) cs) here
    (columns-end shape records (begin + padded_length c.size) limit cs (All-tail (IsColumn shape) c cs h) (omega (arith, total, few)))
