-- What the stack of a file in the layout has beside the samples of each array.
use Rattle.std.specs.Prelude.{◌≡◌, ◌≢◌, ℕ, zero, suc, ◌+◌, ◌-◌, ◌*◌, ◌^◌, ◌<◌, ◌==◌, not, Bool, true, false, List, [], ◌∷◌, ◌++◌, length, map, filter, take}
use Rattle.std.specs.Prelude.{drop, replicate, FitsSigned, All, refl}
use Rattle.std.specs.Int.{w32}
use Rattle.std.specs.List.{flat_map, take_while}
use Rattle.std.specs.Str.{IsUtf8}
use Rattle.std.proofs.Common.{ap, sym, subst, ◌∙◌, arith}
use Rattle.std.proofs.lemmas.Bool.Decides.{nat_tests}
use Rattle.std.proofs.lemmas.List.Elements.{All-head, All-tail}
use Rattle.std.proofs.lemmas.List.Sums.{take_while-cons}
use Rattle.std.proofs.lemmas.Nat.{from_be_bytes-to_be_bytes_4, from_be_bytes-to_be_bytes_8}
use Rattle.nd_base.specs.declared.array.SampleType.TheVariants.{Int32}
use Rattle.nd_base.specs.declared.attribute.Attr.{Attr}
use Rattle.nd_base.specs.declared.attribute.AttrColumn.{AttrColumn}
use Rattle.nd_base.specs.declared.attribute.AttrKind.{AttrKind}
use Rattle.nd_base.specs.declared.attribute.AttrKind.TheVariants.{WholeKind, TextKind, Bits64Kind, Bits32Kind}
use Rattle.nd_base.specs.declared.attribute.AttrValue.{AttrValue}
use Rattle.nd_base.specs.declared.attribute.AttrValue.TheVariants.{Whole, Text, Bits64, Bits32}
use Rattle.nd_base.specs.declared.attribute.FileShape.{FileShape}
use Rattle.nd_base.specs.GraphRules.{IsBetween}
use Rattle.nd_base.specs.SampleLaws.{number-sample_bytes}
use Rattle.cdf_read.specs.declared.head.HeadVar.{HeadVar}
use Rattle.cdf_read.specs.Places.{value_size, value_count}
use Rattle.cdf_write.specs.Spelling.{word, double_word, signed_word, gap, fill, padded_length}
use Rattle.cdf_write.specs.SpellingLaws.{length_in_room}
use Rattle.cdf_write.specs.Columns as written
use Rattle.cdf_write.specs.Columns.{attr_column}
use Rattle.cdf_write.specs.Layout.{attr_values}
use Rattle.cdf_write.specs.Lengths.{row_length}
use Rattle.cdf_write.specs.LengthLaws.{value_bytes}
use Rattle.cdf_write.specs.Writable.{kind_of, column_of, FitsIn, IsWritable}
use Rattle.nd_stack.specs.LayoutHeader.{layout_dims, column_var, column_vars, layout_header}
use Rattle.nd_stack.specs.VarLaws.{IsColumn, column-is_record, attr-IsColumn}
use Rattle.nd_stack.specs.RowPlaces.{Stands, Stands-front, Stands-back, Stands-take}
use Rattle.nd_stack.specs.declared.column.Column.{Column}
use Rattle.nd_stack.specs.Columns as read
use Rattle.nd_stack.specs.Columns.{cell}
use Rattle.nd_stack.specs.AttrVars.{is_attr_var, attr_value, attr_var, attrs_for}
use Rattle.nd_stack.specs.LayoutFrames.{attr_column-is_attr}

-- a value that its bytes give back: a number within its type, or a text without a zero byte
abbrev pub IsKeptValue : AttrValue → Type 0
IsKeptValue (Whole v) = FitsSigned w32 v
IsKeptValue (Text t) = All (λ b. b ≢ 0) t
IsKeptValue (Bits64 b) = b < 2 ^ 64
IsKeptValue (Bits32 b) = b < 2 ^ 32

-- CELLS

other_values : (shape : FileShape) (c : written.Column) → IsColumn shape c
    → value_count (layout_dims shape) (drop 1 c.dims) ≡ value_count (layout_dims shape) c.dims
other_values shape c h = subst (λ numbers. value_count (layout_dims shape) (drop 1 numbers) ≡ value_count (layout_dims shape) numbers) (sym h.numbers) refl

column_is : (shape : FileShape) (n begin : ℕ) (c : written.Column) → IsColumn shape c
    → read.column_of (layout_header shape n) (column_var c begin) ≡ record { first = begin; step = row_length shape; size = c.size }
column_is shape n begin c h =
    let size : value_count (layout_dims shape) (drop 1 c.dims) * value_size c.kind ≡ c.size =
    ap (λ m. m * value_size c.kind) (other_values shape c h) ∙ h.size in
    rw (column-is_record shape c begin h, size) refl

-- the bytes for frame k are those that stand there
pub cell_is : (shape : FileShape) (n begin k : ℕ) (c : written.Column) (bytes text : List ℕ) → IsColumn shape c → length text ≡ c.size
    → Stands bytes (begin + k * row_length shape) text →
    cell bytes (read.column_of (layout_header shape n) (column_var c begin)) k ≡ text
cell_is shape n begin k c bytes text h size stands =
    ap (λ (column : Column). cell bytes column k) (column_is shape n begin c h) ∙ Stands-take bytes (begin + k * row_length shape) c.size text size stands

-- VALUES

text_back : (t : List ℕ) (m : ℕ) → All (λ b. b ≢ 0) t → take_while (λ b. not (b == 0)) (t ++ replicate m 0) ≡ t
text_back [] zero h = refl
text_back [] (suc m) h = refl
text_back (b ∷ t) m h =
    let other : (b == 0) ≡ false = grind (arith, nat_tests, All-head (λ b. b ≢ 0) b t h) in
    take_while-cons (λ c. not (c == 0)) b (t ++ replicate m 0) ∙ rw other (ap (λ rest. b ∷ rest) (text_back t m (All-tail (λ b. b ≢ 0) b t h)))

value_back : (shape : FileShape) (n begin k : ℕ) (name : List ℕ) (value : AttrValue) (bytes : List ℕ)
    → IsColumn shape (attr_column shape (record { name = name; kind = kind_of value })) → FitsIn shape.width value → IsKeptValue value →
    Stands bytes (begin + k * row_length shape) (attr_values shape.width value) →
    attr_value (attr_column shape (record { name = name; kind = kind_of value })).kind
    (cell bytes (read.column_of (layout_header shape n) (column_var (attr_column shape (record { name = name; kind = kind_of value })) begin)) k) ≡ value
value_back shape n begin k name (Whole v) bytes h fits kept stands =
    ap (attr_value 4) (cell_is shape n begin k (attr_column shape (record { name = name; kind = WholeKind })) bytes (signed_word v) h refl stands)
    ∙ ap Whole (number-sample_bytes Int32 v kept)
value_back shape n begin k name (Bits64 b) bytes h fits kept stands =
    ap (attr_value 6) (cell_is shape n begin k (attr_column shape (record { name = name; kind = Bits64Kind })) bytes (double_word b) h refl stands)
    ∙ ap Bits64 (from_be_bytes-to_be_bytes_8 b kept)
value_back shape n begin k name (Bits32 b) bytes h fits kept stands =
    ap (attr_value 5) (cell_is shape n begin k (attr_column shape (record { name = name; kind = Bits32Kind })) bytes (word b) h refl stands)
    ∙ ap Bits32 (from_be_bytes-to_be_bytes_4 b kept)
value_back shape n begin k name (Text t) bytes h fits kept stands =
    let text : List ℕ = t ++ replicate (shape.width - length t) 0 in
    let here : Stands bytes (begin + k * row_length shape) text =
    Stands-front bytes (begin + k * row_length shape) text (take (gap (length text)) (fill 2)) stands in
    ap (attr_value 2)
    (cell_is shape n begin k (attr_column shape (record { name = name; kind = TextKind })) bytes text h (length_in_room t shape.width fits) here)
    ∙ ap Text (text_back t (shape.width - length t) kept)

-- ATTRIBUTES

name_back : (shape : FileShape) (name : List ℕ) (kind : AttrKind) → drop 5 (attr_column shape (record { name = name; kind = kind })).name ≡ name
name_back shape name WholeKind = refl
name_back shape name TextKind = refl
name_back shape name Bits64Kind = refl
name_back shape name Bits32Kind = refl

same_attr : (t : Attr) (name : List ℕ) (value : AttrValue) → name ≡ t.name → value ≡ t.value → ◌≡◌ {A = Attr} (record { name = name; value = value }) t
same_attr t name value n v = rw (n, v) refl

one_more : (p : HeadVar → Bool) (v : HeadVar) (vs : List HeadVar) → p v ≡ true → filter p (v ∷ vs) ≡ v ∷ filter p vs
one_more p v vs h = rw h refl

-- the attributes of frame k are read as they were written
pub attrs_back : (shape : FileShape) (n begin k : ℕ) (attrs : List Attr) (bytes : List ℕ) → IsWritable shape
    → All (λ a. IsBetween 1 1019 (length a.name)) (map column_of attrs) → All (λ a. IsUtf8 a.name) (map column_of attrs) →
    All (λ t. FitsIn shape.width t.value) attrs → All (λ t. IsKeptValue t.value) attrs
    → Stands bytes (begin + k * row_length shape) (flat_map (λ t. attr_values shape.width t.value) attrs) →
    attrs_for bytes (map (attr_var (layout_header shape n)) (filter is_attr_var (column_vars begin (map (attr_column shape) (map column_of attrs))))) k ≡ attrs
attrs_back shape n begin k [] bytes writable names utf8 fits kept stands = refl
attrs_back shape n begin k (t ∷ attrs) bytes writable names utf8 fits kept stands =
    let h = layout_header shape n in
    let a : AttrColumn = column_of t in
    let c : written.Column = attr_column shape a in
    let others : List HeadVar = column_vars (begin + padded_length c.size) (map (attr_column shape) (map column_of attrs)) in
    let here : List ℕ = attr_values shape.width t.value in
    let rest : List ℕ = flat_map (λ (s : Attr). attr_values shape.width s.value) attrs in
    let named : IsBetween 1 1019 (length a.name) = All-head (λ (x : AttrColumn). IsBetween 1 1019 (length x.name)) a (map column_of attrs) names in
    let text : IsUtf8 a.name = All-head (λ (x : AttrColumn). IsUtf8 x.name) a (map column_of attrs) utf8 in
    let room : FitsIn shape.width t.value = All-head (λ (s : Attr). FitsIn shape.width s.value) t attrs fits in
    let value =
    value_back shape n begin k t.name t.value bytes (attr-IsColumn shape a writable named text) room (All-head (λ (s : Attr). IsKeptValue s.value) t attrs kept)
    (Stands-front bytes (begin + k * row_length shape) here rest stands) in
    let first : ◌≡◌ {A = Attr} (record { name = drop 5 c.name; value = attr_value c.kind (cell bytes (read.column_of h (column_var c begin)) k) }) t =
    same_attr t (drop 5 c.name) _ (name_back shape t.name (kind_of t.value)) value in
    ap (λ vs. attrs_for bytes (map (attr_var h) vs) k) (one_more is_attr_var (column_var c begin) others (attr_column-is_attr shape a begin named.0))
    ∙ ap (λ (s : Attr). s ∷ attrs_for bytes (map (attr_var h) (filter is_attr_var others)) k) first
    ∙ ap (λ back. t ∷ back) (attrs_back shape n (begin + padded_length c.size) k attrs bytes writable
    (All-tail (λ (x : AttrColumn). IsBetween 1 1019 (length x.name)) a (map column_of attrs) names)
    (All-tail (λ (x : AttrColumn). IsUtf8 x.name) a (map column_of attrs) utf8)
    (All-tail (λ (s : Attr). FitsIn shape.width s.value) t attrs fits) (All-tail (λ (s : Attr). IsKeptValue s.value) t attrs kept)
    (Stands-back bytes begin (k * row_length shape) (padded_length c.size) here rest (value_bytes shape t.name t.value room) stands))
