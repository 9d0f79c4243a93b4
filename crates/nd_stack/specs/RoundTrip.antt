-- The stack of a file in the layout has the arrays that were written.
use Rattle.std.specs.Prelude.{◌≡◌, ℕ, ◌+◌, ◌*◌, ◌^◌, ◌<◌, ◌≤◌, ℤ, List, length, map, take, drop, filter, Ok, codes, FitsSigned, All, refl}
use Rattle.std.specs.Int.{w32, w64, from_be_bytes}
use Rattle.std.specs.List.{range_with_len}
use Rattle.std.specs.Str.{IsUtf8}
use Rattle.std.proofs.Common.{ap, sym, subst, ◌∙◌, arith, get_or}
use Rattle.std.proofs.lemmas.List.{same_lists}
use Rattle.std.proofs.lemmas.List.FromFn.{length-map-range_with_len, get_or-map-range_with_len}
use Rattle.std.proofs.lemmas.Nat.{from_be_bytes-to_be_bytes_8}
use Rattle.std.proofs.lemmas.Option.{get_or_from_slice_get}
use Rattle.nd_base.specs.declared.array.Dim.{Dim}
use Rattle.nd_base.specs.declared.array.Head.{Head}
use Rattle.nd_base.specs.declared.array.SampleType.{SampleType}
use Rattle.nd_base.specs.declared.array.SampleType.TheVariants.{Int32}
use Rattle.nd_base.specs.declared.attribute.Attr.{Attr}
use Rattle.nd_base.specs.declared.attribute.FileShape.{FileShape}
use Rattle.nd_base.specs.Array.{Array, StackValue}
use Rattle.nd_base.specs.GraphRules.{IsBetween}
use Rattle.nd_base.specs.Samples.{width, number, samples_of, bytes_of}
use Rattle.nd_base.specs.SampleLaws.{IsSample, number-sample_bytes, samples_of-bytes_of, length-bytes_of}
use Rattle.nd_base.specs.Shapes.{sample_count, array_of}
use Rattle.nd_base.specs.Stacks.{frame_size, arrays_at, head_of}
use Rattle.nd_base.specs.StackLaws.{length-arrays_at, slice_get-arrays_at}
use Rattle.cdf_read.specs.declared.head.Header.{Header}
use Rattle.cdf_read.specs.HeaderReading.{header_of}
use Rattle.cdf_write.specs.Spelling.{signed_word, double_word}
use Rattle.cdf_write.specs.Columns.{Column, scalar, attr_column, sample_column}
use Rattle.cdf_write.specs.Layout.{header_length, layout}
use Rattle.cdf_write.specs.Lengths.{row_length}
use Rattle.cdf_write.specs.Writable.{IsWritable, HasShape}
use Rattle.nd_stack.specs.LayoutHeader.{layout_header, column_var, column_vars}
use Rattle.nd_stack.specs.Groups.{IsGroup, HasTextNames}
use Rattle.nd_stack.specs.VarLaws.{IsColumn, columns-IsColumn}
use Rattle.nd_stack.specs.RowPlaces.{Stands, Stands-take, HasValues, layout_values}
use Rattle.nd_stack.specs.LayoutReads.{layout_header_of}
use Rattle.nd_stack.specs.Answers.{or_cdf}
use Rattle.nd_stack.specs.Columns as read
use Rattle.nd_stack.specs.Columns.{cell}
use Rattle.nd_stack.specs.FrameVars.{times_of}
use Rattle.nd_stack.specs.AttrVars.{is_attr_var, attr_var, attr_vars, attrs_for}
use Rattle.nd_stack.specs.FrameShape.{shape_of}
use Rattle.nd_stack.specs.StackRules.{head_for, frames_of, stack_with, stack_of}
use Rattle.nd_stack.specs.LayoutFrames.{bind_to, sample_var, samples_begin, attrs_begin, layout_frames}
use Rattle.nd_stack.specs.LayoutShape.{HasSmallDims, layout_dims_of}
use Rattle.nd_stack.specs.LayoutHeads.{IsKeptValue, cell_is, attrs_back}

-- an array whose numbers are within their types, and whose texts have no zero byte
pub record IsKept (a : Array) : Type 0 where
  pub id : FitsSigned w32 a.id
  pub stamp : a.stamp < 2 ^ 64
  pub sec : FitsSigned w32 a.sec
  pub nsec : FitsSigned w32 a.nsec
  pub samples : All (IsSample a.kind) a.samples
  pub attrs : All (λ t. IsKeptValue t.value) a.attrs

-- ONE ARRAY

attributes_back : (shape : FileShape) (n k : ℕ) (a : Array) (bytes : List ℕ) → IsWritable shape → HasTextNames shape → HasShape shape a → IsKept a
    → HasValues shape a bytes (header_length shape) (k * row_length shape) →
    attrs_for bytes (attr_vars (layout_header shape n)) k ≡ a.attrs
attributes_back shape n k a bytes writable texts has kept values =
    let same = has.attrs.same in
    ap (λ columns. attrs_for bytes
    (map (attr_var (layout_header shape n)) (filter is_attr_var (column_vars (attrs_begin shape) (map (attr_column shape) columns)))) k) (sym same)
    ∙ attrs_back shape n (attrs_begin shape) k a.attrs bytes writable (subst (All (λ x. IsBetween 1 1019 (length x.name))) (sym same) writable.names)
    (subst (All (λ x. IsUtf8 x.name)) (sym same) texts.attrs) has.attrs.texts kept.attrs values.attrs

same_head : (a : Array) (id : ℤ) (stamp : ℕ) (sec nsec : ℤ) (attrs : List Attr) → id ≡ a.id → stamp ≡ a.stamp → sec ≡ a.sec → nsec ≡ a.nsec → attrs ≡ a.attrs →
    ◌≡◌ {A = Head} (record { id = id; stamp = stamp; sec = sec; nsec = nsec; attrs = attrs }) (head_of a)
same_head a id stamp sec nsec attrs i t s n l = rw (i, t, s, n, l) refl

head_back : (shape : FileShape) (n k : ℕ) (a : Array) (bytes : List ℕ) → IsWritable shape → HasTextNames shape → HasShape shape a → IsKept a
    → HasValues shape a bytes (header_length shape) (k * row_length shape) →
    head_for bytes (times_of (layout_header shape n)) (attr_vars (layout_header shape n)) k ≡ head_of a
head_back shape n k a bytes writable texts has kept values =
    let h : Header = layout_header shape n in
    let begin : ℕ = header_length shape in
    let at : (c : Column) (place : ℕ) (text : List ℕ) → IsColumn shape c → length text ≡ c.size → Stands bytes (place + k * row_length shape) text
    → cell bytes (read.column_of h (column_var c place)) k ≡ text =
    λ c place text is size stands. cell_is shape n place k c bytes text is size stands in
    same_head a _ _ _ _ _
    (ap (number Int32) (at (scalar (codes "uniqueId") 4 4) begin (signed_word a.id)
    (columns-IsColumn shape writable texts 0 (sample_column shape) (omega arith)) refl values.id) ∙ number-sample_bytes Int32 a.id kept.id)
    (ap (from_be_bytes w64) (at (scalar (codes "timeStamp") 6 8) (begin + 4) (double_word a.stamp)
    (columns-IsColumn shape writable texts 1 (sample_column shape) (omega arith)) refl values.stamp) ∙ from_be_bytes-to_be_bytes_8 a.stamp kept.stamp)
    (ap (number Int32) (at (scalar (codes "epicsTSSec") 4 4) (begin + 4 + 8) (signed_word a.sec)
    (columns-IsColumn shape writable texts 2 (sample_column shape) (omega arith)) refl values.sec) ∙ number-sample_bytes Int32 a.sec kept.sec)
    (ap (number Int32) (at (scalar (codes "epicsTSNsec") 4 4) (begin + 4 + 8 + 4) (signed_word a.nsec)
    (columns-IsColumn shape writable texts 3 (sample_column shape) (omega arith)) refl values.nsec) ∙ number-sample_bytes Int32 a.nsec kept.nsec)
    (attributes_back shape n k a bytes writable texts has kept values)

samples_back : (shape : FileShape) (k : ℕ) (a : Array) (bytes : List ℕ) → HasShape shape a → IsKept a
    → HasValues shape a bytes (header_length shape) (k * row_length shape) →
    samples_of shape.kind (take (sample_count shape.dims * width shape.kind) (drop (samples_begin shape + k * row_length shape) bytes)) ≡ a.samples
samples_back shape k a bytes has kept values =
    let size : length (bytes_of a.kind a.samples) ≡ sample_count shape.dims * width shape.kind =
    length-bytes_of a.kind a.samples ∙ ap (λ n. n * width a.kind) has.count ∙ ap (λ kind. sample_count shape.dims * width kind) has.kind in
    ap (samples_of shape.kind) (Stands-take bytes (samples_begin shape + k * row_length shape) (sample_count shape.dims * width shape.kind)
    (bytes_of a.kind a.samples) size values.samples)
    ∙ ap (λ kind. samples_of kind (bytes_of a.kind a.samples)) (sym has.kind) ∙ samples_of-bytes_of a.kind a.samples kept.samples

same_array : (a : Array) (head : Head) (kind : SampleType) (dims : List Dim) (bytes : List ℕ) → head ≡ head_of a → kind ≡ a.kind → dims ≡ a.dims
    → samples_of kind bytes ≡ a.samples → array_of head kind dims bytes ≡ a
same_array a head kind dims bytes h k d s =
    ap (λ (x : Head). array_of x kind dims bytes) h
    ∙ ap (λ samples. record { id = a.id; stamp = a.stamp; sec = a.sec; nsec = a.nsec; kind = kind; dims = dims; samples = samples; attrs = a.attrs }) s
    ∙ rw (k, d) refl

array_back : (shape : FileShape) (n k : ℕ) (a : Array) (bytes : List ℕ) → IsWritable shape → HasTextNames shape → HasShape shape a → IsKept a
    → HasValues shape a bytes (header_length shape) (k * row_length shape) →
    array_of (head_for bytes (times_of (layout_header shape n)) (attr_vars (layout_header shape n)) k) shape.kind shape.dims
    (take (sample_count shape.dims * width shape.kind) (drop (samples_begin shape + k * row_length shape) bytes)) ≡ a
array_back shape n k a bytes writable texts has kept values =
    same_array a _ shape.kind shape.dims _ (head_back shape n k a bytes writable texts has kept values) (sym has.kind) (sym has.dims)
    (samples_back shape k a bytes has kept values)

-- ALL ARRAYS

-- arrays at a step, each of which is known
pub arrays_by : (shape : FileShape) (bytes : List ℕ) (first step : ℕ) (head : ℕ → Head) (arrays : List Array) →
    ((k : ℕ) (d : Array) → k < length arrays
    → array_of (head k) shape.kind shape.dims (take (frame_size shape) (drop (first + k * step) bytes)) ≡ get_or arrays k d) →
    arrays_at shape bytes first step (map head (range_with_len 0 (length arrays))) ≡ arrays
arrays_by shape bytes first step head arrays each =
    let heads : List Head = map head (range_with_len 0 (length arrays)) in
    let count : length heads ≡ length arrays = length-map-range_with_len head 0 (length arrays) in
    let all = length-arrays_at shape bytes first step heads in
    same_lists (arrays_at shape bytes first step heads) arrays (all ∙ count) (λ k d within.
    let inside : k < length arrays = omega (arith, within, all, count) in
    let found = slice_get-arrays_at shape bytes first step heads k (head k) (omega (arith, inside, count)) in
    let this : get_or heads k (head k) ≡ head k = get_or-map-range_with_len head 0 (length arrays) k k (head k) inside (omega arith) in
    get_or_from_slice_get (arrays_at shape bytes first step heads) k _ d found
    ∙ ap (λ (x : Head). array_of x shape.kind shape.dims (take (frame_size shape) (drop (first + k * step) bytes))) this ∙ each k d inside)

-- the arrays of a stack with these dimensions
same_dims : (shape : FileShape) (dims : List Dim) (bytes : List ℕ) (first step : ℕ) (heads : List Head) → shape.dims ≡ dims
    → arrays_at shape bytes first step heads ≡ arrays_at (record shape { dims = dims }) bytes first step heads
same_dims shape dims bytes first step heads is = ap (λ ds. arrays_at (record shape { dims = ds }) bytes first step heads) is

-- bytes in whose records the values of some arrays stand
pub stack_back : (shape : FileShape) (arrays : List Array) (bytes : List ℕ) → IsWritable shape → HasTextNames shape → All (HasShape shape) arrays
    → HasSmallDims shape → All IsKept arrays →
    ((k : ℕ) (d : Array) → k < length arrays → HasValues shape (get_or arrays k d) bytes (header_length shape) (k * row_length shape)) →
    (stack_with bytes (layout_header shape (length arrays)) (sample_var shape) shape.kind).arrays ≡ arrays
stack_back shape arrays bytes writable names each dims kept values =
    let n : ℕ = length arrays in
    let h : Header = layout_header shape n in
    let found : FileShape = shape_of h (sample_var shape) shape.kind in
    let head = head_for bytes (times_of h) (attr_vars h) in
    same_dims found shape.dims bytes (samples_begin shape) (row_length shape) (map head (range_with_len 0 n)) (layout_dims_of shape n dims)
    ∙ arrays_by (record found { dims = shape.dims }) bytes (samples_begin shape) (row_length shape) head arrays
    (λ k d within. array_back shape n k (get_or arrays k d) bytes writable names (each k d within) (kept k d within) (values k d within))

-- bytes with the layout's header, and the values of some arrays in its records, are a stack of these arrays
pub read_back : (shape : FileShape) (arrays : List Array) (bytes : List ℕ) → header_of bytes ≡ Ok (layout_header shape (length arrays)) → IsWritable shape
    → HasTextNames shape → All (HasShape shape) arrays →
    HasSmallDims shape → All IsKept arrays → length arrays ≤ 65536 →
    ((k : ℕ) (d : Array) → k < length arrays → HasValues shape (get_or arrays k d) bytes (header_length shape) (k * row_length shape)) →
    (s : StackValue) × (stack_of bytes ≡ Ok s) × (s.arrays ≡ arrays)
unfolding stack_of
read_back shape arrays bytes read writable names each dims kept few values =
    let h : Header = layout_header shape (length arrays) in
    let header : or_cdf (header_of bytes) ≡ Ok h = ap or_cdf read in (
      stack_with bytes h (sample_var shape) shape.kind,
      bind_to (or_cdf (header_of bytes)) _ h _ header
          (bind_to (frames_of h) _ (sample_var shape, shape.kind) _ (layout_frames shape (length arrays) writable few) refl),
      stack_back shape arrays bytes writable names each dims kept values,
    )

-- THE LAW

-- arrays that a file gives back: those of a group, at most as many as a stack has, with numbers within their types and texts
-- without zero bytes
pub record IsKeptGroup (shape : FileShape) (arrays : List Array) : Type 0 where
  pub group : IsGroup shape arrays
  pub dims : HasSmallDims shape
  pub each : All IsKept arrays
  pub few : length arrays ≤ 65536

-- their file is read as a stack of these arrays
abbrev pub ReadsBack : FileShape → List Array → Type 0
ReadsBack shape arrays = (s : StackValue) × (stack_of (layout shape arrays) ≡ Ok s) × (s.arrays ≡ arrays)

pub layout_reads_back : (shape : FileShape) (arrays : List Array) → IsKeptGroup shape arrays → ReadsBack shape arrays
layout_reads_back shape arrays kept =
    let group = kept.group in
    read_back shape arrays (layout shape arrays) (layout_header_of shape arrays group) group.writable group.names group.each kept.dims kept.each kept.few
    (λ k d within. layout_values shape arrays k d group.each within)
