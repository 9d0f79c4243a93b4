-- A file in the layout is a stack: its variables have the form of a stack's.
use Rattle.std.specs.Prelude.{◌≡◌, ℕ, ◌+◌, ◌≤◌, ◌==◌, ◌&&◌, nat_le, nat_lt, not, Bool, true, false, pos, List, [], ◌∷◌, ◌++◌, length, map, Some, None, Ok}
use Rattle.std.specs.Prelude.{Result, ok_or, codes, All, refl}
use Rattle.std.specs.List.{flat_map, list_all}
use Rattle.std.proofs.Common.{ap, ◌∙◌, arith}
use Rattle.std.proofs.lemmas.Bool.{and_parts, le-leb}
use Rattle.std.proofs.lemmas.Bool.Decides.{nat_tests}
use Rattle.std.proofs.lemmas.List.Elements.{All-nil, All-cons}
use Rattle.std.proofs.lemmas.List.FromFn.{length-range_with_len}
use Rattle.nd_base.specs.declared.array.Dim.{Dim}
use Rattle.nd_base.specs.declared.array.SampleType.{SampleType}
use Rattle.nd_base.specs.declared.array.SampleType.TheVariants.{Int8, UInt8, Int16, UInt16, Int32, UInt32}
use Rattle.nd_base.specs.declared.attribute.AttrColumn.{AttrColumn}
use Rattle.nd_base.specs.declared.attribute.AttrKind.{AttrKind}
use Rattle.nd_base.specs.declared.attribute.AttrKind.TheVariants.{WholeKind, TextKind, Bits64Kind, Bits32Kind}
use Rattle.nd_base.specs.declared.attribute.FileShape.{FileShape}
use Rattle.nd_base.specs.Samples.{samples_of}
use Rattle.nd_base.specs.Shapes.{has_dimensions, most_samples}
use Rattle.cdf_read.specs.declared.head.HeadVar.{HeadVar}
use Rattle.cdf_read.specs.declared.head.Header.{Header}
use Rattle.cdf_read.specs.PlaceLaws.{position-none}
use Rattle.cdf_write.specs.Spelling.{signed_word, padded_length}
use Rattle.cdf_write.specs.Columns.{Column, sample_kind, type_number, sample_column, kind_column, attr_column, fixed_columns}
use Rattle.cdf_write.specs.Layout.{header_length}
use Rattle.cdf_write.specs.Writable.{IsWritable}
use Rattle.nd_stack.specs.LayoutHeader.{column_var, column_vars, layout_vars, layout_header}
use Rattle.nd_stack.specs.DimLaws.{few_dims, sample_values}
use Rattle.nd_stack.specs.declared.fault.StackFault.{StackFault}
use Rattle.nd_stack.specs.declared.fault.StackFault.TheVariants.{NoArrayData, Rank, TooManyFrames, TooManySamples, FrameCount, AttrShape}
use Rattle.nd_stack.specs.Answers.{◌>>=◌, need}
use Rattle.nd_stack.specs.Columns.{variable_of, frame_count, frame_values}
use Rattle.nd_stack.specs.SampleTypes.{type_by, sample_type}
use Rattle.nd_stack.specs.FrameVars.{counts_frames, frame_misfit}
use Rattle.nd_stack.specs.AttrVars.{is_attr_name, is_attr_var, attr_rank, attr_misfit}
use Rattle.nd_stack.specs.StackRules.{no_misfit, frames_of}

-- where the samples of the first array begin
abbrev pub samples_begin : FileShape → ℕ
samples_begin shape = header_length shape + 4 + 8 + 4 + 4

-- the variable of the samples
abbrev pub sample_var : FileShape → HeadVar
sample_var shape = column_var (sample_column shape) (samples_begin shape)

-- where the first attribute of the first array begins
abbrev pub attrs_begin : FileShape → ℕ
attrs_begin shape = samples_begin shape + padded_length (sample_column shape).size

same_count : (n : ℕ) → (n == n) ≡ true
same_count n = grind (arith, nat_tests)

type_known : (kind : SampleType) → type_by (samples_of Int32 (flat_map signed_word (pos (type_number kind) ∷ []))) (sample_kind kind) ≡ Ok kind
type_known Int8 = refl
type_known UInt8 = refl
type_known Int16 = refl
type_known UInt16 = refl
type_known Int32 = refl
type_known UInt32 = refl

no_frame_misfit : (shape : FileShape) (n : ℕ) → frame_misfit (layout_header shape n) n ≡ None
no_frame_misfit shape n = rw (same_count n) refl

-- ATTRIBUTES

longer : (name : List ℕ) → 1 ≤ length name → nat_lt 5 (length (codes "Attr_" ++ name)) ≡ true
longer name h = grind (arith, nat_tests)

kind_column-is_attr : (shape : FileShape) (name : List ℕ) (kind : AttrKind) (begin : ℕ) → 1 ≤ length name
    → is_attr_var (column_var (kind_column shape (codes "Attr_" ++ name) kind) begin) ≡ true
kind_column-is_attr shape name WholeKind begin h = longer name h
kind_column-is_attr shape name TextKind begin h = longer name h
kind_column-is_attr shape name Bits64Kind begin h = longer name h
kind_column-is_attr shape name Bits32Kind begin h = longer name h

-- an attribute of the layout is an attribute variable
pub attr_column-is_attr : (shape : FileShape) (a : AttrColumn) (begin : ℕ) → 1 ≤ length a.name → is_attr_var (column_var (attr_column shape a) begin) ≡ true
attr_column-is_attr shape a begin h = kind_column-is_attr shape a.name a.kind begin h

kind_column-counts : (shape : FileShape) (n : ℕ) (name : List ℕ) (kind : AttrKind) (begin : ℕ)
    → counts_frames (layout_header shape n) n (attr_rank (kind_column shape name kind).kind) (column_var (kind_column shape name kind) begin) ≡ true
kind_column-counts shape n name WholeKind begin = same_count n
kind_column-counts shape n name TextKind begin = same_count n
kind_column-counts shape n name Bits64Kind begin = same_count n
kind_column-counts shape n name Bits32Kind begin = same_count n

abbrev misfits : Header → ℕ → HeadVar → Bool
misfits h n v = is_attr_var v && not (counts_frames h n (attr_rank v.kind) v)

fitting : (attr counts : Bool) → counts ≡ true → (attr && not counts) ≡ false
fitting true counts e = rw e refl
fitting false counts e = refl

attrs_fit : (shape : FileShape) (n begin : ℕ) (attrs : List AttrColumn)
    → All (λ v. misfits (layout_header shape n) n v ≡ false) (column_vars begin (map (attr_column shape) attrs))
attrs_fit shape n begin [] = All-nil (λ v. misfits (layout_header shape n) n v ≡ false)
attrs_fit shape n begin (a ∷ attrs) =
    let c = attr_column shape a in
    let Fits = λ (v : HeadVar). misfits (layout_header shape n) n v ≡ false in
    All-cons Fits (column_var c begin) (column_vars (begin + padded_length c.size) (map (attr_column shape) attrs))
    (fitting (is_attr_var (column_var c begin)) (counts_frames (layout_header shape n) n (attr_rank c.kind) (column_var c begin))
    (kind_column-counts shape n (codes "Attr_" ++ a.name) a.kind begin)) (attrs_fit shape n (begin + padded_length c.size) attrs)

fixed_fit : (shape : FileShape) (n begin : ℕ) (cs : List Column) (vs : List HeadVar) → list_all (λ c. not (is_attr_name c.name)) cs ≡ true
    → All (λ v. misfits (layout_header shape n) n v ≡ false) vs →
    All (λ v. misfits (layout_header shape n) n v ≡ false) (column_vars begin cs ++ vs)
fixed_fit shape n begin [] vs h rest = rest
fixed_fit shape n begin (c ∷ cs) vs h rest =
    let parts = and_parts (not (is_attr_name c.name)) (list_all (λ (d : Column). not (is_attr_name d.name)) cs) h in
    let Fits = λ (v : HeadVar). misfits (layout_header shape n) n v ≡ false in
    All-cons Fits (column_var c begin) (column_vars (begin + padded_length c.size) cs ++ vs)
    (other (is_attr_name c.name) (nat_lt 5 (length c.name)) (not (counts_frames (layout_header shape n) n (attr_rank c.kind) (column_var c begin))) parts.0)
    (fixed_fit shape n (begin + padded_length c.size) cs vs parts.1 rest)
  where
    other : (a b c : Bool) → not a ≡ true → (a && b && c) ≡ false
    other true b c e = absurd (cc)
    other false b c e = refl

no_attr_misfit : (shape : FileShape) (n : ℕ) → attr_misfit (layout_header shape n) n ≡ None
no_attr_misfit shape n =
    position-none (misfits (layout_header shape n) n) (layout_vars shape) (fixed_fit shape n (header_length shape) (fixed_columns shape)
    (column_vars (attrs_begin shape) (map (attr_column shape) shape.attrs)) refl (attrs_fit shape n (attrs_begin shape) shape.attrs))

-- THE RULES

need_to : (b : Bool) (fault : StackFault) → b ≡ true → need b fault ≡ Ok tt
need_to b fault e = rw e refl

pub bind_to : {A B : Type 0} (read : Result A StackFault) (next : A → Result B StackFault) (x : A) (y : Result B StackFault)
    → read ≡ Ok x → next x ≡ y → (read >>= next) ≡ y
bind_to read next x y e h = ap (λ m. m >>= next) e ∙ h

-- a header whose variables pass each rule
accepted : (h : Header) (v : HeadVar) (kind : SampleType) → variable_of h (codes "array_data") ≡ Some v → sample_type h v.kind ≡ Ok kind
    → (nat_le 2 (length v.dims) && nat_le (length v.dims) 11) ≡ true → frame_count h v ≤ 65536 →
    frame_values h v ≤ most_samples → frame_misfit h (frame_count h v) ≡ None → attr_misfit h (frame_count h v) ≡ None → frames_of h ≡ Ok (v, kind)
unfolding frames_of
accepted h v kind found typed ranked frames samples times attrs =
    bind_to (ok_or (variable_of h (codes "array_data")) NoArrayData) _ v _ (ap (λ o. ok_or o NoArrayData) found)
    (bind_to (sample_type h v.kind) _ kind _ typed
    (bind_to (need (nat_le 2 (length v.dims) && nat_le (length v.dims) 11) (Rank (length v.dims))) _ tt _ (need_to _ _ ranked)
    (bind_to (need (nat_le (frame_count h v) 65536) (TooManyFrames (frame_count h v))) _ tt _ (need_to _ _ (le-leb (frame_count h v) 65536 frames))
    (bind_to (need (nat_le (frame_values h v) most_samples) (TooManySamples (frame_values h v))) _ tt _
    (need_to _ _ (le-leb (frame_values h v) most_samples samples))
    (bind_to (no_misfit (frame_misfit h (frame_count h v)) FrameCount) _ tt _ (ap (λ o. no_misfit o FrameCount) times)
    (bind_to (no_misfit (attr_misfit h (frame_count h v)) AttrShape) _ tt _ (ap (λ o. no_misfit o AttrShape) attrs) refl))))))

some_dims : (dims : List Dim) → has_dimensions dims ≡ true → 1 ≤ length dims
some_dims [] h = absurd (cc)
some_dims (d ∷ dims) h = omega arith

-- the frames are the arrays, with their sample type
pub layout_frames : (shape : FileShape) (n : ℕ) → IsWritable shape → n ≤ 65536 → frames_of (layout_header shape n) ≡ Ok (sample_var shape, shape.kind)
layout_frames shape n writable few =
    let rank = length-range_with_len 1 (length shape.dims) in
    let least = some_dims shape.dims writable.dimensions in
    let most = few_dims shape.dims writable.dimensions in
    let ranked : (nat_le 2 (length (sample_var shape).dims) && nat_le (length (sample_var shape).dims) 11) ≡ true =
    grind (arith, nat_tests, rank, least, most) in
    let samples : frame_values (layout_header shape n) (sample_var shape) ≤ most_samples = omega (arith, sample_values shape writable, writable.samples) in
    accepted (layout_header shape n) (sample_var shape) shape.kind refl (type_known shape.kind) ranked few samples
    (no_frame_misfit shape n) (no_attr_misfit shape n)
