-- The shape of a stack that was read: its names are texts, and the numbers of its dimensions are within their types.
use Rattle.std.proofs.Common.{◌≡◌, ◌<◌, ℕ, zero, suc, Bool, true, false, List, [], ◌∷◌, length, take, drop, get_or, Option, Some, None, refl, sym, subst, arith}
use Rattle.std.specs.Prelude.{ℤ, pos, All, FitsSigned, nat_lt, filter, ◌==◌, slice_index_or, codes, if◌then◌else◌}
use Rattle.std.specs.Int.{w32}
use Rattle.std.specs.List.{find, range_with_len}
use Rattle.std.specs.Str.{IsUtf8, bytes_eq}
use Rattle.std.specs.Cmp.Lexicographic.{same_text}
use Rattle.std.proofs.lemmas.Bool.{and_parts, ltb-true}
use Rattle.std.proofs.lemmas.Int.{ints}
use Rattle.std.proofs.lemmas.List.Elements.{All-nil, All-head, All-tail, All-map, All-filter, filter_passes}
use Rattle.std.proofs.lemmas.Str.{IsUtf8-drop, IsCharBoundary-from_take}
use Rattle.nd_base.specs.declared.array.Dim.{Dim}
use Rattle.nd_base.specs.declared.array.SampleType.{SampleType}
use Rattle.nd_base.specs.declared.array.SampleType.TheVariants.{Int32}
use Rattle.nd_base.specs.declared.attribute.AttrColumn.{AttrColumn}
use Rattle.nd_base.specs.declared.attribute.Extra.{Extra}
use Rattle.nd_base.specs.SampleLaws.{AreBytes, samples_of-IsSample}
use Rattle.cdf_read.specs.declared.head.HeadAttr.{HeadAttr}
use Rattle.cdf_read.specs.declared.head.HeadVar.{HeadVar}
use Rattle.cdf_read.specs.declared.head.Header.{Header}
use Rattle.cdf_read.specs.Grammar.{IsAttr, IsVar, Reads}
use Rattle.nd_stack.specs.declared.attributes.AttrVar.{AttrVar}
use Rattle.nd_stack.specs.SampleTypes.{int_bytes_of, int_bytes, ints as values_of, dim_value}
use Rattle.nd_stack.specs.AttrVars.{is_attr_name, is_attr_var, attr_kind, attr_var, attr_vars}
use Rattle.nd_stack.specs.FrameShape.{sizes_of, frame_dim, extra, shape_of}
use Rattle.nd_stack.specs.Groups.{HasTextNames}
use Rattle.nd_stack.specs.DimLaws.{ascii-IsUtf8}
use Rattle.nd_stack.specs.LayoutShape.{HasSmallDims}
use Rattle.nd_stack.specs.SoundLaws.{AreMany-All}
use Rattle.nd_stack.proofs.Numbers.{All-find}

-- NAMES

-- what follows `Attr_` in a text is a text
rest-IsUtf8 : (name : List ℕ) → is_attr_name name ≡ true → 5 < length name → IsUtf8 name → IsUtf8 (drop 5 name)
rest-IsUtf8 name is longer text =
    let front : codes "Attr_" ≡ take 5 name = same_text (codes "Attr_") (take 5 name) (sym is) in
    IsUtf8-drop name 5 text (IsCharBoundary-from_take name 5 text (omega (arith, longer)) (subst IsUtf8 front (ascii-IsUtf8 (codes "Attr_") refl)))

attr_name-IsUtf8 : (v : HeadVar) → is_attr_var v ≡ true → IsUtf8 v.name → IsUtf8 (drop 5 v.name)
attr_name-IsUtf8 v is text =
    let parts = and_parts (is_attr_name v.name) (nat_lt 5 (length v.name)) is in
    rest-IsUtf8 v.name parts.0 (ltb-true 5 (length v.name) parts.1) text

attr_vars-IsUtf8 : (h : Header) → All (λ v. IsUtf8 v.name) h.vars → All (λ (a : AttrVar). IsUtf8 a.name) (attr_vars h)
attr_vars-IsUtf8 h all =
    let kept = All-filter is_attr_var (λ v. IsUtf8 v.name) h.vars all in
    let are = filter_passes is_attr_var h.vars in
    All-map (λ (a : AttrVar). IsUtf8 a.name) (attr_var h) (filter is_attr_var h.vars)
    (λ i d inside. attr_name-IsUtf8 (get_or (filter is_attr_var h.vars) i d) (are i d inside) (kept i d inside))

pub shape_of-HasTextNames : (bytes : List ℕ) (h : Header) (v : HeadVar) (kind : SampleType) → Reads bytes h → HasTextNames (shape_of h v kind)
shape_of-HasTextNames bytes h v kind reads =
    let vars =
    AreMany-All (λ (earlier : List HeadVar). IsVar reads.form h.dims) (λ x. IsUtf8 x.name)
    (λ earlier x before after is. is.name.utf8) [] h.vars reads.header.vars.0 reads.after reads.header.vars.2 in
    let gatts =
    AreMany-All (λ (earlier : List HeadAttr). IsAttr) (λ x. IsUtf8 x.name)
    (λ earlier x before after is. is.name.utf8) [] h.gatts reads.header.gatts.0 reads.header.at_vars reads.header.gatts.2 in
    let named = λ (a : HeadAttr). is_attr_name a.name in
    record {
      attrs =
          All-map (λ (a : AttrColumn). IsUtf8 a.name) (λ (a : AttrVar). record { name = a.name; kind = attr_kind a.kind })
          (attr_vars h) (attr_vars-IsUtf8 h vars);
      extras = All-map (λ (e : Extra). IsUtf8 e.name) extra (filter named h.gatts) (All-filter named (λ a. IsUtf8 a.name) h.gatts gatts);
    }

-- DIMENSIONS

values_found : (o : Option HeadAttr) → ((a : HeadAttr) → o ≡ Some a → AreBytes a.values) → AreBytes (int_bytes_of o)
values_found None each = All-nil (λ b. b < 256)
values_found (Some a) each = by (a.kind == 4)
  where
    by : (int : Bool) → AreBytes (if int then a.values else [])
    by true = each a refl
    by false = All-nil (λ b. b < 256)

value_or : (values : List ℤ) (i : ℕ) (other : ℤ) → All (FitsSigned w32) values → FitsSigned w32 other → FitsSigned w32 (slice_index_or values i other)
value_or [] i other all fits = fits
value_or (v ∷ values) zero other all fits = All-head (FitsSigned w32) v values all
value_or (v ∷ values) (suc i) other all fits = value_or values i other (All-tail (FitsSigned w32) v values all) fits

-- the number of a dimension is within its type
dim_value-fits : (h : Header) (name : List ℕ) (count i : ℕ) (other : ℤ) → All (λ a. AreBytes a.values) h.gatts → FitsSigned w32 other
    → FitsSigned w32 (dim_value h name count i other)
dim_value-fits h name count i other all fits = by (length (values_of h name) == count)
  where
    small : All (FitsSigned w32) (values_of h name)
    small =
        samples_of-IsSample Int32 (int_bytes h name)
        (values_found (find (λ a. bytes_eq a.name name) h.gatts) (λ a is. All-find (λ a. AreBytes a.values) (λ a. bytes_eq a.name name) h.gatts a all is))

    by : (one_each : Bool) → FitsSigned w32 (if one_each then slice_index_or (values_of h name) i other else other)
    by true = value_or (values_of h name) i other small fits
    by false = fits

pub shape_of-HasSmallDims : (h : Header) (v : HeadVar) (kind : SampleType) → All (λ a. AreBytes a.values) h.gatts → HasSmallDims (shape_of h v kind)
shape_of-HasSmallDims h v kind all =
    let count = length (sizes_of h v) in
    let numbers = range_with_len 0 count in
    record {
      offsets =
          All-map (λ (d : Dim). FitsSigned w32 d.offset) (frame_dim h v) numbers
          (λ i d inside. dim_value-fits h (codes "dimOffset") count (get_or numbers i d) (pos 0) all (omega (arith, ints)));
      binnings =
          All-map (λ (d : Dim). FitsSigned w32 d.binning) (frame_dim h v) numbers
          (λ i d inside. dim_value-fits h (codes "dimBinning") count (get_or numbers i d) (pos 1) all (omega (arith, ints)));
    }
