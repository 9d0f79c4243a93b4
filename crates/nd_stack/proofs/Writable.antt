-- The shape of a stack that was read is one that the layout can spell.
use Rattle.std.proofs.Common.{◌≡◌, ◌≤◌, ◌<◌, ◌*◌, ℕ, Bool, true, false, List, [], length, drop, get_or, Result, Ok, Err, refl, ap, ◌∙◌, subst, arith}
use Rattle.std.specs.Prelude.{◌==◌, ◌%◌, ◌/◌, not, nat_lt, filter, All, if◌then◌else◌}
use Rattle.std.proofs.Math.Nat.{mul-div_cancel, mul-mod_left}
use Rattle.std.proofs.lemmas.Bool.{and_parts, ltb-true, leb-true}
use Rattle.std.proofs.lemmas.Bool.Decides.{nat_tests}
use Rattle.std.proofs.lemmas.List.{length-map, length-drop}
use Rattle.std.proofs.lemmas.List.Elements.{All-map, All-filter, filter_passes}
use Rattle.std.proofs.lemmas.List.Filters.{length-filter_both}
use Rattle.nd_base.specs.declared.array.SampleType.{SampleType}
use Rattle.nd_base.specs.declared.attribute.AttrColumn.{AttrColumn}
use Rattle.nd_base.specs.declared.attribute.Extra.{Extra}
use Rattle.nd_base.specs.declared.attribute.FileShape.{FileShape}
use Rattle.nd_base.specs.Array.{StackValue}
use Rattle.nd_base.specs.GraphRules.{IsBetween}
use Rattle.nd_base.specs.Shapes.{most_samples}
use Rattle.cdf_read.specs.declared.fault.CdfFault.{CdfFault}
use Rattle.cdf_read.specs.declared.head.HeadAttr.{HeadAttr}
use Rattle.cdf_read.specs.declared.head.HeadVar.{HeadVar}
use Rattle.cdf_read.specs.declared.head.Header.{Header}
use Rattle.cdf_read.specs.Places.{value_size}
use Rattle.cdf_read.specs.Grammar.{IsAttr, IsVar, Reads}
use Rattle.cdf_read.specs.HeaderReading.{header_of}
use Rattle.cdf_read.specs.HeaderLaws.{header_of-found}
use Rattle.cdf_write.specs.Writable.{IsExtra, IsWritable}
use Rattle.nd_stack.proofs.Sizes.{value_size-positive}
use Rattle.nd_stack.specs.declared.fault.StackFault.{StackFault}
use Rattle.nd_stack.specs.declared.attributes.AttrVar.{AttrVar}
use Rattle.nd_stack.specs.Answers.{or_cdf}
use Rattle.nd_stack.specs.Columns.{frame_count, frame_values}
use Rattle.nd_stack.specs.AttrVars.{is_attr_name, is_attr_var, attr_kind, attr_var, attr_vars}
use Rattle.nd_stack.specs.FrameShape.{text_room, width_of, extras_of, shape_of}
use Rattle.nd_stack.specs.Sound.{IsSoundVar}
use Rattle.nd_stack.specs.SoundLaws.{AreMany-All, Reads-IsSoundHeader}
use Rattle.nd_stack.specs.StackRules.{frames_of, stack_of}
use Rattle.nd_stack.proofs.Numbers.{All-find}
use Rattle.nd_stack.proofs.Accepted.{bind-Ok, IsAccepted, frames_of-IsAccepted}
use Rattle.nd_stack.proofs.Dimensions.{sample_count-dims_of, dims_of-has_dimensions}
use Rattle.nd_stack.proofs.Widths.{width_of-most}

-- EXTRAS

-- a global attribute as it was read
record IsWhole (a : HeadAttr) : Type 0 where
  name : IsBetween 1 1024 (length a.name)
  kind : IsBetween 1 6 a.kind
  count : a.count ≤ 2147483647
  size : length a.values ≡ a.count * value_size a.kind

attr-IsWhole : (a : HeadAttr) (before after : List ℕ) → IsAttr a before after → IsWhole a
attr-IsWhole a before after h = record { name = (h.name.least, h.name.most); kind = (h.kind.least, h.kind.most); count = h.count.positive; size = h.size }

whole-IsExtra : (a : HeadAttr) → IsWhole a → IsExtra (record { name = a.name; kind = a.kind; values = a.values })
whole-IsExtra a h =
    let count : length a.values / value_size a.kind ≡ a.count =
    ap (λ n. n / value_size a.kind) h.size ∙ mul-div_cancel a.count (value_size-positive a.kind) in
    record {
      name = h.name;
      kind = h.kind;
      whole = ap (λ n. n % value_size a.kind) h.size ∙ mul-mod_left a.count (value_size a.kind);
      few = omega (arith, count, h.count);
    }

extras-IsExtra : (h : Header) → All IsWhole h.gatts → All IsExtra (extras_of h)
extras-IsExtra h all =
    let named = λ (a : HeadAttr). is_attr_name a.name in
    let kept = All-filter named IsWhole h.gatts all in
    All-map IsExtra (λ (a : HeadAttr). record { name = a.name; kind = a.kind; values = a.values }) (filter named h.gatts)
    (λ i d inside. whole-IsExtra (get_or (filter named h.gatts) i d) (kept i d inside))

length-extras_of : (h : Header) → length (extras_of h) ≤ length h.gatts
length-extras_of h =
    let named = λ (a : HeadAttr). is_attr_name a.name in
    let count = length-map {B = Extra} (filter named h.gatts) (λ (a : HeadAttr). record { name = a.name; kind = a.kind; values = a.values }) in
    omega (arith, count, length-filter_both named (λ a. not (named a)) (λ _. refl) h.gatts)

-- ATTRIBUTES

attr_length : (v : HeadVar) → is_attr_var v ≡ true → length v.name ≤ 1024 → IsBetween 1 1019 (length (drop 5 v.name))
attr_length v is most =
    let longer : 5 < length v.name = ltb-true 5 (length v.name) (and_parts (is_attr_name v.name) (nat_lt 5 (length v.name)) is).1 in
    (omega (arith, longer, length-drop 5 v.name), omega (arith, most, length-drop 5 v.name))

attr_vars-named : (h : Header) → All (λ v. length v.name ≤ 1024) h.vars → All (λ (a : AttrVar). IsBetween 1 1019 (length a.name)) (attr_vars h)
attr_vars-named h all =
    let kept = All-filter is_attr_var (λ v. length v.name ≤ 1024) h.vars all in
    let are = filter_passes is_attr_var h.vars in
    All-map (λ (a : AttrVar). IsBetween 1 1019 (length a.name)) (attr_var h) (filter is_attr_var h.vars)
    (λ i d inside. attr_length (get_or (filter is_attr_var h.vars) i d) (are i d inside) (kept i d inside))

length-attr_vars : (h : Header) → length (attr_vars h) ≤ length h.vars
length-attr_vars h =
    omega (arith, length-map (filter is_attr_var h.vars) (attr_var h), length-filter_both is_attr_var (λ v. not (is_attr_var v)) (λ _. refl) h.vars)

-- THE ROOM OF A TEXT

width_by : (b : Bool) (n : ℕ) → (n == 0) ≡ b → 1 ≤ (if b then 256 else n)
width_by true n e = omega arith
width_by false n e = grind (arith, nat_tests, e)

width_of-positive : (vars : List AttrVar) → 1 ≤ width_of vars
width_of-positive vars = width_by (text_room vars == 0) (text_room vars) refl

-- THE SHAPE

accepted-IsWritable : (bytes : List ℕ) (h : Header) (v : HeadVar) (kind : SampleType) → Reads bytes h → IsAccepted h v kind → IsWritable (shape_of h v kind)
accepted-IsWritable bytes h v kind reads accepted =
    let sound = Reads-IsSoundHeader bytes h reads in
    let this : IsSoundVar (length bytes) h v = All-find (IsSoundVar (length bytes) h) _ h.vars v sound.vars accepted.found in
    let named =
    AreMany-All (λ (earlier : List HeadVar). IsVar reads.form h.dims)
    (λ x. length x.name ≤ 1024) (λ earlier x before after is. is.name.most) [] h.vars reads.header.vars.0 reads.after reads.header.vars.2 in
    let whole =
    AreMany-All (λ (earlier : List HeadAttr). IsAttr) IsWhole (λ earlier x before after is. attr-IsWhole x before after is)
    [] h.gatts reads.header.gatts.0 reads.header.at_vars reads.header.gatts.2 in
    let few = reads.header.gatts.1.number.positive in
    let least = leb-true 2 (length v.dims) accepted.least in
    let most = leb-true (length v.dims) 11 accepted.most in
    let count = leb-true (frame_values h v) most_samples accepted.samples in
    record {
      dimensions = dims_of-has_dimensions h v least most this.fixed;
      samples = omega (arith, count, sample_count-dims_of h v this.fixed);
      width = (width_of-positive (attr_vars h), width_of-most (length bytes) h (frame_count h v) sound accepted.attrs);
      attrs =
          omega (
            arith,
            sound.few,
            length-attr_vars h,
            length-map {B = AttrColumn} (attr_vars h) (λ (a : AttrVar). record { name = a.name; kind = attr_kind a.kind }),
          );
      names =
          All-map (λ (a : AttrColumn). IsBetween 1 1019 (length a.name)) (λ (a : AttrVar). record { name = a.name; kind = attr_kind a.kind })
          (attr_vars h) (attr_vars-named h named);
      extras = omega (arith, few, length-extras_of h);
      each_extra = extras-IsExtra h whole;
    }

pub header_read : (read : Result Header CdfFault) (h : Header) → or_cdf read ≡ Ok h → read ≡ Ok h
header_read (Ok x) h e = let same : x ≡ h = cc in ap Ok same
header_read (Err fault) h e = absurd (cc)

shape_or : FileShape → Result StackValue StackFault → FileShape
shape_or other (Ok s) = s.shape
shape_or other (Err fault) = other

-- a stack that was read has a shape that the layout can spell
pub stack_of-IsWritable : (bytes : List ℕ) (s : StackValue) → stack_of bytes ≡ Ok s → IsWritable s.shape
unfolding stack_of shape_or
stack_of-IsWritable bytes s e =
    let a = bind-Ok (or_cdf (header_of bytes)) _ s e in
    let b = bind-Ok (frames_of a.0) _ s a.2 in
    let reads = header_of-found bytes a.0 (header_read (header_of bytes) a.0 a.1) in
    let same : shape_of a.0 b.0.0 b.0.1 ≡ s.shape = ap (shape_or s.shape) b.2 in
    subst IsWritable same (accepted-IsWritable bytes a.0 b.0.0 b.0.1 reads (frames_of-IsAccepted a.0 b.0.0 b.0.1 b.1))
