-- A frame that has all that the round trip asks for, and its file of either form read back.
use Rattle.std.specs.Prelude.{◌≢◌, ◌≤◌, pos, false, [], ◌∷◌, length, codes, FitsSigned, All, refl}
use Rattle.std.specs.Int.{w32}
use Rattle.std.specs.Str.{IsUtf8}
use Rattle.std.proofs.Common.{arith}
use Rattle.std.proofs.lemmas.Int.{ints}
use Rattle.std.proofs.lemmas.List.Elements.{All-nil, All-cons}
use Rattle.nd_base.specs.declared.form.Form.{Form}
use Rattle.nd_base.specs.declared.form.Form.TheVariants.{Classic, Wide}
use Rattle.nd_base.specs.declared.array.Dim.{Dim}
use Rattle.nd_base.specs.declared.array.SampleType.TheVariants.{UInt8}
use Rattle.nd_base.specs.declared.attribute.Attr.{Attr}
use Rattle.nd_base.specs.declared.attribute.AttrColumn.{AttrColumn}
use Rattle.nd_base.specs.declared.attribute.AttrKind.TheVariants.{TextKind}
use Rattle.nd_base.specs.declared.attribute.AttrValue.TheVariants.{Text}
use Rattle.nd_base.specs.declared.attribute.Extra.{Extra}
use Rattle.nd_base.specs.declared.attribute.FileShape.{FileShape}
use Rattle.nd_base.specs.Array.{Array}
use Rattle.nd_base.specs.Forms.{longest_of}
use Rattle.nd_base.specs.GraphRules.{IsBetween}
use Rattle.nd_base.specs.SampleLaws.{IsSample}
use Rattle.cdf_write.specs.Layout.{header_length}
use Rattle.cdf_write.specs.Lengths.{row_length, length_of}
use Rattle.cdf_write.specs.Writable.{IsExtra, IsWritable, FitsIn, HasShape}
use Rattle.nd_stack.specs.Groups.{HasTextNames, IsGroup}
use Rattle.nd_stack.specs.DimLaws.{ascii-IsUtf8}
use Rattle.nd_stack.specs.LayoutShape.{HasSmallDims}
use Rattle.nd_stack.specs.LayoutHeads.{IsKeptValue}
use Rattle.nd_stack.specs.RoundTrip.{IsKept, ReadsBack, layout_reads_back}

dim : Dim
dim = record { size = 2; offset = pos 0; binning = pos 1; reverse = false }

colour : AttrColumn
colour = record { name = codes "Colour"; kind = TextKind }

shape : Form → FileShape
unfolding dim colour
shape form = record { form = form; kind = UInt8; dims = dim ∷ []; attrs = colour ∷ []; width = 8; extras = [] }

red : Attr
red = record { name = codes "Colour"; value = Text (codes "red") }

frame : Array
unfolding dim red
frame = record { id = pos 1; stamp = 0; sec = pos 0; nsec = pos 0; kind = UInt8; dims = dim ∷ []; samples = pos 7 ∷ pos 255 ∷ []; attrs = red ∷ [] }

writable : (form : Form) → IsWritable (shape form)
unfolding shape dim colour
writable form = record {
  dimensions = refl;
  samples = omega arith;
  width = (omega arith, omega arith);
  attrs = omega arith;
  names = All-cons (λ a. IsBetween 1 1019 (length a.name)) colour [] (omega arith, omega arith) (All-nil (λ a. IsBetween 1 1019 (length a.name)));
  extras = omega arith;
  each_extra = All-nil IsExtra;
}

names : (form : Form) → HasTextNames (shape form)
unfolding shape dim colour
names form = record {
  attrs = All-cons (λ a. IsUtf8 a.name) colour [] (ascii-IsUtf8 (codes "Colour") refl) (All-nil (λ a. IsUtf8 a.name));
  extras = All-nil (λ (e : Extra). IsUtf8 e.name);
}

frame_has : (form : Form) → HasShape (shape form) frame
unfolding shape frame dim colour red
frame_has form = record {
  kind = refl;
  dims = refl;
  count = refl;
  attrs = record { same = refl; texts = All-cons (λ t. FitsIn 8 t.value) red [] (omega arith) (All-nil (λ t. FitsIn 8 t.value)) };
}

small : (form : Form) → length_of (shape form) 1 ≤ longest_of form
unfolding shape dim colour header_length row_length
small Classic = omega arith
small Wide = omega arith

group : (form : Form) → IsGroup (shape form) (frame ∷ [])
unfolding shape
group form = record {
  writable = writable form;
  names = names form;
  some = omega arith;
  each = All-cons (HasShape (shape form)) frame [] (frame_has form) (All-nil (HasShape (shape form)));
  within = small form;
}

dims : (form : Form) → HasSmallDims (shape form)
unfolding shape dim
dims form = record {
  offsets = All-cons (λ (d : Dim). FitsSigned w32 d.offset) dim [] (omega (arith, ints)) (All-nil (λ (d : Dim). FitsSigned w32 d.offset));
  binnings = All-cons (λ (d : Dim). FitsSigned w32 d.binning) dim [] (omega (arith, ints)) (All-nil (λ (d : Dim). FitsSigned w32 d.binning));
}

no_zero : All (λ b. b ≢ 0) (codes "red")
no_zero =
    All-cons (λ b. b ≢ 0) 114 (101 ∷ 100 ∷ []) (omega arith)
    (All-cons (λ b. b ≢ 0) 101 (100 ∷ []) (omega arith) (All-cons (λ b. b ≢ 0) 100 [] (omega arith) (All-nil (λ b. b ≢ 0))))

kept : IsKept frame
unfolding frame dim red
kept = record {
  id = omega (arith, ints);
  stamp = omega arith;
  sec = omega (arith, ints);
  nsec = omega (arith, ints);
  samples =
      All-cons (IsSample UInt8) (pos 7)
      (pos 255 ∷ []) (omega (arith, ints)) (All-cons (IsSample UInt8) (pos 255) [] (omega (arith, ints)) (All-nil (IsSample UInt8)));
  attrs = All-cons (λ t. IsKeptValue t.value) red [] no_zero (All-nil (λ t. IsKeptValue t.value));
}

it_reads_back : (form : Form) → ReadsBack (shape form) (frame ∷ [])
it_reads_back form =
    layout_reads_back (shape form) (frame ∷ [])
    (record { group = group form; dims = dims form; each = All-cons IsKept frame [] kept (All-nil IsKept); few = omega arith })
