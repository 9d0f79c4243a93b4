-- The array of a frame's head and samples is the frame.
use Rattle.std.proofs.Common.{◌≡◌, ◌<◌, ℕ, ℤ, List, length, Some, ap, sym, ◌∙◌, subst, get_or}
use Rattle.std.specs.Prelude.{slice_get, All, IfSome}
use Rattle.std.proofs.lemmas.Option.{slice_get-get_or}
use Rattle.nd_base.specs.declared.array.Dim.{Dim}
use Rattle.nd_base.specs.declared.array.Head.{Head}
use Rattle.nd_base.specs.declared.array.SampleType.{SampleType}
use Rattle.nd_base.specs.declared.attribute.FileShape.{FileShape}
use Rattle.nd_base.specs.Array.{Array}
use Rattle.nd_base.specs.Samples.{samples_of}
use Rattle.nd_base.specs.Shapes.{array_of}
use Rattle.nd_base.specs.Stacks.{head_of, HasShape}

abbrev with_samples : Head → SampleType → List Dim → List ℤ → Array
with_samples head kind dims samples = record {
  id = head.id;
  stamp = head.stamp;
  sec = head.sec;
  nsec = head.nsec;
  kind = kind;
  dims = dims;
  samples = samples;
  attrs = head.attrs;
}

rebuilt : (a : Array) (shape : FileShape) (head : Head) (out : List ℕ) → HasShape shape a → head_of a ≡ head → samples_of shape.kind out ≡ a.samples
    → a ≡ array_of head shape.kind shape.dims out
rebuilt a shape head out has is samples =
    ap (λ kind. with_samples (head_of a) kind a.dims a.samples) has.kind ∙ ap (λ dims. with_samples (head_of a) shape.kind dims a.samples) has.dims
    ∙ ap (λ h. with_samples h shape.kind shape.dims a.samples) is ∙ ap (with_samples head shape.kind shape.dims) (sym samples)

-- frame k of a list of arrays, by its head and its samples
pub frame-rebuilt : (arrays : List Array) (shape : FileShape) (k : ℕ) (head : Head) (out : List ℕ) → k < length arrays → All (HasShape shape) arrays →
    IfSome (slice_get arrays k) (λ a. head_of a ≡ head) → IfSome (slice_get arrays k) (λ a. samples_of shape.kind out ≡ a.samples) →
    slice_get arrays k ≡ Some (array_of head shape.kind shape.dims out)
frame-rebuilt arrays shape k head out within have is samples =
    let a = get_or arrays k (array_of head shape.kind shape.dims out) in
    let found : slice_get arrays k ≡ Some a = slice_get-get_or arrays k (array_of head shape.kind shape.dims out) within in
    found ∙ ap Some (rebuilt a shape head out (have k (array_of head shape.kind shape.dims out) within)
    (subst (λ o. IfSome o (λ a. head_of a ≡ head)) found is)
    (subst (λ o. IfSome o (λ a. samples_of shape.kind out ≡ a.samples)) found samples))
