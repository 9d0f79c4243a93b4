-- Dimensions and bytes that make an array.
use Rattle.std.specs.Prelude.{◌≡◌, ℕ, ◌*◌, ◌≤◌, ◌==◌, nat_lt, true, false, List, Some, None, IsTrue, refl}
use Rattle.std.proofs.Common.{sym, ◌∙◌}
use Rattle.std.proofs.lemmas.Bool.{le-ltb, eq-eqb}
use Rattle.nd_base.specs.Samples.{width}
use Rattle.nd_base.specs.Shapes.{shape_fault, has_dimensions, sample_count, most_samples}
use Rattle.nd_base.specs.declared.array.Dim.{Dim}
use Rattle.nd_base.specs.declared.array.SampleType.{SampleType}
use Rattle.nd_base.specs.declared.array.ShapeFault.{ShapeFault}

-- no refusal holds of them
pub no_fault : (kind : SampleType) (dims : List Dim) (bytes : ℕ) (fault : ShapeFault) → IsTrue (has_dimensions dims) → sample_count dims ≤ most_samples
    → bytes ≡ sample_count dims * width kind → shape_fault kind dims bytes ≡ Some fault → ⊥
no_fault kind dims bytes fault dimensions few count refused =
    let shaped : has_dimensions dims ≡ true = dimensions in
    let within : nat_lt most_samples (sample_count dims) ≡ false = le-ltb most_samples (sample_count dims) few in
    let whole : (bytes == sample_count dims * width kind) ≡ true = eq-eqb bytes (sample_count dims * width kind) count in
    let none : shape_fault kind dims bytes ≡ None = rw (shaped, within, whole) refl in
    let clash : None ≡ Some fault = sym none ∙ refused in
    absurd (cc)
