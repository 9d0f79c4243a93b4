use Rattle.std.proofs.Common.{◌≡◌, ◌*◌, ◌≤◌, ℕ, List, length, Some, None, refl, ap, sym, ◌∙◌}
use Rattle.std.specs.Prelude.{◌==◌, nat_lt, true, false}
use Rattle.std.proofs.lemmas.Bool.{le-ltb, eq-eqb}
use Rattle.nd_base.specs.declared.array.Dim.{Dim}
use Rattle.nd_base.specs.declared.array.SampleType.{SampleType}
use Rattle.nd_base.specs.Samples.{width}
use Rattle.nd_base.specs.Shapes.{has_dimensions, sample_count, most_samples, shape_fault}
use Rattle.nd_orient.specs.Orientation.{oriented_dims}
use Rattle.nd_orient.specs.ShapeLaws.{oriented_dims-count, oriented_dims-has_dimensions}
use Rattle.nd_orient.proofs.arrays.orient.Goals as goal

-- what has an array's dimensions and its bytes isn't refused
accepted : (kind : SampleType) (dims : List Dim) (bytes : ℕ) → has_dimensions dims ≡ true → sample_count dims ≤ most_samples
    → bytes ≡ sample_count dims * width kind → shape_fault kind dims bytes ≡ None
accepted kind dims bytes shaped few count =
    let within : nat_lt most_samples (sample_count dims) ≡ false = le-ltb most_samples (sample_count dims) few in
    let whole : (bytes == sample_count dims * width kind) ≡ true = eq-eqb bytes (sample_count dims * width kind) count in
    rw (shaped, within, whole) refl

pub unreachable-requires : goal.unreachable-requires
unreachable-requires c =
    let mode = c.args.mode in
    let whole = c.args.array.now.dims in
    let kind = c.kind.result in
    let out = c.in_ok-dims.dims.items in
    let dims : out ≡ oriented_dims mode whole = c.in_ok-dims.ensures ∙ ap (oriented_dims mode) c.dims-2.ensures.value in
    let count : sample_count out ≡ sample_count whole = ap sample_count dims ∙ oriented_dims-count mode whole in
    let size = c.in_ok-bytes.ensures.size ∙ ap (λ n. n * width c.args.array.now.kind) (sym count) ∙ ap (λ k. sample_count out * width k) (sym c.kind.ensures) in
    let none = accepted kind out (length c.in_ok-bytes.bytes.items)
    (ap has_dimensions dims ∙ oriented_dims-has_dimensions mode whole ∙ c.dims.ensures.dimensions)
    (rw count c.dims.ensures.few) size in
    let clash : None ≡ Some c.in_default.field-0 = sym none ∙ c.in_default.ensures.refused in
    absurd (cc)
