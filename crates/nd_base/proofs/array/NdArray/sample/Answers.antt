use Rattle.std.proofs.Common.{◌≡◌, ◌<◌, ◌*◌, ℕ, ℤ, List, length, take, drop, ap, sym, ◌∙◌, arith, rules, refl}
use Rattle.nd_base.specs.declared.array.Dim.{Dim}
use Rattle.nd_base.specs.declared.array.SampleType.{SampleType}
use Rattle.nd_base.specs.Array.{Array}
use Rattle.nd_base.specs.Samples.{width, number, samples_of}
use Rattle.nd_base.specs.SampleLaws.{length-samples_of, slice_get-samples_of, sample_within}
use Rattle.nd_base.specs.Shapes.{sample_count}
use Rattle.nd_base.specs.ShapeLaws.{shape_fault-none}
use Rattle.nd_base.proofs.array.NdArray.sample.Goals as goal

-- a place among the samples is one that the dimensions have
within : (kind : SampleType) (dims : List Dim) (bytes : List ℕ) (samples : List ℤ) (i : ℕ) → samples_of kind bytes ≡ samples
    → length bytes ≡ sample_count dims * width kind → i < length samples → i < sample_count dims
within kind dims bytes samples i is count h =
    let all : length samples ≡ sample_count dims = ap length (sym is) ∙ length-samples_of kind (sample_count dims) bytes count in
    rw (← all) h

pub number_at-requires : goal.number_at-requires
number_at-requires c =
    let fields = c.self.inside in
    let count = (shape_fault-none fields.kind fields.dims (length fields.bytes) c.self.invariant).count in
    let place = within fields.kind fields.dims fields.bytes c.args.self.now.samples c.args.i (ap (λ (a : Array). a.samples) c.self.view_is) count c.requires in
    let end = sample_within c.args.i (sample_count fields.dims) (width fields.kind) place in
    let list : length c.list.result.now ≡ sample_count fields.dims * width fields.kind = rw c.list.ensures count in
    rw (c.width.ensures, list) end

pub overflow_mul-i : goal.overflow_mul-i
overflow_mul-i c = let end = number_at-requires c in omega (arith, end, c.list.type_inv.0)

pub returns : goal.returns
returns c =
    let fields = c.self.inside in
    let count = (shape_fault-none fields.kind fields.dims (length fields.bytes) c.self.invariant).count in
    let place = within fields.kind fields.dims fields.bytes c.args.self.now.samples c.args.i (ap (λ (a : Array). a.samples) c.self.view_is) count c.requires in
    let width_is : c.width.result ≡ width fields.kind = c.width.ensures in
    let number_is : c.number_at.result ≡ number fields.kind (take (width fields.kind) (drop (c.args.i * width fields.kind) fields.bytes)) =
    c.number_at.ensures.value ∙ rw (width_is, c.list.ensures) refl in
    let sample = slice_get-samples_of fields.kind (sample_count fields.dims) c.args.i fields.bytes count place in
    let samples_are : samples_of fields.kind fields.bytes ≡ c.args.self.now.samples = ap (λ (a : Array). a.samples) c.self.view_is in
    rw (← samples_are, sample, ← number_is) (search rules)
