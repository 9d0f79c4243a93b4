use Rattle.std.proofs.Common.{◌≡◌, ◌≤◌, length, subst, IsTrue}
use Rattle.nd_base.specs.Array.{Array}
use Rattle.nd_base.specs.SampleLaws.{length-samples_of}
use Rattle.nd_base.specs.Shapes.{has_dimensions, sample_count, most_samples}
use Rattle.nd_base.specs.ShapeLaws.{shape_fault-none}
use Rattle.nd_base.proofs.array.NdArray.dims.Goals as goal

pub returns-clause-dimensions : goal.returns-clause-dimensions
returns-clause-dimensions c =
    let sound = shape_fault-none c.self.inside.kind c.self.inside.dims (length c.self.inside.bytes) c.self.invariant in
    subst (λ (a : Array). IsTrue (has_dimensions a.dims)) c.self.view_is sound.dimensions

pub returns-clause-few : goal.returns-clause-few
returns-clause-few c =
    let sound = shape_fault-none c.self.inside.kind c.self.inside.dims (length c.self.inside.bytes) c.self.invariant in
    subst (λ (a : Array). sample_count a.dims ≤ most_samples) c.self.view_is sound.few

pub returns-clause-count : goal.returns-clause-count
returns-clause-count c =
    let sound = shape_fault-none c.self.inside.kind c.self.inside.dims (length c.self.inside.bytes) c.self.invariant in
    subst (λ (a : Array). length a.samples ≡ sample_count a.dims) c.self.view_is
    (length-samples_of c.self.inside.kind (sample_count c.self.inside.dims) c.self.inside.bytes sound.count)
