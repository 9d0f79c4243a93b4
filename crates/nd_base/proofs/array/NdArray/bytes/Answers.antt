use Rattle.std.proofs.Common.{length, ap, ◌∙◌}
use Rattle.nd_base.specs.SampleLaws.{length-samples_of}
use Rattle.nd_base.specs.Shapes.{sample_count}
use Rattle.nd_base.specs.ShapeLaws.{shape_fault-none}
use Rattle.nd_base.proofs.array.NdArray.bytes.Goals as goal

pub returns-clause-count : goal.returns-clause-count
returns-clause-count c =
    let sound = shape_fault-none _ _ _ c.self.invariant in
    rw (← c.self.view_is, length-samples_of c.self.inside.kind (sample_count c.self.inside.dims) c.self.inside.bytes sound.count) (ap length c.list.ensures
    ∙ sound.count)
