-- A shape that can be written can be so in each form, and with each sample type and dimensions that an array may have.
use Rattle.std.specs.Prelude.{◌≡◌, ◌≤◌, true, List}
use Rattle.nd_base.specs.declared.array.Dim.{Dim}
use Rattle.nd_base.specs.declared.array.SampleType.{SampleType}
use Rattle.nd_base.specs.declared.attribute.FileShape.{FileShape}
use Rattle.nd_base.specs.declared.form.Form.{Form}
use Rattle.nd_base.specs.Shapes.{has_dimensions, sample_count, most_samples}
use Rattle.cdf_write.specs.Writable.{IsWritable}

pub shape_for-IsWritable : (shape : FileShape) (form : Form) (kind : SampleType) (dims : List Dim)
    → IsWritable shape → has_dimensions dims ≡ true → sample_count dims ≤ most_samples
    → IsWritable (record shape { form = form; kind = kind; dims = dims })
shape_for-IsWritable shape form kind dims h dimensions samples = record {
  dimensions = dimensions;
  samples = samples;
  width = h.width;
  attrs = h.attrs;
  names = h.names;
  extras = h.extras;
  each_extra = h.each_extra;
}
