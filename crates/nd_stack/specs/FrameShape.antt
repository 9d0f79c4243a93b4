-- What all frames of a file share.
use Rattle.std.specs.Prelude.{ℕ, ◌==◌, max, not, pos, List, length, map, filter, fold, reverse, drop, slice_index_or, codes, if◌then◌else◌}
use Rattle.std.specs.List.{range_with_len}
use Rattle.std.specs.Ordering.{int_eq}
use Rattle.nd_base.specs.declared.form.Form.TheVariants.{Classic}
use Rattle.nd_base.specs.declared.array.Dim.{Dim}
use Rattle.nd_base.specs.declared.array.SampleType.{SampleType}
use Rattle.nd_base.specs.declared.attribute.AttrColumn.{AttrColumn}
use Rattle.nd_base.specs.declared.attribute.Extra.{Extra}
use Rattle.nd_base.specs.declared.attribute.FileShape.{FileShape}
use Rattle.cdf_read.specs.declared.head.HeadAttr.{HeadAttr}
use Rattle.cdf_read.specs.declared.head.HeadVar.{HeadVar}
use Rattle.cdf_read.specs.declared.head.Header.{Header}
use Rattle.cdf_read.specs.Places.{dim_length}
use Rattle.nd_stack.specs.declared.attributes.AttrVar.{AttrVar}
use Rattle.nd_stack.specs.SampleTypes.{dim_value}
use Rattle.nd_stack.specs.AttrVars.{is_attr_name, attr_kind, attr_vars}

-- the lengths of a variable's other dimensions, the fastest first
abbrev pub sizes_of : Header → HeadVar → List ℕ
sizes_of h v = reverse (map (dim_length h.dims) (drop 1 v.dims))

-- dimension i of so many, with the offset, binning and reverse flag that global attributes give
abbrev pub dim_of : Header → ℕ → ℕ → ℕ → Dim
dim_of h count i size = record {
  size = size;
  offset = dim_value h (codes "dimOffset") count i (pos 0);
  binning = dim_value h (codes "dimBinning") count i (pos 1);
  reverse = not (int_eq (dim_value h (codes "dimReverse") count i (pos 0)) (pos 0));
}

abbrev pub frame_dim : Header → HeadVar → ℕ → Dim
frame_dim h v i = dim_of h (length (sizes_of h v)) i (slice_index_or (sizes_of h v) i 0)

abbrev pub dims_of : Header → HeadVar → List Dim
dims_of h v = map (frame_dim h v) (range_with_len 0 (length (sizes_of h v)))

-- the room of a text: the most bytes that an attribute variable has for one, and 256 where there is none
abbrev pub text_room : List AttrVar → ℕ
text_room vars = fold (λ most a. max most a.column.size) 0 (filter (λ (a : AttrVar). a.kind == 2) vars)

abbrev pub width_of : List AttrVar → ℕ
width_of vars = if text_room vars == 0 then 256 else text_room vars

-- the global attributes that are handed on
abbrev pub extra : HeadAttr → Extra
extra a = record { name = a.name; kind = a.kind; values = a.values }

abbrev pub extras_in : List HeadAttr → List Extra
extras_in attrs = map extra (filter (λ (a : HeadAttr). is_attr_name a.name) attrs)

abbrev pub extras_of : Header → List Extra
extras_of h = extras_in h.gatts

abbrev pub attr_columns : List AttrVar → List AttrColumn
attr_columns vars = map (λ (a : AttrVar). record { name = a.name; kind = attr_kind a.kind }) vars

abbrev pub shape_of : Header → HeadVar → SampleType → FileShape
shape_of h v kind = record {
  form = Classic;
  kind = kind;
  dims = dims_of h v;
  attrs = attr_columns (attr_vars h);
  width = width_of (attr_vars h);
  extras = extras_of h;
}
