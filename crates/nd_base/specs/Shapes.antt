-- Which dimensions an array may have, and what `NdArray::new` refuses.
use Rattle.std.specs.Prelude.{ℕ, ◌*◌, ◌==◌, ◌&&◌, nat_lt, nat_le, not, Bool, List, [], ◌∷◌, length, map, Option, None, Some, if◌then◌else◌}
use Rattle.std.specs.List.{list_all}
use Rattle.nd_base.specs.declared.array.Dim.{Dim}
use Rattle.nd_base.specs.declared.array.Head.{Head}
use Rattle.nd_base.specs.declared.array.SampleType.{SampleType}
use Rattle.nd_base.specs.declared.array.ShapeFault.{ShapeFault}
use Rattle.nd_base.specs.declared.array.ShapeFault.TheVariants.{BadShape, TooManySamples}
use Rattle.nd_base.specs.Array.{Array}
use Rattle.nd_base.specs.Samples.{width, samples_of}

-- the most samples that an array may have
abbrev pub most_samples : ℕ
most_samples = 67108864

abbrev pub product : List ℕ → ℕ
product [] = 1
product (n ∷ ns) = n * product ns

-- the number of samples of these dimensions
abbrev pub sample_count : List Dim → ℕ
sample_count dims = product (map (λ d. d.size) dims)

-- 1 to 10 dimensions, none of them empty
abbrev pub has_dimensions : List Dim → Bool
has_dimensions dims = not (length dims == 0) && nat_le (length dims) 10 && list_all (λ d. nat_lt 0 d.size) dims

-- the first of the refusals that holds of this type, these dimensions and so many bytes of samples
abbrev pub shape_fault : SampleType → List Dim → ℕ → Option ShapeFault
shape_fault kind dims bytes =
    if has_dimensions dims
    then (if nat_lt most_samples (sample_count dims) then Some TooManySamples
    else (if bytes == sample_count dims * width kind then None else Some BadShape))
    else Some BadShape

-- the array of these parts
abbrev pub array_of : Head → SampleType → List Dim → List ℕ → Array
array_of head kind dims bytes = record {
  id = head.id;
  stamp = head.stamp;
  sec = head.sec;
  nsec = head.nsec;
  kind = kind;
  dims = dims;
  samples = samples_of kind bytes;
  attrs = head.attrs;
}
