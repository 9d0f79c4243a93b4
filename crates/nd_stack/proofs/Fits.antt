-- The frames, the per-frame variables and the attributes lie within the file.
use Rattle.std.proofs.Common.{◌≡◌, ◌<◌, ◌*◌, ℕ, List, length, drop, ap, sym, ◌∙◌}
use Rattle.std.specs.Prelude.{All, codes}
use Rattle.std.specs.Str.{bytes_eq}
use Rattle.std.proofs.lemmas.Bool.{leb-true}
use Rattle.std.proofs.lemmas.List.FromFn.{length-map-range_with_len}
use Rattle.nd_base.specs.declared.array.SampleType.{SampleType}
use Rattle.nd_base.specs.Samples.{width}
use Rattle.nd_base.specs.Shapes.{most_samples}
use Rattle.nd_base.specs.Stacks.{FitsFile, frame_size}
use Rattle.cdf_read.specs.declared.head.HeadVar.{HeadVar}
use Rattle.cdf_read.specs.declared.head.Header.{Header}
use Rattle.cdf_read.specs.Places.{dim_length, value_size}
use Rattle.nd_stack.specs.Columns.{frame_count, frame_values, column_of}
use Rattle.nd_stack.specs.FrameShape.{shape_of}
use Rattle.nd_stack.specs.StackRules.{heads_of}
use Rattle.nd_stack.specs.Sound.{IsSoundHeader, IsSoundVar}
use Rattle.nd_stack.specs.SoundLaws.{column_of-LiesWithin}
use Rattle.nd_stack.proofs.Accepted.{IsAccepted, sample_type-stored, stored_as-size}
use Rattle.nd_stack.proofs.Numbers.{All-find}
use Rattle.nd_stack.proofs.Dimensions.{sample_count-dims_of, dims_of-has_dimensions}

-- the frames' variable is sound
pub array_data-IsSoundVar : (total : ℕ) (h : Header) (v : HeadVar) (kind : SampleType) → IsSoundHeader total h → IsAccepted h v kind → IsSoundVar total h v
array_data-IsSoundVar total h v kind sound accepted =
    All-find (IsSoundVar total h) (λ w. bytes_eq w.name (codes "array_data")) h.vars v sound.vars accepted.found

-- a frame's samples are the bytes of its values
pub frame_size-is : (h : Header) (v : HeadVar) (kind : SampleType) → IsAccepted h v kind → All (λ n. 0 < dim_length h.dims n) (drop 1 v.dims)
    → frame_size (shape_of h v kind) ≡ (column_of h v).size
frame_size-is h v kind accepted fixed =
    let size : value_size v.kind ≡ width kind = ap value_size (sym (sample_type-stored h v.kind kind accepted.typed)) ∙ stored_as-size kind in
    ap (λ n. n * width kind) (sample_count-dims_of h v fixed) ∙ ap (λ n. frame_values h v * n) (sym size)

-- the stack of accepted frames lies within the file
pub accepted-FitsFile : (bytes : List ℕ) (h : Header) (v : HeadVar) (kind : SampleType) → IsSoundHeader (length bytes) h → IsAccepted h v kind →
    FitsFile (shape_of h v kind) (heads_of bytes h (frame_count h v)) bytes (column_of h v).first (column_of h v).step
accepted-FitsFile bytes h v kind sound accepted =
    let var = array_data-IsSoundVar (length bytes) h v kind sound accepted in
    let frames : length (heads_of bytes h (frame_count h v)) ≡ frame_count h v = length-map-range_with_len _ 0 (frame_count h v) in
    let size = frame_size-is h v kind accepted var.fixed in
    record {
      dimensions = dims_of-has_dimensions h v (leb-true 2 (length v.dims) accepted.least) (leb-true (length v.dims) 11 accepted.most) var.fixed;
      few_samples = rw (sample_count-dims_of h v var.fixed) (leb-true (frame_values h v) most_samples accepted.samples);
      few_frames = rw frames (leb-true (frame_count h v) 65536 accepted.frames);
      inside = λ k within. rw size (column_of-LiesWithin h v (length bytes) var.end k (rw (← frames) within));
    }
