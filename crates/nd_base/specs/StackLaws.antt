-- Laws of stacks: one array for each head, and which bytes and which head frame k has.
use Rattle.std.specs.Prelude.{◌≡◌, ℕ, zero, suc, ◌+◌, ◌*◌, ◌<◌, ◌≤◌, List, [], ◌∷◌, length, take, drop, slice_get, Some, All, IfSome, refl}
use Rattle.std.proofs.Common.{ap, sym, ◌∙◌, arith, get_or}
use Rattle.std.proofs.Math.Nat.{zero-mul, suc-mul}
use Rattle.std.proofs.lemmas.List.{length-take-le, length-drop}
use Rattle.std.proofs.lemmas.List.Elements.{All-nil, All-cons}
use Rattle.nd_base.specs.declared.array.Head.{Head}
use Rattle.nd_base.specs.declared.attribute.FileShape.{FileShape}
use Rattle.nd_base.specs.Array.{Array}
use Rattle.nd_base.specs.Samples.{width, samples_of, bytes_of}
use Rattle.nd_base.specs.SampleLaws.{AreBytes, length-samples_of, bytes_of-samples_of}
use Rattle.nd_base.specs.Shapes.{sample_count, array_of}
use Rattle.nd_base.specs.Stacks.{frame_size, arrays_at, stack_at, FitsFile, HasShape, IsStack}

pub length-arrays_at : (shape : FileShape) (bytes : List ℕ) (place step : ℕ) (heads : List Head)
    → length (arrays_at shape bytes place step heads) ≡ length heads
length-arrays_at shape bytes place step [] = refl
length-arrays_at shape bytes place step (head ∷ heads) = ap suc (length-arrays_at shape bytes (place + step) step heads)

-- the samples of frame k begin k steps later
pub slice_get-arrays_at : (shape : FileShape) (bytes : List ℕ) (place step : ℕ) (heads : List Head) (k : ℕ) (d : Head) → k < length heads →
    slice_get (arrays_at shape bytes place step heads) k
    ≡ Some (array_of (get_or heads k d) shape.kind shape.dims (take (frame_size shape) (drop (place + k * step) bytes)))
slice_get-arrays_at shape bytes place step [] k d h = absurd (omega arith)
slice_get-arrays_at shape bytes place step (head ∷ heads) zero d h =
    ap (λ p. Some (array_of head shape.kind shape.dims (take (frame_size shape) (drop p bytes)))) (omega (arith, zero-mul step))
slice_get-arrays_at shape bytes place step (head ∷ heads) (suc k) d h =
    slice_get-arrays_at shape bytes (place + step) step heads k d (omega arith)
    ∙ ap (λ p. Some (array_of (get_or heads k d) shape.kind shape.dims (take (frame_size shape) (drop p bytes)))) (omega (arith, suc-mul k step))

-- each frame has the shape, where its bytes lie within the file
frames_have-shape : (shape : FileShape) (bytes : List ℕ) (place step : ℕ) (heads : List Head)
    → ((k : ℕ) → k < length heads → place + k * step + frame_size shape ≤ length bytes) → All (HasShape shape) (arrays_at shape bytes place step heads)
frames_have-shape shape bytes place step [] inside = All-nil (HasShape shape)
frames_have-shape shape bytes place step (head ∷ heads) inside =
    let here : place + frame_size shape ≤ length bytes = omega (arith, inside 0 (omega arith), zero-mul step) in
    let size : length (take (frame_size shape) (drop place bytes)) ≡ frame_size shape =
    length-take-le (frame_size shape) (drop place bytes) (omega (arith, length-drop place bytes)) in
    All-cons (HasShape shape) (array_of head shape.kind shape.dims (take (frame_size shape) (drop place bytes)))
    (arrays_at shape bytes (place + step) step heads)
    (record { kind = refl; dims = refl; count = length-samples_of shape.kind (sample_count shape.dims) (take (frame_size shape) (drop place bytes)) size })
    (frames_have-shape shape bytes (place + step) step heads (λ k within. omega (arith, inside (suc k) (omega arith), suc-mul k step)))

-- what fits a file is sound
pub stack_at-IsStack : (shape : FileShape) (heads : List Head) (bytes : List ℕ) (first step : ℕ) → FitsFile shape heads bytes first step
    → IsStack (stack_at shape heads bytes first step)
stack_at-IsStack shape heads bytes first step fits = record {
  dimensions = fits.dimensions;
  few_samples = fits.few_samples;
  few_frames = rw (length-arrays_at shape bytes first step heads) fits.few_frames;
  frames = frames_have-shape shape bytes first step heads fits.inside;
}

some_head : (heads : List Head) (k : ℕ) → k < length heads → Head
some_head [] k within = absurd (omega arith)
some_head (head ∷ heads) k within = head

-- what holds of the array with head k and the bytes of frame k holds of frame k
pub at_frame : (P : Array → Type 0) (shape : FileShape) (heads : List Head) (bytes : List ℕ) (first step k : ℕ) → k < length heads →
    ((head : Head) → P (array_of head shape.kind shape.dims (take (frame_size shape) (drop (first + k * step) bytes)))) →
    IfSome (slice_get (stack_at shape heads bytes first step).arrays k) P
at_frame P shape heads bytes first step k within holds =
    let d = some_head heads k within in
    rw (slice_get-arrays_at shape bytes first step heads k d within) (holds (get_or heads k d))

-- the bytes of frame k hold its samples, and are those of its samples
pub frame_bytes-samples : (shape : FileShape) (heads : List Head) (bytes : List ℕ) (first step k : ℕ) (out : List ℕ) → k < length heads →
    out ≡ take (frame_size shape) (drop (first + k * step) bytes) →
    IfSome (slice_get (stack_at shape heads bytes first step).arrays k) (λ a. samples_of shape.kind out ≡ a.samples)
frame_bytes-samples shape heads bytes first step k out within is =
    at_frame (λ a. samples_of shape.kind out ≡ a.samples) shape heads bytes first step k within (λ head. ap (samples_of shape.kind) is)

pub frame_samples-bytes : (shape : FileShape) (heads : List Head) (bytes : List ℕ) (first step k : ℕ) (out : List ℕ)
    → FitsFile shape heads bytes first step → k < length heads →
    out ≡ take (frame_size shape) (drop (first + k * step) bytes) → AreBytes out →
    IfSome (slice_get (stack_at shape heads bytes first step).arrays k) (λ a. out ≡ bytes_of shape.kind a.samples)
frame_samples-bytes shape heads bytes first step k out fits within is are =
    let inside = fits.inside k within in
    let size : length out ≡ sample_count shape.dims * width shape.kind = ap length is
    ∙ length-take-le (frame_size shape) (drop (first + k * step) bytes) (omega (arith, length-drop (first + k * step) bytes)) in
    at_frame (λ a. out ≡ bytes_of shape.kind a.samples) shape heads bytes first step k within
    (λ head. sym (bytes_of-samples_of shape.kind (sample_count shape.dims) out size are) ∙ ap (λ b. bytes_of shape.kind (samples_of shape.kind b)) is)
