-- Frames over the bytes of the generator's samples are the generated ones.
use Rattle.std.proofs.Common.{◌≡◌, ◌<◌, ◌+◌, ◌-◌, ◌*◌, ℕ, zero, suc, List, [], ◌++◌, length, map, take, drop, get_or, refl, ap, sym, ◌∙◌, arith}
use Rattle.std.specs.Prelude.{ℤ}
use Rattle.std.specs.List.{range_with_len}
use Rattle.std.proofs.Math.Nat.{mul_assoc}
use Rattle.std.proofs.lemmas.List.{flat_map_more}
use Rattle.std.proofs.lemmas.List.FromFn.{length-map-range_with_len, get_or-map-range_with_len, map-range_with_len_more}
use Rattle.nd_base.specs.declared.array.Head.{Head}
use Rattle.nd_base.specs.declared.array.SampleType.{SampleType}
use Rattle.nd_base.specs.declared.attribute.FileShape.{FileShape}
use Rattle.nd_base.specs.Array.{Array}
use Rattle.nd_base.specs.Samples.{width, samples_of, sample_bytes, bytes_of}
use Rattle.nd_base.specs.SampleLaws.{sample_within, length-bytes_of, samples_of-bytes_of}
use Rattle.nd_base.specs.Shapes.{array_of}
use Rattle.nd_base.specs.Stacks.{frame_size, arrays_at, stack_at, FitsFile}
use Rattle.nd_stack.specs.Generated.{next_number, number_after, sample, frame_samples, frame_head, whole_dims, generated_array, generated_shape}
use Rattle.nd_stack.specs.Generated.{generated, generated_stack}
use Rattle.nd_stack.specs.GeneratedLaws.{IsAllowed, area, area_few, samples-IsSample, bytes-part, generated-has_dimensions}
use Rattle.nd_stack.specs.RoundTrip.{arrays_by}

-- the bytes of all samples
abbrev pub all_bytes : SampleType → ℕ → ℕ → List ℕ
all_bytes kind start count = bytes_of kind (map (sample kind start) (range_with_len 0 count))

pub length-all_bytes : (kind : SampleType) (start count : ℕ) → length (all_bytes kind start count) ≡ count * width kind
length-all_bytes kind start count =
    length-bytes_of kind (map (sample kind start) (range_with_len 0 count))
    ∙ ap (λ n. n * width kind) (length-map-range_with_len (sample kind start) 0 count)

size_is : (w h : ℕ) (kind : SampleType) → frame_size (generated_shape w h kind) ≡ w * h * width kind
size_is w h kind = ap (λ m. m * width kind) (area w h)

-- each frame lies within these bytes
pub generated-FitsFile : (n w h : ℕ) (kind : SampleType) (start : ℕ) → IsAllowed n w h kind →
    FitsFile (generated_shape w h kind) (map frame_head (range_with_len 0 n)) (all_bytes kind start (n * (w * h))) 0 (w * h * width kind)
generated-FitsFile n w h kind start allowed =
    let count : length (map frame_head (range_with_len 0 n)) ≡ n = length-map-range_with_len frame_head 0 n in
    let size : length (all_bytes kind start (n * (w * h))) ≡ n * (w * h * width kind) =
    length-all_bytes kind start (n * (w * h)) ∙ mul_assoc n (w * h) (width kind) in
    record {
      dimensions = generated-has_dimensions w h allowed.some_wide allowed.some_high;
      few_samples = omega (arith, area w h, area_few w h allowed.wide allowed.high);
      few_frames = omega (arith, count, allowed.frames);
      inside = λ k within.
          omega (arith, size, size_is w h kind, sample_within k n (w * h * width kind) (omega (arith, within, count)));
    }

-- the bytes of frame k hold its samples
frame-samples : (n w h : ℕ) (kind : SampleType) (start k : ℕ) → k < n →
    samples_of kind (take (frame_size (generated_shape w h kind)) (drop (0 + k * (w * h * width kind)) (all_bytes kind start (n * (w * h)))))
    ≡ frame_samples kind start (w * h) k
frame-samples n w h kind start k within =
    let count : ℕ = w * h in
    let rest : ℕ = n * count - (k * count + count) in
    let all : n * count ≡ k * count + (count + rest) = omega (arith, sample_within k n count within) in
    let place : 0 + k * (count * width kind) ≡ k * count * width kind = omega (arith, mul_assoc k count (width kind)) in
    let part : take (frame_size (generated_shape w h kind)) (drop (0 + k * (count * width kind)) (all_bytes kind start (n * count)))
    ≡ bytes_of kind (frame_samples kind start count k) =
    ap (λ size. take size (drop (0 + k * (count * width kind)) (all_bytes kind start (n * count)))) (size_is w h kind)
    ∙ ap (λ p. take (count * width kind) (drop p (all_bytes kind start (n * count)))) place
    ∙ ap (λ m. take (count * width kind) (drop (k * count * width kind) (all_bytes kind start m))) all
    ∙ bytes-part kind (sample kind start) (k * count) count rest in
    ap (samples_of kind) part
    ∙ samples_of-bytes_of kind (frame_samples kind start count k) (samples-IsSample kind start (range_with_len (k * count) count))

with_samples : (w h : ℕ) → SampleType → ℕ → List ℤ → Array
with_samples w h kind k samples = record (generated_array w h kind 0 k) { samples = samples }

pub generated-stack : (n w h : ℕ) (kind : SampleType) (start : ℕ) →
    stack_at (generated_shape w h kind) (map frame_head (range_with_len 0 n)) (all_bytes kind start (n * (w * h))) 0 (w * h * width kind)
    ≡ generated_stack n w h kind start
unfolding with_samples
generated-stack n w h kind start =
    let shape = generated_shape w h kind in
    let bytes = all_bytes kind start (n * (w * h)) in
    let step : ℕ = w * h * width kind in
    let arrays = generated n w h kind start in
    let count : length arrays ≡ n = length-map-range_with_len (generated_array w h kind start) 0 n in
    let each : (k : ℕ) (d : Array) → k < length arrays
    → array_of (frame_head k) kind (whole_dims w h) (take (frame_size shape) (drop (0 + k * step) bytes)) ≡ get_or arrays k d =
    λ k d inside.
    let within : k < n = omega (arith, inside, count) in
    ap (with_samples w h kind k) (frame-samples n w h kind start k within)
    ∙ sym (get_or-map-range_with_len (generated_array w h kind start) 0 n k k d within (omega arith)) in
    ap (λ list. record { shape = shape; arrays = list })
    (ap (λ m. arrays_at shape bytes 0 step (map frame_head (range_with_len 0 m))) (sym count) ∙ arrays_by shape bytes 0 step frame_head arrays each)

pub made-stack : (n w h : ℕ) (kind : SampleType) (start : ℕ) (shape : FileShape) (heads : List Head) (bytes : List ℕ) (step : ℕ) →
    shape ≡ generated_shape w h kind → heads ≡ map frame_head (range_with_len 0 n) → bytes ≡ all_bytes kind start (n * (w * h)) → step ≡ w * h * width kind →
    stack_at shape heads bytes 0 step ≡ generated_stack n w h kind start
made-stack n w h kind start shape heads bytes step one two three four = rw (one, two, three, four) (generated-stack n w h kind start)

-- a step more
after_suc : (x j : ℕ) → number_after x (suc j) ≡ next_number (number_after x j)
after_suc x zero = refl
after_suc x (suc j) = after_suc (next_number x) j

pub number_after-more : (x j : ℕ) → number_after x (j + 1) ≡ next_number (number_after x j)
number_after-more x j = let more : j + 1 ≡ suc j = omega arith in ap (number_after x) more ∙ after_suc x j

pub bytes-more : (kind : SampleType) (f : ℕ → ℤ) (n : ℕ)
    → bytes_of kind (map f (range_with_len 0 (n + 1))) ≡ bytes_of kind (map f (range_with_len 0 n)) ++ sample_bytes kind (f n)
bytes-more kind f n =
    ap (bytes_of kind) (map-range_with_len_more f 0 n n (omega arith))
    ∙ sym (flat_map_more (sample_bytes kind) [] (map f (range_with_len 0 n)) (f n))
