-- Laws of generated stacks: all frames together have the generator's samples in their order, each stack can be written, and its
-- file is never too long and reads back.
use Rattle.std.specs.Prelude.{◌≡◌, ℕ, zero, suc, ◌+◌, ◌*◌, ◌%◌, ◌^◌, ◌&&◌, ◌<◌, ◌≤◌, nat_lt, nat_le, Bool, true, false, ℤ, List, [], ◌∷◌, ◌++◌}
use Rattle.std.specs.Prelude.{length, map, take, drop, Option, Some, None, All, FitsSigned, IsTrue, if◌then◌else◌, refl}
use Rattle.std.specs.Int.{w32}
use Rattle.std.specs.List.{range_with_len, flat_map}
use Rattle.std.specs.Str.{IsUtf8}
use Rattle.std.proofs.Common.{ap, sym, subst, ◌∙◌, arith, get_or, zero-add}
use Rattle.std.proofs.Math.Nat.{zero-mul, suc-mul, mul_assoc, mul-add, mul-le-mul, mul-le-mul_right, mul-le-mul_left}
use Rattle.std.proofs.lemmas.Bool.{and_parts, leb-true, ltb-true, ltb-false, lt-ltb}
use Rattle.std.proofs.lemmas.Int.{ints}
use Rattle.std.proofs.lemmas.List.{map-append, take_at, drop_at}
use Rattle.std.proofs.lemmas.List.Concat.{flat_map-append}
use Rattle.std.proofs.lemmas.List.Elements.{All-nil, All-cons, All-map}
use Rattle.std.proofs.lemmas.List.FromFn.{length-range_with_len, get_or-range_with_len, length-map-range_with_len}
use Rattle.nd_base.specs.declared.array.Dim.{Dim}
use Rattle.nd_base.specs.declared.array.SampleType.{SampleType}
use Rattle.nd_base.specs.declared.array.SampleType.TheVariants.{Int8, UInt8, Int16, UInt16, Int32, UInt32}
use Rattle.nd_base.specs.declared.attribute.AttrColumn.{AttrColumn}
use Rattle.nd_base.specs.declared.attribute.Extra.{Extra}
use Rattle.nd_base.specs.declared.form.Form.TheVariants.{Classic}
use Rattle.nd_base.specs.Array.{Array}
use Rattle.nd_base.specs.Forms.{longest_of}
use Rattle.nd_base.specs.GraphRules.{IsBetween}
use Rattle.nd_base.specs.Samples.{width, bytes_of}
use Rattle.nd_base.specs.SampleLaws.{IsSample, signed_8, signed_16, signed_32, length-bytes_of}
use Rattle.nd_base.specs.Shapes.{most_samples, sample_count, has_dimensions}
use Rattle.cdf_write.specs.LengthLaws.{header_length_is, row_length_is}
use Rattle.cdf_write.specs.Lengths.{length_of, row_length}
use Rattle.cdf_write.specs.Writable.{IsExtra, IsWritable, FitsIn, HasShape}
use Rattle.nd_stack.specs.declared.generated.GenFault.{GenFault}
use Rattle.nd_stack.specs.declared.generated.GenFault.TheVariants.{GenRange, GenBytes}
use Rattle.nd_stack.specs.DimLaws.{ascii-IsUtf8}
use Rattle.nd_stack.specs.Generated.{reduced, sample, frame_name, frame_attr, frame_column, whole_dim, whole_dims, generated_array, generated_shape}
use Rattle.nd_stack.specs.Generated.{generated, generated_stack, is_size, gen_bytes, gen_fault}
use Rattle.nd_stack.specs.Groups.{HasTextNames}
use Rattle.nd_stack.specs.KeptStacks.{IsKeptStack, IsKeptStack-ReadsBack}
use Rattle.nd_stack.specs.LayoutHeads.{IsKeptValue}
use Rattle.nd_stack.specs.LayoutShape.{HasSmallDims}
use Rattle.nd_stack.specs.RoundTrip.{IsKept, ReadsBack}

-- WHAT ISN'T REFUSED

pub record IsAllowed (n w h : ℕ) (kind : SampleType) : Type 0 where
  pub frames : n ≤ 65536
  pub some_wide : 0 < w
  pub wide : w ≤ 8192
  pub some_high : 0 < h
  pub high : h ≤ 8192
  pub bytes : n * w * h * width kind ≤ 536870912

allowed_by : (n w h : ℕ) (kind : SampleType) (range large : Bool) → (nat_le n 65536 && is_size w && is_size h) ≡ range
    → nat_lt 536870912 (gen_bytes n w h kind) ≡ large →
    ◌≡◌ {A = Option GenFault} (if range then (if large then Some (GenBytes (gen_bytes n w h kind)) else None) else Some GenRange) None → IsAllowed n w h kind
allowed_by n w h kind true false r l is =
    let both = and_parts (nat_le n 65536 && is_size w) (is_size h) r in
    let front = and_parts (nat_le n 65536) (is_size w) both.0 in
    let width = and_parts (nat_lt 0 w) (nat_le w 8192) front.1 in
    let height = and_parts (nat_lt 0 h) (nat_le h 8192) both.1 in
    record {
      frames = leb-true n 65536 front.0;
      some_wide = ltb-true 0 w width.0;
      wide = leb-true w 8192 width.1;
      some_high = ltb-true 0 h height.0;
      high = leb-true h 8192 height.1;
      bytes = ltb-false 536870912 (gen_bytes n w h kind) l;
    }
allowed_by n w h kind true true r l is = absurd (cc)
allowed_by n w h kind false large r l is = absurd (cc)

pub no_fault-IsAllowed : (n w h : ℕ) (kind : SampleType) → gen_fault n w h kind ≡ None → IsAllowed n w h kind
no_fault-IsAllowed n w h kind is =
    allowed_by n w h kind (nat_le n 65536 && is_size w && is_size h) (nat_lt 536870912 (gen_bytes n w h kind)) refl refl is

-- SAMPLES

reduced-IsSample : (kind : SampleType) (m : ℕ) → IsSample kind (reduced kind m)
reduced-IsSample Int8 m = signed_8 (m % 2 ^ 8) (omega arith)
reduced-IsSample UInt8 m = omega (arith, ints)
reduced-IsSample Int16 m = signed_16 (m % 2 ^ 16) (omega arith)
reduced-IsSample UInt16 m = omega (arith, ints)
reduced-IsSample Int32 m = signed_32 (m % 2 ^ 32) (omega arith)
reduced-IsSample UInt32 m = omega (arith, ints)

pub samples-IsSample : (kind : SampleType) (start : ℕ) (js : List ℕ) → All (IsSample kind) (map (sample kind start) js)
samples-IsSample kind start [] = All-nil (IsSample kind)
samples-IsSample kind start (j ∷ js) =
    All-cons (IsSample kind) (sample kind start j) (map (sample kind start) js) (reduced-IsSample kind _) (samples-IsSample kind start js)

range-append : (a m n : ℕ) → range_with_len a (m + n) ≡ range_with_len a m ++ range_with_len (a + m) n
range-append a zero n = ap (range_with_len a) (omega arith) ∙ ap (λ b. range_with_len b n) (omega arith)
range-append a (suc m) n =
    let more : suc m + n ≡ suc (m + n) = omega arith in
    ap (range_with_len a) more
    ∙ ap (λ ns. a ∷ ns) (range-append (a + 1) m n ∙ ap (λ b. range_with_len (a + 1) m ++ range_with_len b n) (omega arith))

map-range-append : {X : Type 0} (f : ℕ → X) (a m n : ℕ) → map f (range_with_len a (m + n)) ≡ map f (range_with_len a m) ++ map f (range_with_len (a + m) n)
map-range-append f a m n = ap (map f) (range-append a m n) ∙ map-append f (range_with_len a m) (range_with_len (a + m) n)

frames_from : (w h : ℕ) (kind : SampleType) (start a n : ℕ) → flat_map (λ (x : Array). x.samples) (map (generated_array w h kind start) (range_with_len a n))
    ≡ map (sample kind start) (range_with_len (a * (w * h)) (n * (w * h)))
frames_from w h kind start a zero = ap (λ m. map (sample kind start) (range_with_len (a * (w * h)) m)) (sym (zero-mul (w * h)))
frames_from w h kind start a (suc n) =
    let count : ℕ = w * h in
    let here = map (sample kind start) (range_with_len (a * count) count) in
    ap (λ others. here ++ others) (frames_from w h kind start (a + 1) n
    ∙ ap (λ b. map (sample kind start) (range_with_len b (n * count))) (ap (λ b. b * count) (omega arith) ∙ suc-mul a count))
    ∙ sym (map-range-append (sample kind start) (a * count) count (n * count))
    ∙ ap (λ m. map (sample kind start) (range_with_len (a * count) m)) (omega (arith, suc-mul n count))

-- all frames together have the generator's samples, from the first one on
pub generated_samples : (n w h : ℕ) (kind : SampleType) (start : ℕ)
    → flat_map (λ (x : Array). x.samples) (generated n w h kind start) ≡ map (sample kind start) (range_with_len 0 (n * (w * h)))
generated_samples n w h kind start =
    frames_from w h kind start 0 n ∙ ap (λ a. map (sample kind start) (range_with_len a (n * (w * h)))) (zero-mul (w * h))

-- the bytes of some samples are a part of those of all
pub bytes-part : (kind : SampleType) (f : ℕ → ℤ) (k m rest : ℕ)
    → take (m * width kind) (drop (k * width kind) (bytes_of kind (map f (range_with_len 0 (k + (m + rest)))))) ≡ bytes_of kind (map f (range_with_len k m))
bytes-part kind f k m rest =
    let front = map f (range_with_len 0 k) in
    let middle = map f (range_with_len k m) in
    let back = map f (range_with_len (k + m) rest) in
    let parts : bytes_of kind (map f (range_with_len 0 (k + (m + rest)))) ≡ bytes_of kind front ++ (bytes_of kind middle ++ bytes_of kind back) =
    ap (bytes_of kind) (map-range-append f 0 k (m + rest) ∙ ap (λ a. front ++ map f (range_with_len a (m + rest))) (zero-add k)
    ∙ ap (λ others. front ++ others) (map-range-append f k m rest))
    ∙ flat_map-append _ front (middle ++ back) ∙ ap (λ others. bytes_of kind front ++ others) (flat_map-append _ middle back) in
    let first : length (bytes_of kind front) ≡ k * width kind =
    length-bytes_of kind front ∙ ap (λ n. n * width kind) (length-map-range_with_len f 0 k) in
    let size : length (bytes_of kind middle) ≡ m * width kind =
    length-bytes_of kind middle ∙ ap (λ n. n * width kind) (length-map-range_with_len f k m) in
    ap (λ bytes. take (m * width kind) (drop (k * width kind) bytes)) parts
    ∙ ap (take (m * width kind)) (drop_at (bytes_of kind front) (bytes_of kind middle ++ bytes_of kind back) (k * width kind) first)
    ∙ take_at (bytes_of kind middle) (bytes_of kind back) (m * width kind) size

-- THE SHAPE

pub area : (w h : ℕ) → sample_count (whole_dims w h) ≡ w * h
area w h = ap (λ m. w * m) (omega arith)

pub area_few : (w h : ℕ) → w ≤ 8192 → h ≤ 8192 → w * h ≤ most_samples
area_few w h wide high = omega (arith, mul-le-mul wide high)

pub generated-has_dimensions : (w h : ℕ) → 0 < w → 0 < h → IsTrue (has_dimensions (whole_dims w h))
generated-has_dimensions w h some_wide some_high = rw (lt-ltb 0 w some_wide, lt-ltb 0 h some_high) refl

generated-IsWritable : (n w h : ℕ) (kind : SampleType) → IsAllowed n w h kind → IsWritable (generated_shape w h kind)
generated-IsWritable n w h kind allowed =
    let names = λ (a : AttrColumn). IsBetween 1 1019 (length a.name) in
    record {
      dimensions = generated-has_dimensions w h allowed.some_wide allowed.some_high;
      samples = omega (arith, area w h, area_few w h allowed.wide allowed.high);
      width = (omega arith, omega arith);
      attrs = omega arith;
      names = All-cons names frame_column [] (omega arith, omega arith) (All-nil names);
      extras = omega arith;
      each_extra = All-nil IsExtra;
    }

generated-HasTextNames : (w h : ℕ) (kind : SampleType) → HasTextNames (generated_shape w h kind)
generated-HasTextNames w h kind = record {
  attrs = All-cons (λ a. IsUtf8 a.name) frame_column [] (ascii-IsUtf8 frame_name refl) (All-nil (λ a. IsUtf8 a.name));
  extras = All-nil (λ (e : Extra). IsUtf8 e.name);
}

generated-HasSmallDims : (w h : ℕ) (kind : SampleType) → HasSmallDims (generated_shape w h kind)
generated-HasSmallDims w h kind =
    let offsets = λ (d : Dim). FitsSigned w32 d.offset in
    let binnings = λ (d : Dim). FitsSigned w32 d.binning in
    record {
      offsets =
          All-cons offsets (whole_dim w)
          (whole_dim h ∷ []) (omega (arith, ints)) (All-cons offsets (whole_dim h) [] (omega (arith, ints)) (All-nil offsets));
      binnings =
          All-cons binnings (whole_dim w)
          (whole_dim h ∷ []) (omega (arith, ints)) (All-cons binnings (whole_dim h) [] (omega (arith, ints)) (All-nil binnings));
    }

-- EACH FRAME

frame-HasShape : (w h : ℕ) (kind : SampleType) (start k : ℕ) → HasShape (generated_shape w h kind) (generated_array w h kind start k)
frame-HasShape w h kind start k = record {
  kind = refl;
  dims = refl;
  count = length-map-range_with_len (sample kind start) (k * (w * h)) (w * h) ∙ sym (area w h);
  attrs = record { same = refl; texts = All-cons (λ t. FitsIn 256 t.value) (frame_attr k) [] tt (All-nil (λ t. FitsIn 256 t.value)) };
}

frame-IsKept : (w h : ℕ) (kind : SampleType) (start k : ℕ) → k < 65536 → IsKept (generated_array w h kind start k)
frame-IsKept w h kind start k few = record {
  id = omega (arith, ints, few);
  stamp = omega arith;
  sec = omega (arith, ints);
  nsec = omega (arith, ints);
  samples = samples-IsSample kind start (range_with_len (k * (w * h)) (w * h));
  attrs = All-cons (λ t. IsKeptValue t.value) (frame_attr k) [] (omega (arith, ints, few)) (All-nil (λ t. IsKeptValue t.value));
}

-- THE STACK

pub generated-IsKeptStack : (n w h : ℕ) (kind : SampleType) (start : ℕ) → gen_fault n w h kind ≡ None → IsKeptStack (generated_stack n w h kind start)
generated-IsKeptStack n w h kind start none =
    let allowed = no_fault-IsAllowed n w h kind none in
    let frame = generated_array w h kind start in
    record {
      writable = generated-IsWritable n w h kind allowed;
      names = generated-HasTextNames w h kind;
      dims = generated-HasSmallDims w h kind;
      each = All-map (HasShape (generated_shape w h kind)) frame (range_with_len 0 n)
          (λ i d inside. frame-HasShape w h kind start (get_or (range_with_len 0 n) i d));
      kept = All-map IsKept frame (range_with_len 0 n) (λ i d inside.
          let within : i < n = omega (arith, inside, length-range_with_len 0 n) in
          frame-IsKept w h kind start (get_or (range_with_len 0 n) i d) (omega (arith, within, allowed.frames, get_or-range_with_len 0 n i d within)));
      few = omega (arith, length-map-range_with_len frame 0 n, allowed.frames);
    }

-- ITS FILE

-- so many rows, each of which is at most this much longer than its samples
rows-few : (n size row : ℕ) → row ≤ size + 30 → n ≤ 65536 → n * size ≤ 536870912 → n * row ≤ 538836992
rows-few n size row short few bytes = omega (arith, mul-le-mul_left n short, mul-add n size 30, mul-le-mul_right 30 few)

pub generated-within : (n w h : ℕ) (kind : SampleType) → gen_fault n w h kind ≡ None → length_of (generated_shape w h kind) n ≤ longest_of Classic
generated-within n w h kind none =
    let allowed = no_fault-IsAllowed n w h kind none in
    let shape = generated_shape w h kind in
    let size : ℕ = w * h * width kind in
    let all : n * size ≡ gen_bytes n w h kind = sym (mul_assoc n (w * h) (width kind)) ∙ ap (λ m. m * width kind) (sym (mul_assoc n w h)) in
    let samples : sample_count (whole_dims w h) * width kind ≡ size = ap (λ m. m * width kind) (area w h) in
    let row : row_length shape ≤ size + 30 = omega (arith, row_length_is shape, samples) in
    omega (arith, header_length_is shape, rows-few n size (row_length shape) row allowed.frames (omega (arith, all, allowed.bytes)))

pub generated_reads_back : (n w h : ℕ) (kind : SampleType) (start : ℕ) → gen_fault n w h kind ≡ None → 1 ≤ n
    → ReadsBack (generated_shape w h kind) (generated n w h kind start)
generated_reads_back n w h kind start none some =
    let count : length (generated n w h kind start) ≡ n = length-map-range_with_len (generated_array w h kind start) 0 n in
    IsKeptStack-ReadsBack (generated_stack n w h kind start) (generated-IsKeptStack n w h kind start none) (omega (arith, count))
    (subst (λ m. length_of (generated_shape w h kind) m ≤ longest_of Classic) (sym count) (generated-within n w h kind none))
