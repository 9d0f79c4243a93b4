use Rattle.std.proofs.Common.{◌≡◌, ◌<◌, ◌≤◌, ◌+◌, ◌*◌, ℕ, List, length, take, drop, sym, ap, ◌∙◌, arith, subst, IfSome, slice_get}
use Rattle.std.proofs.lemmas.List.{length-take-le, length-drop}
use Rattle.nd_base.specs.declared.array.Head.{Head}
use Rattle.nd_base.specs.declared.attribute.FileShape.{FileShape}
use Rattle.nd_base.specs.Array.{StackValue}
use Rattle.nd_base.specs.Stacks.{frame_size, FitsFile, stack_at}
use Rattle.nd_base.specs.Samples.{width, samples_of, bytes_of}
use Rattle.nd_base.specs.Shapes.{sample_count}
use Rattle.nd_base.specs.StackLaws.{length-arrays_at, frame_bytes-samples, frame_samples-bytes}
use Rattle.nd_base.proofs.stack.Stack.frame.Goals as goal

-- frame k's bytes lie within the file
inside : (shape : FileShape) (heads : List Head) (bytes : List ℕ) (first step k : ℕ) (value : StackValue) → FitsFile shape heads bytes first step
    → stack_at shape heads bytes first step ≡ value → k < length value.arrays → first + k * step + frame_size value.shape ≤ length bytes
inside shape heads bytes first step k value fits is within =
    let frames : length heads ≡ length value.arrays = sym (length-arrays_at shape bytes first step heads) ∙ ap (λ v. length v.arrays) is in
    subst (λ v. first + k * step + frame_size v.shape ≤ length bytes) is (fits.inside k (rw frames within))

-- how many frames there are
within : (shape : FileShape) (heads : List Head) (bytes : List ℕ) (first step k : ℕ) (value : StackValue) → stack_at shape heads bytes first step ≡ value
    → k < length value.arrays → k < length heads
within shape heads bytes first step k value is h =
    let frames : length heads ≡ length value.arrays = sym (length-arrays_at shape bytes first step heads) ∙ ap (λ v. length v.arrays) is in
    rw frames h

-- the bytes of frame k
taken : (shape : FileShape) (list bytes part : List ℕ) (first step k from size : ℕ) → list ≡ bytes → from ≡ k → size ≡ frame_size shape
    → part ≡ take size (drop (first + from * step) list) → part ≡ take (frame_size shape) (drop (first + k * step) bytes)
taken shape list bytes part first step k from size same number whole after = rw (← whole, ← number, ← same) after

pub overflow_mul-place : goal.overflow_mul-place
overflow_mul-place c =
    let s = c.self.inside in
    let end = inside s.shape s.heads s.bytes s.first s.step c.args.k c.args.self.now c.self.invariant c.self.view_is c.requires in
    rw c.from.ensures (omega (arith, end, c.list-bytes.type_inv.0, ap length c.list-bytes.ensures))

pub overflow_add-place : goal.overflow_add-place
overflow_add-place c =
    let s = c.self.inside in
    let end = inside s.shape s.heads s.bytes s.first s.step c.args.k c.args.self.now c.self.invariant c.self.view_is c.requires in
    rw c.from.ensures (omega (arith, end, c.list-bytes.type_inv.0, ap length c.list-bytes.ensures))

pub part-requires : goal.part-requires
part-requires c =
    let s = c.self.inside in
    let end = inside s.shape s.heads s.bytes s.first s.step c.args.k c.args.self.now c.self.invariant c.self.view_is c.requires in
    let size : c.frame_bytes-size.result ≡ frame_size s.shape = c.frame_bytes-size.ensures ∙ ap (λ d. sample_count d * width s.shape.kind) c.as_slice.ensures in
    let same : frame_size s.shape ≡ frame_size c.args.self.now.shape = ap (λ v. frame_size v.shape) c.self.view_is in
    rw (c.from.ensures, size, same, c.list-bytes.ensures) end

pub returns-clause-size : goal.returns-clause-size
returns-clause-size c =
    let s = c.self.inside in
    let end = inside s.shape s.heads s.bytes s.first s.step c.args.k c.args.self.now c.self.invariant c.self.view_is c.requires in
    let size : c.frame_bytes-size.result ≡ frame_size s.shape = c.frame_bytes-size.ensures ∙ ap (λ d. sample_count d * width s.shape.kind) c.as_slice.ensures in
    let is = taken s.shape c.list-bytes.result.now s.bytes c.part.result.now s.first s.step c.args.k c.from.result c.frame_bytes-size.result
    c.list-bytes.ensures c.from.ensures size c.part.ensures.value in
    let k = within s.shape s.heads s.bytes s.first s.step c.args.k c.args.self.now c.self.view_is c.requires in
    let fits = c.self.invariant.inside c.args.k k in
    ap length is ∙ length-take-le (frame_size s.shape) (drop (s.first + c.args.k * s.step) s.bytes)
    (omega (arith, fits, length-drop (s.first + c.args.k * s.step) s.bytes)) ∙ ap (λ v. frame_size v.shape) c.self.view_is

pub returns-clause-samples : goal.returns-clause-samples
returns-clause-samples c =
    let s = c.self.inside in
    let k = within s.shape s.heads s.bytes s.first s.step c.args.k c.args.self.now c.self.view_is c.requires in
    let size : c.frame_bytes-size.result ≡ frame_size s.shape = c.frame_bytes-size.ensures ∙ ap (λ d. sample_count d * width s.shape.kind) c.as_slice.ensures in
    let is = taken s.shape c.list-bytes.result.now s.bytes c.part.result.now s.first s.step c.args.k c.from.result c.frame_bytes-size.result
    c.list-bytes.ensures c.from.ensures size c.part.ensures.value in
    subst (λ v. IfSome (slice_get v.arrays c.args.k) (λ a. samples_of v.shape.kind c.part.result.now ≡ a.samples)) c.self.view_is
    (frame_bytes-samples s.shape s.heads s.bytes s.first s.step c.args.k c.part.result.now k is)

pub returns-clause-bytes : goal.returns-clause-bytes
returns-clause-bytes c =
    let s = c.self.inside in
    let k = within s.shape s.heads s.bytes s.first s.step c.args.k c.args.self.now c.self.view_is c.requires in
    let size : c.frame_bytes-size.result ≡ frame_size s.shape = c.frame_bytes-size.ensures ∙ ap (λ d. sample_count d * width s.shape.kind) c.as_slice.ensures in
    let is = taken s.shape c.list-bytes.result.now s.bytes c.part.result.now s.first s.step c.args.k c.from.result c.frame_bytes-size.result
    c.list-bytes.ensures c.from.ensures size c.part.ensures.value in
    subst (λ v. IfSome (slice_get v.arrays c.args.k) (λ a. c.part.result.now ≡ bytes_of v.shape.kind a.samples)) c.self.view_is
    (frame_samples-bytes s.shape s.heads s.bytes s.first s.step c.args.k c.part.result.now c.self.invariant k is c.part.ensures.bytes)
