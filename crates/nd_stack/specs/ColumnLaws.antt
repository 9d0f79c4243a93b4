-- The bytes for a frame begin at the place of the frame's first value.
use Rattle.std.specs.Prelude.{◌≡◌, ℕ, ◌+◌, ◌*◌, Bool, true, false, if◌then◌else◌}
use Rattle.std.proofs.Common.{arith}
use Rattle.std.proofs.Math.Nat.{mul_assoc, zero-mul}
use Rattle.cdf_read.specs.declared.head.HeadVar.{HeadVar}
use Rattle.cdf_read.specs.declared.head.Header.{Header}
use Rattle.cdf_read.specs.Places.{value_size, is_record_var, place_of_value}
use Rattle.nd_stack.specs.Columns.{frame_values, column_of}

by_case : (b : Bool) (begin k recsize values size : ℕ)
    → begin + k * (if b then recsize else values * size) ≡ begin + (if b then (if b then k else 0) * recsize else 0) + (if b then 0 else k * values) * size
by_case true begin k recsize values size = omega (arith, zero-mul size)
by_case false begin k recsize values size = omega (arith, mul_assoc k values size)

-- in record k, or after the values for k frames
abbrev pub FrameStands : Header → HeadVar → ℕ → Type 0
FrameStands h v k =
    (column_of h v).first + k * (column_of h v).step
    ≡ place_of_value h v (if is_record_var h.dims v then k else 0) (if is_record_var h.dims v then 0 else k * frame_values h v)

pub frame_stands : (h : Header) (v : HeadVar) (k : ℕ) → FrameStands h v k
frame_stands h v k = by_case (is_record_var h.dims v) v.begin k h.recsize (frame_values h v) (value_size v.kind)
