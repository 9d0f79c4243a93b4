-- Two neighbouring bytes of a line.
use Rattle.std.proofs.Common.{◌≡◌, ℕ, ◌+◌, ◌*◌, ◌<◌, ◌≤◌, List, length, get_or, take, drop, pos, Fits, FitsSigned, w8, refl, arith, ap, ◌∙◌, sym}
use Rattle.std.specs.Int.{w64, from_be_bytes}
use Rattle.std.proofs.Math.Nat.{mul-one}
use Rattle.std.proofs.Math.Seq.{drop-cons}
use Rattle.std.proofs.lemmas.List.{get_or-drop, get_or-take}
use Rattle.nd_base.specs.declared.array.SampleType.TheVariants.{UInt8}
use Rattle.lane_kernels.specs.Plain.{run}

-- the sum of the bytes 2k and 2k + 1
abbrev pub pair : List ℕ → ℕ → ℕ
pair bytes k = get_or bytes (k * 2) 0 + get_or bytes (k * 2 + 1) 0

stored_byte : (bytes : List ℕ) (p : ℕ) → p < length bytes → from_be_bytes w8 (take 1 (drop (p * 1) bytes)) ≡ get_or bytes p 0
stored_byte bytes p h = rw (ap (λ n. drop n bytes) (mul-one p) ∙ drop-cons bytes p 0 h) refl

-- one of the 16 bytes from a place on
byte : (input : List ℕ) (place i : ℕ) → i < 16 → get_or (take 16 (drop place input)) i 0 ≡ get_or input (place + i) 0
byte input place i h = get_or-take 16 (drop place input) i 0 h ∙ get_or-drop place input i 0

-- the sum of two of the 16 bytes from a place on is that of a run of two samples
pub pair_run : (input : List ℕ) (place k : ℕ) → place + 16 ≤ length input → k < 8
    → pos (pair (take 16 (drop place input)) k) ≡ run UInt8 input 2 (place + k * 2)
pair_run input place k room h =
    let at : (i p : ℕ) → i < 16 → place + i ≡ p → get_or (take 16 (drop place input)) i 0 ≡ from_be_bytes w8 (take 1 (drop (p * 1) input)) =
    λ i p below e. byte input place i below ∙ ap (λ n. get_or input n 0) e ∙ sym (stored_byte input p (omega arith)) in
    let first = at (k * 2) (place + k * 2 + 0) (omega arith) (omega arith) in
    let second = at (k * 2 + 1) (place + k * 2 + 1) (omega arith) (omega arith) in
    ap pos (omega (arith, first, second))

pub pair-fits : (input : List ℕ) (place k : ℕ) → ((i : ℕ) → Fits w8 (get_or input i 0)) → k < 8 → FitsSigned w64 (pos (pair (take 16 (drop place input)) k))
pair-fits input place k fit h =
    let first = byte input place (k * 2) (omega arith) in
    let second = byte input place (k * 2 + 1) (omega arith) in
    let one = (fit (place + k * 2)).fits in
    let two = (fit (place + (k * 2 + 1))).fits in
    record { sfits = omega (arith, first, second, one, two) }
