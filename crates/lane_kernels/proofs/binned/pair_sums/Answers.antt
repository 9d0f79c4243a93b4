use Rattle.std.proofs.Common.{◌≡◌, ℕ, ◌+◌, ◌<◌, ◌++◌, ◌%◌, List, length, get_or, pos, Fits, to_z, w8, arith, ap, ◌∙◌}
use Rattle.std.specs.Int.{w64}
use Rattle.std.specs.Simd.Lanes.{Each1}
use Rattle.std.proofs.lemmas.Simd.{Each1-get_or}
use Rattle.std.proofs.lemmas.Int.{to_z_pos}
use Rattle.std.proofs.lemmas.List.{get_or_append_left}
use Rattle.lane_kernels.proofs.binned.pair_sums.Goals as goal

-- the sum of two bytes fits the lanes that it goes through
lane : (bytes : List ℕ) → length bytes ≡ 16 → Each1 (Fits w8) bytes → (k : ℕ) → k < 15 →
    to_z w64 ((get_or (bytes ++ bytes) k 0 + get_or (bytes ++ bytes) (k + 1) 0) % 65536) ≡ pos (get_or bytes k 0 + get_or bytes (k + 1) 0)
lane bytes long fit k h =
    let first = get_or_append_left bytes bytes 0 k (omega arith) in
    let second = get_or_append_left bytes bytes 0 (k + 1) (omega arith) in
    let one = (Each1-get_or (Fits w8) bytes k 0 (omega arith) fit).fits in
    let two = (Each1-get_or (Fits w8) bytes (k + 1) 0 (omega arith) fit).fits in
    let same : (get_or (bytes ++ bytes) k 0 + get_or (bytes ++ bytes) (k + 1) 0) % 65536 ≡ get_or bytes k 0 + get_or bytes (k + 1) 0 =
    omega (arith, first, second, one, two) in
    ap (to_z w64) same ∙ to_z_pos w64 (get_or bytes k 0 + get_or bytes (k + 1) 0) (omega (arith, one, two))

pub returns : goal.returns
returns c =
    let at = lane c.args.bytes c.fits-bytes.0 c.fits-bytes.1 in
    cc (
      at 0 (omega arith),
      at 2 (omega arith),
      at 4 (omega arith),
      at 6 (omega arith),
      at 8 (omega arith),
      at 10 (omega arith),
      at 12 (omega arith),
      at 14 (omega arith),
    )
