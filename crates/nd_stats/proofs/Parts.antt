-- The samples of a part.
use Rattle.std.proofs.Common.{◌≡◌, ℕ, ◌+◌, ◌*◌, ◌/◌, ◌<◌, ◌≤◌, List, ◌++◌, length, take, drop, get_or, refl, ap, sym, ◌∙◌, arith}
use Rattle.std.proofs.Common.{Fits, w8}
use Rattle.std.proofs.Math.Nat.{mul-le-mul_right, div-mul-le_self, add-mul}
use Rattle.std.proofs.lemmas.List.Elements.{All-from_get_or}
use Rattle.nd_base.specs.declared.array.SampleType.{SampleType}
use Rattle.nd_base.specs.Samples.{width, numbers, samples_of}
use Rattle.nd_base.specs.SampleLaws.{length-numbers}
use Rattle.lane_kernels.proofs.Slices.{numbers-split, samples_of-take, side_counts}
use Rattle.nd_stats.specs.Samples.{placed, AreSmall}
use Rattle.nd_stats.specs.MergingLaws.{placed-append, small_placed}

-- a part behind the samples before it
pub parts-more : (kind : SampleType) (from k m : ℕ) (bytes : List ℕ)
    → placed from (numbers kind (k + m) bytes) ≡ placed from (numbers kind k bytes) ++ placed (from + k) (numbers kind m (drop (k * width kind) bytes))
parts-more kind from k m bytes =
    ap (placed from) (numbers-split kind k m bytes) ∙ placed-append from (numbers kind k bytes) (numbers kind m (drop (k * width kind) bytes))
    ∙ ap (λ n. placed from (numbers kind k bytes) ++ placed (from + n) (numbers kind m (drop (k * width kind) bytes))) (length-numbers kind k bytes)

-- the samples on each side of a place between two
pub both_sides : (kind : SampleType) (from k : ℕ) (bytes first second : List ℕ) → k ≤ length bytes / width kind
    → first ≡ take (k * width kind) bytes → second ≡ drop (k * width kind) bytes
    → placed from (samples_of kind bytes) ≡ placed from (samples_of kind first) ++ placed (from + length first / width kind) (samples_of kind second)
both_sides kind from k bytes first second within one two =
    let w = width kind in
    let counts = side_counts kind k bytes first second within one two in
    let later = length second / w in
    ap (λ n. placed from (numbers kind n bytes)) counts.2 ∙ parts-more kind from k later bytes
    ∙ ap (λ vs. placed from vs ++ placed (from + k) (numbers kind later (drop (k * w) bytes)))
    (sym (samples_of-take kind k (k * w) bytes first refl one counts.0))
    ∙ ap (λ n. placed from (samples_of kind first) ++ placed (from + n) (numbers kind later (drop (k * w) bytes))) (sym counts.1)
    ∙ ap (λ l. placed from (samples_of kind first) ++ placed (from + length first / w) (numbers kind later l)) (sym two)

pub parts_small : (kind : SampleType) (from n : ℕ) (bytes : List ℕ) → ((i : ℕ) → Fits w8 (get_or bytes i 0)) → AreSmall (placed from (numbers kind n bytes))
parts_small kind from n bytes fit = small_placed kind from n bytes (All-from_get_or (λ b. b < 256) bytes 0 (λ i _. (fit i).fits))

-- the bytes of a part end within all
pub part_within : (k m n w : ℕ) → k + m ≤ n / w → k * w + m * w ≤ n
part_within k m n w h =
    let a = mul-le-mul_right w h in
    let b = add-mul k m w in
    let c = div-mul-le_self n w in
    omega (arith, a, b, c)
