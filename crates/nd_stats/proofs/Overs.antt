-- The samples that reach a threshold.
use Rattle.std.proofs.Common.{◌≡◌, ℕ, ◌+◌, ◌*◌, ◌<◌, ◌≤◌, ◌^◌, List, refl, ap, sym, ◌∙◌, arith, ℤ, pos, ◌+ℤ◌, ◌*ℤ◌, Bool, true, false, not, w8, w32, w64}
use Rattle.std.proofs.Common.{Fits, FitsSigned, take, drop, get_or}
use Rattle.std.specs.Prelude.{int_lt, unsigned_abs}
use mir.Val.{bool_byte}
use Rattle.std.proofs.lemmas.Int.{fits_signed_from_abs}
use Rattle.nd_base.specs.declared.array.SampleType.{SampleType}
use Rattle.nd_base.specs.Samples.{width, numbers}
use Rattle.nd_base.specs.declared.array.SampleType.TheVariants.{Int8, UInt8, Int16, UInt16, Int32, UInt32}
use Rattle.nd_base.specs.SampleLaws.{IsSample, number-IsSample}
use Rattle.std.proofs.lemmas.Int.{ints}
use Rattle.std.proofs.lemmas.List.Elements.{All-from_get_or, All-take, All-drop}
use Rattle.lane_kernels.specs.Plain.{stored}
use Rattle.nd_stats.specs.Samples.{Sample, placed}
use Rattle.nd_stats.specs.Measured.{count_where, value_where}
use Rattle.nd_stats.specs.Tallies.{counted, one_if}
use Rattle.nd_stats.specs.Over.{reaches, weighted}
use Rattle.nd_stats.proofs.Sums.{abs-add, sum_where-more, count-more}
use Rattle.nd_stats.proofs.Growth.{times_counted}
use Rattle.nd_stats.proofs.Pieces.{piece-more}

pub byte_is_one : (b : Bool) → bool_byte b ≡ one_if b
byte_is_one true = refl
byte_is_one false = refl

pub one_most : (b : Bool) → one_if b ≤ 1
one_most true = omega arith
one_most false = omega arith

pub add_fits : (a v : ℤ) (m n : ℕ) → unsigned_abs a ≤ m → unsigned_abs v ≤ n → m + n < 2 ^ 63 → FitsSigned w64 (a +ℤ v)
add_fits a v m n h k few = fits_signed_from_abs w64 (a +ℤ v) (let s = abs-add a v in omega (arith, s))

pub add_fits_32 : (a v : ℤ) (m n : ℕ) → unsigned_abs a ≤ m → unsigned_abs v ≤ n → m + n < 2 ^ 31 → FitsSigned w32 (a +ℤ v)
add_fits_32 a v m n h k few = fits_signed_from_abs w32 (a +ℤ v) (let s = abs-add a v in omega (arith, s))

pub add_most : (a v : ℤ) (k b : ℕ) → unsigned_abs a ≤ k * b → unsigned_abs v ≤ b → unsigned_abs (a +ℤ v) ≤ k * b + b
add_most a v k b h small = let s = abs-add a v in omega (arith, s)

-- one sample more of a block
pub over_step : (kind : SampleType) (t : ℤ) (bytes : List ℕ) (k : ℕ) (v kept more : ℤ) (is : Bool) (count : ℕ) (sum moment : ℤ)
    → count ≡ count_where (reaches t) (placed 0 (numbers kind k bytes)) → sum ≡ value_where (reaches t) (placed 0 (numbers kind k bytes))
    → moment ≡ weighted t (placed 0 (numbers kind k bytes))
    → v ≡ stored kind bytes k → is ≡ not (int_lt v t) → kept ≡ counted is v → more ≡ pos k *ℤ kept
    → (let xs = placed 0 (numbers kind (k + 1) bytes) in
    (count + one_if is ≡ count_where (reaches t) xs) × (sum +ℤ kept ≡ value_where (reaches t) xs) × (moment +ℤ more ≡ weighted t xs))
over_step kind t bytes k v kept more is count sum moment c s m value test weight product =
    let xs = placed 0 (numbers kind k bytes) in
    let one : Sample = record { place = 0 + k; value = stored kind bytes k } in
    let all = sym (piece-more kind 0 k bytes) in
    let p = reaches t in
    let same : is ≡ p one = test ∙ ap (λ z. not (int_lt z t)) value in
    let kept_is : kept ≡ counted (p one) one.value = weight ∙ ap (λ z. counted is z) value ∙ ap (λ b. counted b one.value) same in
    let more_is : more ≡ (counted (p one) (pos (0 + k) *ℤ one.value)) = product ∙ ap (λ z. pos k *ℤ z) kept_is
    ∙ ap (λ n. pos n *ℤ counted (p one) one.value) (let e : k ≡ 0 + k = omega arith in e) ∙ times_counted (p one) (0 + k) one.value in (
      ap (λ n. n + one_if is) c ∙ ap (λ b. count_where p xs + one_if b) same ∙ sym (count-more p xs one) ∙ ap (count_where p) all,
      ap (λ z. z +ℤ kept) s ∙ ap (λ z. value_where p xs +ℤ z) kept_is ∙ sym (sum_where-more p (λ u. u.value) xs one) ∙ ap (value_where p) all,
      ap (λ z. z +ℤ more) m ∙ ap (λ z. weighted t xs +ℤ z) more_is ∙ sym (sum_where-more p (λ u. pos u.place *ℤ u.value) xs one) ∙ ap (weighted t) all,
    )

-- samples of so few bits
narrow : (kind : SampleType) (v : ℤ) → IsSample kind v → width kind ≤ 2 → unsigned_abs v ≤ 65535
narrow Int8 v h few = omega (arith, ints, h)
narrow UInt8 v h few = omega (arith, ints, h)
narrow Int16 v h few = omega (arith, ints, h)
narrow UInt16 v h few = omega (arith, ints, h)
narrow Int32 v h few = absurd (omega arith)
narrow UInt32 v h few = absurd (omega arith)

pub narrow_stored : (kind : SampleType) (bytes : List ℕ) (p : ℕ) → ((i : ℕ) → Fits w8 (get_or bytes i 0)) → width kind ≤ 2
    → unsigned_abs (stored kind bytes p) ≤ 65535
narrow_stored kind bytes p fit few =
    let small = All-from_get_or (λ b. b < 256) bytes 0 (λ i _. (fit i).fits) in
    narrow kind (stored kind bytes p) (number-IsSample kind (take (width kind) (drop (p * width kind) bytes))
    (All-take (λ b. b < 256) (width kind) (drop (p * width kind) bytes) (All-drop (λ b. b < 256) (p * width kind) bytes small))) few
