-- Runs of the samples of a slice.
use Rattle.std.proofs.Common.{◌≡◌, ℕ, zero, suc, ◌+◌, ◌*◌, ◌-◌, ◌/◌, ◌<◌, ◌≤◌, List, ◌∷◌, ◌++◌, length, take, drop, get_or, pos, refl, ap, sym, ◌∙◌, arith, ◌+ℤ◌, add_comm}
use Rattle.std.proofs.Math.Nat.{add-mul, suc-mul, zero-mul, mul_assoc, mul-le-mul_right, div-mul-le_self, mul-div_cancel, mul-add-div_right}
use Rattle.std.proofs.lemmas.List.{drop-drop, drop-take, take-take, take_all, length-take-le, length-drop}
use Rattle.nd_base.specs.declared.array.SampleType.{SampleType}
use Rattle.nd_base.specs.Samples.{width, number, numbers, samples_of}
use Rattle.nd_base.specs.SampleLaws.{sample_within, width-positive}
use Rattle.lane_kernels.specs.Plain.{stored, run}

-- the samples of a sum end within the bytes
pub run_end : (i n bin bytes w : ℕ) → i < n → n * bin ≤ bytes / w → i * (bin * w) + bin * w ≤ bytes
run_end i n bin bytes w h all =
    let a = mul-le-mul_right bin h in
    let b : suc i * bin ≤ bytes / w = omega (arith, a, all) in
    let c = mul-le-mul_right w b in
    let d = div-mul-le_self bytes w in
    let e = mul_assoc (suc i) bin w in
    let f = suc-mul i (bin * w) in
    omega (arith, c, d, e, f)

module _ (kind : SampleType) (bytes : List ℕ) (p n : ℕ) where
  abbrev w : ℕ
  w = width kind

  -- the bytes of n samples from place p on
  abbrev pub slice : List ℕ
  slice = take (n * width kind) (drop (p * width kind) bytes)

  stored-slice : (q : ℕ) → q < n → stored kind slice q ≡ stored kind bytes (p + q)
  stored-slice q h =
      let rest = drop (p * w) bytes in
      let m : ℕ = n * w - q * w in
      let within = sample_within q n w h in
      let long : n * w ≡ q * w + m = omega (arith, within) in
      ap (λ k. number kind (take w (drop (q * w) (take k rest)))) long
      ∙ ap (λ l. number kind (take w l)) (drop-take (q * w) m rest)
      ∙ ap (number kind) (take-take w m (drop (q * w) rest) (omega (arith, within)))
      ∙ ap (λ l. number kind (take w l)) (drop-drop (q * w) (p * w) bytes ∙ ap (λ k. drop k bytes) (sym (add-mul p q w)))

  pub run-slice : (k : ℕ) → k ≤ n → run kind slice k 0 ≡ run kind bytes k p
  run-slice zero h = refl
  run-slice (suc k) h =
      let here : 0 + k ≡ k = omega arith in
      ap (λ z. z +ℤ stored kind slice (0 + k)) (run-slice k (omega (arith, h)))
      ∙ ap (λ z. run kind bytes k p +ℤ z) (ap (stored kind slice) here ∙ stored-slice k (omega (arith, h)))

-- the samples of a front and those behind it
pub numbers-split : (kind : SampleType) (k m : ℕ) (bytes : List ℕ)
    → numbers kind (k + m) bytes ≡ numbers kind k bytes ++ numbers kind m (drop (k * width kind) bytes)
numbers-split kind zero m bytes = ap (λ n. numbers kind n bytes) (let e : 0 + m ≡ m = omega arith in e)
    ∙ ap (λ n. numbers kind m (drop n bytes)) (sym (zero-mul (width kind)))
numbers-split kind (suc k) m bytes =
    let w = width kind in
    ap (λ n. numbers kind n bytes) (let e : suc k + m ≡ suc (k + m) = omega arith in e)
    ∙ ap (λ rest. number kind (take w bytes) ∷ rest)
    (numbers-split kind k m (drop w bytes)
    ∙ ap (λ rest. numbers kind k (drop w bytes) ++ numbers kind m rest) (drop-drop (k * w) w bytes
    ∙ ap (λ n. drop n bytes) (sym (suc-mul k w ∙ add_comm (k * w) w))))

-- a front without what is behind it
pub numbers-take : (kind : SampleType) (m : ℕ) (bytes : List ℕ) → numbers kind m (take (m * width kind) bytes) ≡ numbers kind m bytes
numbers-take kind zero bytes = refl
numbers-take kind (suc m) bytes =
    let w = width kind in
    ap (λ n. numbers kind (suc m) (take n bytes)) (let e : suc m * w ≡ w + m * w = (let s = suc-mul m w in omega arith) in e)
    ∙ ap (λ front. number kind front ∷ numbers kind m (drop w (take (w + m * w) bytes))) (take-take w (w + m * w) bytes (omega arith))
    ∙ ap (λ rest. number kind (take w bytes) ∷ numbers kind m rest) (drop-take w (m * w) bytes)
    ∙ ap (λ rest. number kind (take w bytes) ∷ rest) (numbers-take kind m (drop w bytes))

-- the samples of so many bytes
pub samples_of-take : (kind : SampleType) (m n : ℕ) (bytes part : List ℕ) → n ≡ m * width kind → part ≡ take n bytes → length part ≡ m * width kind
    → samples_of kind part ≡ numbers kind m bytes
samples_of-take kind m n bytes part e is long =
    ap (λ k. numbers kind k part) (ap (λ l. l / width kind) long ∙ mul-div_cancel m (width-positive kind))
    ∙ ap (numbers kind m) (is ∙ ap (λ k. take k bytes) e) ∙ numbers-take kind m bytes

-- how many samples lie on each side of a place between two
pub side_counts : (kind : SampleType) (k : ℕ) (bytes first second : List ℕ) → k ≤ length bytes / width kind
    → first ≡ take (k * width kind) bytes → second ≡ drop (k * width kind) bytes
    → (length first ≡ k * width kind) × (length first / width kind ≡ k) × (length bytes / width kind ≡ k + length second / width kind)
side_counts kind k bytes first second within one two =
    let w = width kind in
    let fits : k * w ≤ length bytes = (let p = mul-le-mul_right w within in let q = div-mul-le_self (length bytes) w in omega (arith, p, q)) in
    let long : length first ≡ k * w = ap length one ∙ length-take-le (k * w) bytes fits in
    let rest : length second ≡ length bytes - k * w = ap length two ∙ length-drop (k * w) bytes in
    let whole : length bytes ≡ k * w + length second = omega (arith, fits, rest) in (
      long,
      ap (λ l. l / w) long ∙ mul-div_cancel k (width-positive kind),
      ap (λ l. l / w) whole ∙ mul-add-div_right (width-positive kind) k (length second),
    )

-- the samples of a front and all behind it
pub samples_behind : (kind : SampleType) (k : ℕ) (bytes : List ℕ) → k ≤ length bytes / width kind
    → samples_of kind bytes ≡ numbers kind k bytes ++ samples_of kind (drop (k * width kind) bytes)
samples_behind kind k bytes within =
    let w = width kind in
    let counts = side_counts kind k bytes (take (k * w) bytes) (drop (k * w) bytes) within refl refl in
    ap (λ n. numbers kind n bytes) counts.2 ∙ numbers-split kind k (length (drop (k * w) bytes) / w) bytes

-- a slice from an index on
pub slice_behind : {X : Type 0} (at : ℕ) (xs : List X) → take (length xs - at) (drop at xs) ≡ drop at xs
slice_behind at xs = let long = length-drop at xs in take_all (length xs - at) (drop at xs) (omega (arith, long))

-- one of the samples
pub get_or-numbers : (kind : SampleType) (n k : ℕ) (bytes : List ℕ) → k < n → get_or (numbers kind n bytes) k (pos 0) ≡ stored kind bytes k
get_or-numbers kind zero k bytes h = absurd (omega arith)
get_or-numbers kind (suc n) zero bytes h = ap (λ m. number kind (take (width kind) (drop m bytes))) (sym (zero-mul (width kind)))
get_or-numbers kind (suc n) (suc k) bytes h =
    let w = width kind in
    get_or-numbers kind n k (drop w bytes) (omega arith)
    ∙ ap (λ rest. number kind (take w rest)) (drop-drop (k * w) w bytes
    ∙ ap (λ m. drop m bytes) (let e : k * w + w ≡ suc k * w = (let s = suc-mul k w in omega arith) in let f : w + k * w ≡ suc k * w = omega arith in f))

-- a sample behind others
pub stored_behind : (kind : SampleType) (k m : ℕ) (bytes : List ℕ) → stored kind (drop (k * width kind) bytes) m ≡ stored kind bytes (k + m)
stored_behind kind k m bytes =
    let w = width kind in
    ap (λ rest. number kind (take w rest)) (drop-drop (m * w) (k * w) bytes ∙ ap (λ n. drop n bytes) (sym (add-mul k m w)))
