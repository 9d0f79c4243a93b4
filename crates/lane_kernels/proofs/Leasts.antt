-- Least and greatest samples.
use Rattle.std.proofs.Common.{◌≡◌, ℕ, zero, suc, ◌+◌, ◌<◌, List, [], ◌∷◌, ◌++◌, take, drop, refl, ap, ◌∙◌, arith, ℤ, ◌+ℤ◌, Some}
use Rattle.std.specs.Int.{int_min, int_max}
use Rattle.std.proofs.lemmas.Int.{ints, int_min_is, int_max_is}
use Rattle.std.proofs.Math.Nat.{zero-mul}
use Rattle.nd_base.specs.declared.array.SampleType.{SampleType}
use Rattle.nd_base.specs.Samples.{width, number, numbers}
use Rattle.lane_kernels.specs.Plain.{min_max, least_with, greatest_with, stored}
use Rattle.lane_kernels.specs.declared.extremes.MinMax.{MinMax}
use Rattle.lane_kernels.proofs.Samples.{numbers-more}

pub stored-first : (kind : SampleType) (bytes : List ℕ) → stored kind bytes 0 ≡ number kind (take (width kind) bytes)
stored-first kind bytes = ap (λ n. number kind (take (width kind) (drop n bytes))) (zero-mul (width kind))

min_assoc : (a b c : ℤ) → int_min a (int_min b c) ≡ int_min (int_min a b) c
min_assoc a b c = grind (arith, ints)

pub min_shift : (a b o : ℤ) → int_min a b +ℤ o ≡ int_min (a +ℤ o) (b +ℤ o)
min_shift a b o = omega (arith, ints, int_min_is)

least_by_last : (v : ℤ) (us : List ℤ) (w : ℤ) → least_with v (us ++ w ∷ []) ≡ int_min (least_with v us) w
least_by_last v [] w = refl
least_by_last v (u ∷ us) w = ap (int_min v) (least_by_last u us w) ∙ min_assoc v (least_with u us) w

-- the least with one sample more
pub least-more : (v : ℤ) (kind : SampleType) (k : ℕ) (bytes : List ℕ)
    → least_with v (numbers kind (k + 1) bytes) ≡ int_min (least_with v (numbers kind k bytes)) (stored kind bytes k)
least-more v kind k bytes =
    ap (λ n. least_with v (numbers kind n bytes)) (let e : k + 1 ≡ suc k = omega arith in e) ∙ ap (least_with v) (numbers-more kind k bytes)
    ∙ least_by_last v (numbers kind k bytes) (stored kind bytes k)

min_self : (v x : ℤ) → int_min v (int_min v x) ≡ int_min v x
min_self v x = grind (arith, ints)

min_same : (v : ℤ) → int_min v v ≡ v
min_same v = grind (arith, ints)

pub least_again : (v : ℤ) (vs : List ℤ) → least_with v (v ∷ vs) ≡ least_with v vs
least_again v [] = min_same v
least_again v (w ∷ vs) = min_self v (least_with w vs)

max_assoc : (a b c : ℤ) → int_max a (int_max b c) ≡ int_max (int_max a b) c
max_assoc a b c = grind (arith, ints)

pub max_shift : (a b o : ℤ) → int_max a b +ℤ o ≡ int_max (a +ℤ o) (b +ℤ o)
max_shift a b o = omega (arith, ints, int_max_is)

greatest_by_last : (v : ℤ) (us : List ℤ) (w : ℤ) → greatest_with v (us ++ w ∷ []) ≡ int_max (greatest_with v us) w
greatest_by_last v [] w = refl
greatest_by_last v (u ∷ us) w = ap (int_max v) (greatest_by_last u us w) ∙ max_assoc v (greatest_with u us) w

-- the greatest with one sample more
pub greatest-more : (v : ℤ) (kind : SampleType) (k : ℕ) (bytes : List ℕ)
    → greatest_with v (numbers kind (k + 1) bytes) ≡ int_max (greatest_with v (numbers kind k bytes)) (stored kind bytes k)
greatest-more v kind k bytes =
    ap (λ n. greatest_with v (numbers kind n bytes)) (let e : k + 1 ≡ suc k = omega arith in e) ∙ ap (greatest_with v) (numbers-more kind k bytes)
    ∙ greatest_by_last v (numbers kind k bytes) (stored kind bytes k)

max_self : (v x : ℤ) → int_max v (int_max v x) ≡ int_max v x
max_self v x = grind (arith, ints)

max_same : (v : ℤ) → int_max v v ≡ v
max_same v = grind (arith, ints)

pub greatest_again : (v : ℤ) (vs : List ℤ) → greatest_with v (v ∷ vs) ≡ greatest_with v vs
greatest_again v [] = max_same v
greatest_again v (w ∷ vs) = max_self v (greatest_with w vs)

-- a list begins with its first sample
pub min_max_all : (kind : SampleType) (n : ℕ) (bytes : List ℕ) (ends : MinMax) → 0 < n
    → ends.min ≡ least_with (stored kind bytes 0) (numbers kind n bytes) → ends.max ≡ greatest_with (stored kind bytes 0) (numbers kind n bytes)
    → Some ends ≡ min_max (numbers kind n bytes)
min_max_all kind zero bytes ends h e f = absurd (omega arith)
min_max_all kind (suc n) bytes ends h e f =
    let first = number kind (take (width kind) bytes) in
    let rest = numbers kind n (drop (width kind) bytes) in
    let min = e ∙ ap (λ v. least_with v (numbers kind (suc n) bytes)) (stored-first kind bytes) ∙ least_again first rest in
    let max = f ∙ ap (λ v. greatest_with v (numbers kind (suc n) bytes)) (stored-first kind bytes) ∙ greatest_again first rest in
    ap (λ m. Some (record { min = m; max = ends.max })) min ∙ ap (λ m. Some (record { min = least_with first rest; max = m })) max
