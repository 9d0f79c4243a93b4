-- Products of whole numbers with a natural one.
use Rattle.std.proofs.Common.{◌≡◌, ℕ, zero, suc, ◌+◌, ◌*◌, refl, ap, sym, ◌∙◌, arith, ℤ, pos, negsuc, ◌+ℤ◌, ◌*ℤ◌}
use Rattle.std.specs.Prelude.{neg_ℤ}
use Rattle.std.proofs.Math.Nat.{add-mul}
use Rattle.std.proofs.Math.IntN.{zero-*ℤ, *ℤ-zero, suc_ℤ-*ℤ}
use Rattle.std.proofs.lemmas.Int.{ints}

neg_sum : (m n : ℕ) → neg_ℤ (pos (m + n)) ≡ neg_ℤ (pos m) +ℤ neg_ℤ (pos n)
neg_sum m n = omega (arith, ints)

regroup : (a b c d : ℤ) → (a +ℤ b) +ℤ (c +ℤ d) ≡ (a +ℤ c) +ℤ (b +ℤ d)
regroup a b c d = omega (arith, ints)

no_sum : pos 0 ≡ pos 0 +ℤ pos 0
no_sum = refl

-- the sum of two natural numbers, times a number
pub sum-times : (k j : ℕ) (v : ℤ) → pos (k + j) *ℤ v ≡ (pos k *ℤ v) +ℤ (pos j *ℤ v)
sum-times k j (pos b) = ap pos (add-mul k j b)
sum-times k j (negsuc b) = ap (λ n. neg_ℤ (pos n)) (add-mul k j (suc b)) ∙ neg_sum (k * suc b) (j * suc b)

-- a natural number, times the sum of two numbers
pub times-sum : (k : ℕ) (v w : ℤ) → pos k *ℤ (v +ℤ w) ≡ (pos k *ℤ v) +ℤ (pos k *ℤ w)
times-sum zero v w = zero-*ℤ (v +ℤ w) ∙ no_sum ∙ ap (λ z. z +ℤ pos 0) (sym (zero-*ℤ v)) ∙ ap (λ z. (pos 0 *ℤ v) +ℤ z) (sym (zero-*ℤ w))
times-sum (suc k) v w =
    suc_ℤ-*ℤ (pos k) (v +ℤ w) ∙ ap (λ z. z +ℤ (v +ℤ w)) (times-sum k v w) ∙ regroup (pos k *ℤ v) (pos k *ℤ w) v w
    ∙ ap (λ z. z +ℤ ((pos k *ℤ w) +ℤ w)) (sym (suc_ℤ-*ℤ (pos k) v)) ∙ ap (λ z. (pos (suc k) *ℤ v) +ℤ z) (sym (suc_ℤ-*ℤ (pos k) w))

-- two natural numbers, one after the other
times_swap : (j k : ℕ) (v : ℤ) → pos j *ℤ (pos k *ℤ v) ≡ pos k *ℤ (pos j *ℤ v)
times_swap j zero v = ap (λ z. pos j *ℤ z) (zero-*ℤ v) ∙ *ℤ-zero (pos j) ∙ sym (zero-*ℤ (pos j *ℤ v))
times_swap j (suc k) v =
    ap (λ z. pos j *ℤ z) (suc_ℤ-*ℤ (pos k) v) ∙ times-sum j (pos k *ℤ v) v ∙ ap (λ z. z +ℤ (pos j *ℤ v)) (times_swap j k v)
    ∙ sym (suc_ℤ-*ℤ (pos k) (pos j *ℤ v))

-- a number in two parts, added to one in two parts
pub parts_added : (j : ℕ) (high low a b v : ℤ) → v ≡ b +ℤ (pos j *ℤ a) → (low +ℤ b) +ℤ (pos j *ℤ (high +ℤ a)) ≡ (low +ℤ (pos j *ℤ high)) +ℤ v
parts_added j high low a b v e =
    ap (λ z. (low +ℤ b) +ℤ z) (times-sum j high a) ∙ regroup low b (pos j *ℤ high) (pos j *ℤ a) ∙ ap (λ z. (low +ℤ (pos j *ℤ high)) +ℤ z) (sym e)

-- a number in two parts, times a natural one
pub parts_times : (j k : ℕ) (a b v : ℤ) → v ≡ b +ℤ (pos j *ℤ a) → pos k *ℤ v ≡ (pos k *ℤ b) +ℤ (pos j *ℤ (pos k *ℤ a))
parts_times j k a b v e = ap (λ z. pos k *ℤ z) e ∙ times-sum k b (pos j *ℤ a) ∙ ap (λ z. (pos k *ℤ b) +ℤ z) (times_swap k j a)
