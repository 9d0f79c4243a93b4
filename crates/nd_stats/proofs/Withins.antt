-- Sums of which none is further from 0 than some number.
use Rattle.std.proofs.Common.{◌≡◌, ℕ, zero, suc, ◌<◌, ◌≤◌, List, [], ◌∷◌, get_or, set, subst, arith, ℤ, pos}
use Rattle.std.specs.Prelude.{unsigned_abs}
use Rattle.nd_stats.specs.Samples.{table}
use Rattle.nd_stats.specs.Running.{AreWithin}
use Rattle.nd_stats.proofs.Tables.{get_or-table, length-table}

-- with one of them written anew
pub within_set : (sums : List ℤ) (at : ℕ) (v : ℤ) (most : ℕ) → AreWithin most sums → unsigned_abs v ≤ most → AreWithin most (set sums at v)
within_set [] at v most h e k b = absurd (omega (arith, b))
within_set (x ∷ xs) zero v most h e zero b = e
within_set (x ∷ xs) zero v most h e (suc k) b = h (suc k) (omega (arith, b))
within_set (x ∷ xs) (suc at) v most h e zero b = h 0 (omega arith)
within_set (x ∷ xs) (suc at) v most h e (suc k) b = within_set xs at v most (λ j d. h (suc j) (omega (arith, d))) e k (omega (arith, b))

-- sums of nothing
pub within_blank : (n : ℕ) → AreWithin 0 (table (λ _. pos 0) 0 n)
within_blank n k b =
    let zeros : get_or (table (λ _. pos 0) 0 n) k (pos 0) ≡ pos 0 = get_or-table (λ _. pos 0) 0 n k (pos 0) (subst (λ m. k < m) (length-table (λ _. pos 0) 0 n) b) in
    rw zeros (omega arith)
