-- Tables of numbers.
use Rattle.std.proofs.Common.{◌≡◌, ◌≢◌, ℕ, zero, suc, ◌+◌, ◌<◌, ◌≤◌, List, ◌∷◌, length, get_or, refl, ap, sym, ◌∙◌, arith, set, ℤ, pos}
use Rattle.std.specs.Prelude.{◌++◌, ◌+ℤ◌, take, drop}
use Rattle.std.proofs.lemmas.List.{length-set}
use Rattle.std.proofs.Math.Seq.{take-append_seam}
use Rattle.nd_stats.specs.Samples.{table}
use Rattle.nd_stats.specs.Tallies.{added_at}

pub length-table : (f : ℕ → ℤ) (k n : ℕ) → length (table f k n) ≡ n
length-table f k zero = refl
length-table f k (suc n) = ap suc (length-table f (k + 1) n)

pub get_or-table : (f : ℕ → ℤ) (k n at : ℕ) (d : ℤ) → at < n → get_or (table f k n) at d ≡ f (k + at)
get_or-table f k zero at d h = absurd (omega arith)
get_or-table f k (suc n) zero d h = ap f (omega arith)
get_or-table f k (suc n) (suc at) d h = get_or-table f (k + 1) n at d (omega arith) ∙ ap f (omega arith)

pub table-same : (f g : ℕ → ℤ) (k n : ℕ) → ((j : ℕ) → k ≤ j → f j ≡ g j) → table f k n ≡ table g k n
table-same f g k zero same = refl
table-same f g k (suc n) same = ap (λ v. v ∷ table f (k + 1) n) (same k (omega arith))
    ∙ ap (λ rest. g k ∷ rest) (table-same f g (k + 1) n (λ j h. same j (omega arith)))

-- a table with one number changed
pub set-table : (f g : ℕ → ℤ) (k n at : ℕ) (v : ℤ) → at < n → g (k + at) ≡ v → ((j : ℕ) → j ≢ k + at → f j ≡ g j) → set (table f k n) at v ≡ table g k n
set-table f g k zero at v h here others = absurd (omega arith)
set-table f g k (suc n) zero v h here others =
    ap (λ w. w ∷ table f (k + 1) n) (sym here ∙ ap g (omega arith))
    ∙ ap (λ rest. g k ∷ rest) (table-same f g (k + 1) n (λ j h. others j (λ e. omega arith)))
set-table f g k (suc n) (suc at) v h here others =
    ap (λ w. w ∷ set (table f (k + 1) n) at v) (others k (λ e. omega arith))
    ∙ ap (λ rest. g k ∷ rest) (set-table f g (k + 1) n at v (omega arith) (ap g (omega arith) ∙ here) (λ j ne. others j (λ e. ne (omega arith))))

-- a list of sums whose slice was written as a whole
pub slice_whole : (items sums : List ℤ) (len : ℕ) → length items ≡ len → length sums ≡ length items → take len (sums ++ drop (length sums) items) ≡ sums
slice_whole items sums len e same =
    ap (λ n. take n (sums ++ drop (length sums) items)) (sym (same ∙ e)) ∙ take-append_seam sums (drop (length sums) items)

-- the same where one sum was added to
pub slice_written : (items sums : List ℤ) (len at : ℕ) (v : ℤ) → length items ≡ len → sums ≡ added_at items at v
    → take len (sums ++ drop (length sums) items) ≡ added_at items at v
slice_written items sums len at v e h =
    slice_whole items sums len e (ap length h ∙ length-set items at (get_or items at (pos 0) +ℤ v)) ∙ h
