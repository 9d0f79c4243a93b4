-- The samples of a line that reach a threshold, at other places.
use Rattle.std.proofs.Common.{◌≡◌, ℕ, ◌+◌, ◌≤◌, List, [], ◌∷◌, length, refl, ap, sym, ◌∙◌, arith, ℤ, pos, ◌+ℤ◌, ◌*ℤ◌, Bool, true, false, not}
use Rattle.std.specs.Prelude.{int_lt}
use Rattle.std.proofs.Math.IntN.{*ℤ-zero, +ℤ_idr}
use Rattle.std.proofs.lemmas.Int.{ints}
use Rattle.nd_base.specs.declared.array.Dim.{Dim}
use Rattle.nd_base.specs.declared.graph.StatsRule.{StatsRule}
use Rattle.nd_base.specs.Places.{index_in, size_in}
use Rattle.nd_stats.specs.Samples.{Sample, placed}
use Rattle.nd_stats.specs.Measured.{count_where, value_where, is_over, moment}
use Rattle.nd_stats.specs.Tallies.{counted, one_if}
use Rattle.nd_stats.specs.Over.{reaches, weighted}
use Rattle.nd_stats.proofs.Sums.{count-first, sum_where-first}
use Rattle.nd_stats.proofs.Products.{sum-times, times-sum}
use Rattle.nd_stats.proofs.Places.{next_x, next_y}

-- counts and sums don't ask for the places
pub count_moved : (t : ℤ) (i j : ℕ) (vs : List ℤ) → count_where (reaches t) (placed i vs) ≡ count_where (reaches t) (placed j vs)
count_moved t i j [] = refl
count_moved t i j (v ∷ vs) =
    count-first (reaches t) (record { place = i; value = v }) (placed (i + 1) vs)
    ∙ ap (λ n. one_if (not (int_lt v t)) + n) (count_moved t (i + 1) (j + 1) vs)
    ∙ sym (count-first (reaches t) (record { place = j; value = v }) (placed (j + 1) vs))

pub value_moved : (t : ℤ) (i j : ℕ) (vs : List ℤ) → value_where (reaches t) (placed i vs) ≡ value_where (reaches t) (placed j vs)
value_moved t i j [] = refl
value_moved t i j (v ∷ vs) =
    sum_where-first (reaches t) (λ s. s.value) (record { place = i; value = v }) (placed (i + 1) vs)
    ∙ ap (λ n. counted (not (int_lt v t)) v +ℤ n) (value_moved t (i + 1) (j + 1) vs)
    ∙ sym (sum_where-first (reaches t) (λ s. s.value) (record { place = j; value = v }) (placed (j + 1) vs))

regroup : (a b w d : ℤ) → (a +ℤ b) +ℤ (w +ℤ d) ≡ (b +ℤ w) +ℤ (a +ℤ d)
regroup a b w d = omega (arith, ints)

skip : (w d : ℤ) → pos 0 +ℤ (w +ℤ d) ≡ (pos 0 +ℤ w) +ℤ d
skip w d = omega (arith, ints)

none_first : (d : ℤ) → d ≡ pos 0 +ℤ d
none_first d = omega (arith, ints)

moved_step : (b : Bool) (k j : ℕ) (v w d : ℤ)
    → counted b (pos (k + j) *ℤ v) +ℤ (w +ℤ (pos k *ℤ d)) ≡ (counted b (pos j *ℤ v) +ℤ w) +ℤ (pos k *ℤ (counted b v +ℤ d))
moved_step true k j v w d = ap (λ z. z +ℤ (w +ℤ (pos k *ℤ d))) (sum-times k j v) ∙ regroup (pos k *ℤ v) (pos j *ℤ v) w (pos k *ℤ d)
    ∙ ap (λ z. ((pos j *ℤ v) +ℤ w) +ℤ z) (sym (times-sum k v d))
moved_step false k j v w d = skip w (pos k *ℤ d) ∙ ap (λ z. (pos 0 +ℤ w) +ℤ (pos k *ℤ z)) (none_first d)

-- the weighted sum of samples that lie k places further
pub weighted_moved : (t : ℤ) (k j : ℕ) (vs : List ℤ)
    → weighted t (placed (k + j) vs) ≡ weighted t (placed j vs) +ℤ (pos k *ℤ value_where (reaches t) (placed j vs))
weighted_moved t k j [] = sym (ap (λ z. pos 0 +ℤ z) (*ℤ-zero (pos k)) ∙ +ℤ_idr (pos 0))
weighted_moved t k j (v ∷ vs) =
    let b = not (int_lt v t) in
    let far : Sample = record { place = k + j; value = v } in
    let near : Sample = record { place = j; value = v } in
    sum_where-first (reaches t) (λ s. pos s.place *ℤ s.value) far (placed (k + j + 1) vs)
    ∙ ap (λ n. counted b (pos (k + j) *ℤ v) +ℤ weighted t (placed n vs)) (let e : k + j + 1 ≡ k + (j + 1) = omega arith in e)
    ∙ ap (λ z. counted b (pos (k + j) *ℤ v) +ℤ z) (weighted_moved t k (j + 1) vs)
    ∙ moved_step b k j v (weighted t (placed (j + 1) vs)) (value_where (reaches t) (placed (j + 1) vs))
    ∙ ap (λ z. z +ℤ (pos k *ℤ (counted b v +ℤ value_where (reaches t) (placed (j + 1) vs))))
    (sym (sum_where-first (reaches t) (λ s. pos s.place *ℤ s.value) near (placed (j + 1) vs)))
    ∙ ap (λ z. weighted t (placed j (v ∷ vs)) +ℤ (pos k *ℤ z)) (sym (sum_where-first (reaches t) (λ s. s.value) near (placed (j + 1) vs)))

along_from : (rule : StatsRule) (dims : List Dim) (p x : ℕ) (v : ℤ) (vs : List ℤ) → index_in dims 0 p ≡ x
    → moment rule dims 0 (placed (p + 1) vs) ≡ weighted rule.threshold (placed (x + 1) vs)
    → moment rule dims 0 (placed p (v ∷ vs)) ≡ weighted rule.threshold (placed x (v ∷ vs))
along_from rule dims p x v vs at rest =
    let b = not (int_lt v rule.threshold) in
    sum_where-first (is_over rule) (λ s. pos (index_in dims 0 s.place) *ℤ s.value) (record { place = p; value = v }) (placed (p + 1) vs)
    ∙ ap (λ n. counted b (pos n *ℤ v) +ℤ moment rule dims 0 (placed (p + 1) vs)) at
    ∙ ap (λ z. counted b (pos x *ℤ v) +ℤ z) rest
    ∙ sym (sum_where-first (reaches rule.threshold) (λ s. pos s.place *ℤ s.value) (record { place = x; value = v }) (placed (x + 1) vs))

-- along a line the indices in dimension 0 rise
pub moment_along : (rule : StatsRule) (dims : List Dim) (p x : ℕ) (vs : List ℤ) → index_in dims 0 p ≡ x → x + length vs ≤ size_in dims 0
    → moment rule dims 0 (placed p vs) ≡ weighted rule.threshold (placed x vs)
moment_along rule dims p x [] at fits = refl
moment_along rule dims p x (v ∷ []) at fits = along_from rule dims p x v [] at refl
moment_along rule dims p x (v ∷ w ∷ vs) at fits =
    along_from rule dims p x v (w ∷ vs) at (moment_along rule dims (p + 1) (x + 1) (w ∷ vs) (next_x dims p (omega arith) ∙ ap (λ n. n + 1) at) (omega arith))

row_step : (b : Bool) (y : ℕ) (v d : ℤ) → counted b (pos y *ℤ v) +ℤ (pos y *ℤ d) ≡ pos y *ℤ (counted b v +ℤ d)
row_step true y v d = sym (times-sum y v d)
row_step false y v d = sym (none_first (pos y *ℤ d)) ∙ ap (λ z. pos y *ℤ z) (none_first d)

across_from : (rule : StatsRule) (dims : List Dim) (p y : ℕ) (v : ℤ) (vs : List ℤ) → index_in dims 1 p ≡ y
    → moment rule dims 1 (placed (p + 1) vs) ≡ pos y *ℤ value_where (is_over rule) (placed (p + 1) vs)
    → moment rule dims 1 (placed p (v ∷ vs)) ≡ pos y *ℤ value_where (is_over rule) (placed p (v ∷ vs))
across_from rule dims p y v vs at rest =
    let b = not (int_lt v rule.threshold) in
    let s : Sample = record { place = p; value = v } in
    sum_where-first (is_over rule) (λ s. pos (index_in dims 1 s.place) *ℤ s.value) s (placed (p + 1) vs)
    ∙ ap (λ n. counted b (pos n *ℤ v) +ℤ moment rule dims 1 (placed (p + 1) vs)) at
    ∙ ap (λ z. counted b (pos y *ℤ v) +ℤ z) rest
    ∙ row_step b y v (value_where (is_over rule) (placed (p + 1) vs))
    ∙ ap (λ z. pos y *ℤ z) (sym (sum_where-first (is_over rule) (λ s. s.value) s (placed (p + 1) vs)))

-- and those in dimension 1 stay
pub moment_across : (rule : StatsRule) (dims : List Dim) (p x y : ℕ) (vs : List ℤ) → index_in dims 0 p ≡ x → index_in dims 1 p ≡ y
    → x + length vs ≤ size_in dims 0 → moment rule dims 1 (placed p vs) ≡ pos y *ℤ value_where (is_over rule) (placed p vs)
moment_across rule dims p x y [] at row fits = sym (*ℤ-zero (pos y))
moment_across rule dims p x y (v ∷ []) at row fits = across_from rule dims p y v [] row (sym (*ℤ-zero (pos y)))
moment_across rule dims p x y (v ∷ w ∷ vs) at row fits =
    across_from rule dims p y v (w ∷ vs) row (moment_across rule dims (p + 1) (x + 1) y (w ∷ vs) (next_x dims p (omega arith)
    ∙ ap (λ n. n + 1) at) (next_y dims p (omega arith) ∙ row) (omega arith))
