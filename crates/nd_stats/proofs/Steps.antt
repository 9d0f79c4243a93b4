-- Tables of one sample more.
use Rattle.std.proofs.Common.{◌≡◌, ◌≢◌, ℕ, ◌+◌, ◌<◌, ◌&&◌, ◌==◌, not, Bool, true, false, List, [], ◌∷◌, ◌++◌, length, filter, refl, ap, sym, ◌∙◌, arith, ℤ}
use Rattle.std.proofs.Common.{pos, ◌+ℤ◌, ◌≤ℤ◌, get_or, add-zero}
use Rattle.std.specs.Prelude.{int_lt, if◌then◌else◌}
use Rattle.std.proofs.lemmas.Int.{ints}
use Rattle.std.proofs.lemmas.Bool.{ne_eqb, eq-eqb, eqb-true}
use Rattle.std.proofs.Math.IntN.{+ℤ_idr}
use Rattle.nd_base.specs.declared.array.Dim.{Dim}
use Rattle.nd_base.specs.declared.graph.StatsRule.{StatsRule}
use Rattle.nd_base.specs.GraphRules.{IsStats}
use Rattle.nd_base.specs.Places.{index_in}
use Rattle.nd_stats.specs.Samples.{Sample, table}
use Rattle.nd_stats.specs.Measured.{count_where, value_where, has_index, has_histogram, is_in_bin, bin_of}
use Rattle.nd_stats.specs.Tallies.{added_at, bins_after}
use Rattle.nd_stats.proofs.Sums.{sum_where-more, count-more}
use Rattle.nd_stats.proofs.Tables.{get_or-table, set-table, table-same}
use Rattle.nd_stats.proofs.Bins.{bin_of_range}

value_here : (v w : ℤ) (test : Bool) → test ≡ true → v +ℤ (if test then w else pos 0) ≡ v +ℤ w
value_here v w test h = rw h refl

value_elsewhere : (v w : ℤ) (test : Bool) → test ≡ false → v +ℤ (if test then w else pos 0) ≡ v
value_elsewhere v w test h = rw h (+ℤ_idr v)

-- a profile of one sample more
pub profile-more : (dims : List Dim) (d n : ℕ) (xs : List Sample) (s : Sample) → index_in dims d s.place < n
    → added_at (table (λ k. value_where (has_index dims d k) xs) 0 n) (index_in dims d s.place) s.value
    ≡ table (λ k. value_where (has_index dims d k) (xs ++ s ∷ [])) 0 n
profile-more dims d n xs s within =
    let at = index_in dims d s.place in
    let f : ℕ → ℤ = λ k. value_where (has_index dims d k) xs in
    let g : ℕ → ℤ = λ k. value_where (has_index dims d k) (xs ++ s ∷ []) in
    let there : 0 + at ≡ at = omega arith in
    let here : g (0 + at) ≡ get_or (table f 0 n) at (pos 0) +ℤ s.value =
    sum_where-more (has_index dims d (0 + at)) (λ t. t.value) xs s
    ∙ value_here (f (0 + at)) s.value (at == (0 + at)) (eq-eqb at (0 + at) (sym there))
    ∙ ap (λ v. v +ℤ s.value) (sym (get_or-table f 0 n at (pos 0) within)) in
    set-table f g 0 n at (get_or (table f 0 n) at (pos 0) +ℤ s.value) within here
    (λ j ne. sym (sum_where-more (has_index dims d j) (λ t. t.value) xs s
    ∙ value_elsewhere (f j) s.value (at == j) (ne_eqb at j (λ e. ne (sym e ∙ sym there)))))

count_elsewhere : (m : ℕ) (test : Bool) → test ≡ false → pos (m + (if test then 1 else 0)) ≡ pos m
count_elsewhere m test h = rw h (ap pos (omega arith))

count_here : (m : ℕ) (test : Bool) → test ≡ true → pos (m + (if test then 1 else 0)) ≡ pos m +ℤ pos 1
count_here m test h = rw h refl

not_below : (v w : ℤ) → not (int_lt v w) ≡ true → w ≤ℤ v
not_below v w h = grind (arith, ints)

-- the bins of one sample more, where it is in the histogram's range or not
bins_by : (rule : StatsRule) (xs : List Sample) (s : Sample) → IsStats rule → (some low high : Bool) → some ≡ has_histogram rule
    → low ≡ not (int_lt s.value rule.hist_lo) → high ≡ not (int_lt rule.hist_hi s.value) →
    (if some && (low && high) then added_at (table (λ k. pos (count_where (is_in_bin rule k) xs)) 0 rule.hist_size) (bin_of rule s.value)
    (pos 1) else table (λ k. pos (count_where (is_in_bin rule k) xs)) 0 rule.hist_size)
    ≡ table (λ k. pos (length (filter (is_in_bin rule k) xs) + (if low && high && (bin_of rule s.value == k) then 1 else 0))) 0 rule.hist_size
bins_by rule xs s stats false low high e f g =
    let none : rule.hist_size ≡ 0 = eqb-true rule.hist_size 0 (not_false (rule.hist_size == 0) (sym e)) in
    rw none refl
  where
    not_false : (b : Bool) → not b ≡ false → b ≡ true
    not_false true h = refl
    not_false false h = absurd (cc)
bins_by rule xs s stats true false high e f g = table-same _ _ 0 rule.hist_size (λ k h. ap pos (sym (add-zero (length (filter (is_in_bin rule k) xs)))))
bins_by rule xs s stats true true false e f g = table-same _ _ 0 rule.hist_size (λ k h. ap pos (sym (add-zero (length (filter (is_in_bin rule k) xs)))))
bins_by rule xs s stats true true true e f g =
    let at = bin_of rule s.value in
    let n = rule.hist_size in
    let old : ℕ → ℤ = λ k. pos (count_where (is_in_bin rule k) xs) in
    let new : ℕ → ℤ = λ k. pos (length (filter (is_in_bin rule k) xs) + (if at == k then 1 else 0)) in
    let there : 0 + at ≡ at = omega arith in
    let some : n ≢ 0 = (λ z. some_histogram n z (sym e)) in
    let within : at < n = bin_of_range rule s.value stats some (not_below s.value rule.hist_lo (sym f)) (not_below rule.hist_hi s.value (sym g)) in
    let here : new (0 + at) ≡ get_or (table old 0 n) at (pos 0) +ℤ pos 1 =
    count_here (length (filter (is_in_bin rule (0 + at)) xs)) (at == (0 + at)) (eq-eqb at (0 + at) (sym there))
    ∙ ap (λ v. v +ℤ pos 1) (sym (get_or-table old 0 n at (pos 0) within)) in
    set-table old new 0 n at (get_or (table old 0 n) at (pos 0) +ℤ pos 1) within here
    (λ j ne. sym (count_elsewhere (length (filter (is_in_bin rule j) xs)) (at == j) (ne_eqb at j (λ z. ne (sym z ∙ sym there)))))
  where
    some_histogram : (n : ℕ) → n ≡ 0 → not (n == 0) ≡ true → ⊥
    some_histogram n z h = grind arith

pub bins-more : (rule : StatsRule) (xs : List Sample) (s : Sample) → IsStats rule
    → bins_after rule s.value (table (λ k. pos (count_where (is_in_bin rule k) xs)) 0 rule.hist_size)
    ≡ table (λ k. pos (count_where (is_in_bin rule k) (xs ++ s ∷ []))) 0 rule.hist_size
bins-more rule xs s stats =
    bins_by rule xs s stats (has_histogram rule) (not (int_lt s.value rule.hist_lo)) (not (int_lt rule.hist_hi s.value)) refl refl refl
    ∙ table-same _ _ 0 rule.hist_size (λ k h. ap pos (sym (count-more (is_in_bin rule k) xs s)))
