-- The numbers of some samples and of later ones.
use Rattle.std.proofs.Common.{◌≡◌, ℕ, ◌+◌, ◌*◌, ◌<◌, ◌≤◌, List, [], ◌∷◌, ◌++◌, length, map, ap, sym, ◌∙◌, arith, ℤ, Bool}
use Rattle.std.specs.Prelude.{int_lt, if◌then◌else◌}
use Rattle.std.specs.Int.{int_min, int_max}
use Rattle.std.specs.List.{range_with_len}
use Rattle.std.proofs.Math.Nat.{one-le-mul}
use Rattle.std.proofs.lemmas.Int.{ints}
use Rattle.std.proofs.lemmas.List.{map-append}
use Rattle.std.proofs.lemmas.List.FromFn.{length-map-range_with_len}
use Rattle.nd_base.specs.PlaceLaws.{range-split}
use Rattle.nd_stats.specs.Samples.{Sample, placed, least_from, greatest_from}
use Rattle.nd_stats.specs.MergingLaws.{placed-append, length-placed}
use Rattle.nd_stats.proofs.Sums.{sum_of-append, sum_where-append, count-append, least-both, greatest-both}
use Rattle.nd_series.specs.declared.row.Part.{Part}
use Rattle.nd_series.specs.declared.span.Span.{Span}
use Rattle.nd_series.specs.Spans.{is_at_edge, value_at, values_at}
use Rattle.nd_series.specs.InPlace.{numbers_of, placed_at}
use Rattle.nd_series.specs.Joined.{joined}

-- numbers that agree one by one
pub part_same : (p q : Part) → p.min ≡ q.min → p.max ≡ q.max → p.total ≡ q.total → p.border ≡ q.border → p.border_n ≡ q.border_n → p ≡ q
part_same p q a b c d e =
    ap (λ m. let r : Part = record p { min = m } in r) a
    ∙ ap (λ m. let r : Part = record p { min = q.min; max = m } in r) b
    ∙ ap (λ m. let r : Part = record p { min = q.min; max = q.max; total = m } in r) c
    ∙ ap (λ m. let r : Part = record p { min = q.min; max = q.max; total = q.total; border = m } in r) d
    ∙ ap (λ m. let r : Part = record p { min = q.min; max = q.max; total = q.total; border = q.border; border_n = m } in r) e

lesser_is : (v w : ℤ) → (if int_lt w v then w else v) ≡ int_min v w
lesser_is v w = grind (arith, ints)

greater_is : (v w : ℤ) → (if int_lt v w then w else v) ≡ int_max v w
greater_is v w = grind (arith, ints)

pub numbers-append : (spans : List Span) (xs ys : List Sample) → 0 < length xs → 0 < length ys
    → numbers_of spans (xs ++ ys) ≡ joined (numbers_of spans xs) (numbers_of spans ys)
unfolding numbers_of
numbers-append spans [] ys some more = absurd (omega arith)
numbers-append spans (x ∷ xs) [] some more = absurd (omega arith)
numbers-append spans (x ∷ xs) (y ∷ ys) some more =
    let q : Sample → Bool = λ s. is_at_edge spans s.place in
    part_same (numbers_of spans (x ∷ xs ++ y ∷ ys)) (joined (numbers_of spans (x ∷ xs)) (numbers_of spans (y ∷ ys)))
    (sym (least-both x xs y ys).0 ∙ lesser_is (least_from x xs).value (least_from y ys).value)
    (sym (greatest-both x xs y ys).0 ∙ greater_is (greatest_from x xs).value (greatest_from y ys).value)
    (sum_of-append (λ s. s.value) (x ∷ xs) (y ∷ ys))
    (sum_where-append q (λ s. s.value) (x ∷ xs) (y ∷ ys))
    (count-append q (x ∷ xs) (y ∷ ys))

pub length-placed_at : (spans : List Span) (samples : List ℤ) (from count : ℕ) → length (placed_at spans samples from count) ≡ count
length-placed_at spans samples from count =
    length-placed from (values_at spans samples from count) ∙ length-map-range_with_len (value_at spans samples) from count

-- the samples at places that follow one another
placed_at-split : (spans : List Span) (samples : List ℤ) (m n : ℕ)
    → placed_at spans samples 0 (m + n) ≡ placed_at spans samples 0 m ++ placed_at spans samples m n
placed_at-split spans samples m n =
    let v = value_at spans samples in
    let us = values_at spans samples 0 m in
    let start : 0 + m ≡ m = omega arith in
    let count : 0 + length us ≡ m = (let l = length-map-range_with_len v 0 m in omega (arith, l)) in
    ap (λ places. placed 0 (map v places)) (range-split 0 m n ∙ ap (λ k. range_with_len 0 m ++ range_with_len k n) start)
    ∙ ap (placed 0) (map-append v (range_with_len 0 m) (range_with_len m n))
    ∙ placed-append 0 us (values_at spans samples m n)
    ∙ ap (λ k. placed 0 us ++ placed k (values_at spans samples m n)) count

-- one line more
pub numbers-next : (spans : List Span) (samples : List ℤ) (k n : ℕ) → 1 ≤ k → 1 ≤ n
    → numbers_of spans (placed_at spans samples 0 ((k + 1) * n))
    ≡ joined (numbers_of spans (placed_at spans samples 0 (k * n))) (numbers_of spans (placed_at spans samples (k * n) n))
numbers-next spans samples k n some columns =
    let whole : (k + 1) * n ≡ k * n + n = omega arith in
    let before = length-placed_at spans samples 0 (k * n) in
    let after = length-placed_at spans samples (k * n) n in
    let many = one-le-mul some columns in
    ap (λ m. numbers_of spans (placed_at spans samples 0 m)) whole
    ∙ ap (numbers_of spans) (placed_at-split spans samples (k * n) n)
    ∙ numbers-append spans (placed_at spans samples 0 (k * n)) (placed_at spans samples (k * n) n) (omega (arith, before, many)) (omega (arith, after))
