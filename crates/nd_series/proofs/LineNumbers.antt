-- The numbers of one line of a region.
use Rattle.std.proofs.Common.{◌≡◌, ℕ, suc, ◌+◌, ◌-◌, ◌*◌, ◌/◌, ◌<◌, ◌≤◌, min, List, [], ◌∷◌, length, drop, filter, get_or, refl, ap, sym, ◌∙◌, arith}
use Rattle.std.proofs.Common.{ℤ, pos, ◌+ℤ◌, Bool, true, false, ◌==◌, ◌||◌, Some}
use Rattle.std.specs.Prelude.{if◌then◌else◌}
use Rattle.std.proofs.Math.IntN.{+ℤ_idl, +ℤ_idr}
use Rattle.std.proofs.Math.Nat.{mul-div_cancel}
use Rattle.std.proofs.lemmas.Bool.{ne_eqb, eq-eqb}
use Rattle.nd_base.specs.declared.array.SampleType.{SampleType}
use Rattle.nd_base.specs.Samples.{width, numbers, samples_of}
use Rattle.nd_base.specs.SampleLaws.{length-numbers, width-positive}
use Rattle.lane_kernels.specs.Plain.{stored, total, min_max, least_with, greatest_with}
use Rattle.lane_kernels.specs.declared.extremes.MinMax.{MinMax}
use Rattle.nd_roi.proofs.Gather.{in_order}
use Rattle.nd_stats.specs.Samples.{Sample, placed, sum_of}
use Rattle.nd_stats.proofs.Edges.{count_run, value_run}
use Rattle.nd_stats.proofs.Firsts.{least_value, greatest_value}
use Rattle.lane_kernels.proofs.Slices.{get_or-numbers, stored_behind}
use Rattle.nd_stats.proofs.Sums.{count-first, sum_where-first}
use Rattle.nd_stats.proofs.Totals.{total_placed}
use Rattle.nd_series.specs.declared.row.Part.{Part}
use Rattle.nd_series.specs.declared.span.Span.{Span}
use Rattle.nd_series.specs.Spans.{is_at_edge, frame_place, value_at, values_at}
use Rattle.nd_series.specs.InPlace.{numbers_of}
use Rattle.nd_series.specs.Lines.{ends_sum, ends_count}
use Rattle.nd_series.proofs.Joins.{part_same}
use Rattle.nd_series.proofs.SpanLaws.{column_mod, column_div}

abbrev one : ℕ → ℤ → Sample
one p v = record { place = p; value = v }

-- of so many samples from a place on the first and the last alone pass
record EndsPass (q : Sample → Bool) (p n : ℕ) : Type 0 where
  first : (v : ℤ) → q (one p v) ≡ true
  last : (i : ℕ) (v : ℤ) → i + 1 ≡ n → q (one (p + i) v) ≡ true
  between : (i : ℕ) (v : ℤ) → 0 < i → i + 1 < n → q (one (p + i) v) ≡ false

-- of those behind the first the last alone passes
last_passes : (q : Sample → Bool) (p : ℕ) (vs : List ℤ) → ((i : ℕ) (v : ℤ) → i + 1 ≡ length vs → q (one (p + i) v) ≡ true)
    → ((i : ℕ) (v : ℤ) → i + 1 < length vs → q (one (p + i) v) ≡ false)
    → (sum_of (λ s. s.value) (filter q (placed p vs)) ≡ get_or vs (length vs - 1) (pos 0)) × (length (filter q (placed p vs)) ≡ min (length vs) 1)
last_passes q p [] last between = (refl, refl)
last_passes q p (v ∷ []) last between =
    let here : q (one p v) ≡ true = ap (λ n. q (one n v)) (let e : p ≡ p + 0 = omega arith in e) ∙ last 0 v (omega arith) in (
      sum_where-first q (λ s. s.value) (one p v) [] ∙ ap (λ b. (if b then v else pos 0) +ℤ pos 0) here ∙ +ℤ_idr v,
      count-first q (one p v) [] ∙ ap (λ b. (if b then 1 else 0) + 0) here,
    )
last_passes q p (v ∷ w ∷ vs) last between =
    let here : q (one p v) ≡ false = ap (λ n. q (one n v)) (let e : p ≡ p + 0 = omega arith in e) ∙ between 0 v (omega arith) in
    let move : (i : ℕ) → p + 1 + i ≡ p + suc i = λ i. omega arith in
    let others = filter q (placed (p + 1) (w ∷ vs)) in
    let near : suc (length vs) - 1 ≡ length vs = omega arith in
    let far : suc (suc (length vs)) - 1 ≡ suc (length vs) = omega arith in
    let rest = last_passes q (p + 1) (w ∷ vs) (λ i u h. ap (λ n. q (one n u)) (move i) ∙ last (suc i) u (omega arith))
    (λ i u h. ap (λ n. q (one n u)) (move i) ∙ between (suc i) u (omega arith)) in (
      sum_where-first q (λ s. s.value) (one p v) (placed (p + 1) (w ∷ vs)) ∙ ap (λ b. (if b then v else pos 0) +ℤ sum_of (λ s. s.value) others) here
          ∙ +ℤ_idl (sum_of (λ s. s.value) others) ∙ rest.0 ∙ ap (λ n. get_or (w ∷ vs) n (pos 0)) near ∙ ap (λ n. get_or (v ∷ w ∷ vs) n (pos 0)) (sym far),
      count-first q (one p v) (placed (p + 1) (w ∷ vs)) ∙ ap (λ b. (if b then 1 else 0) + length others) here ∙ (let r = rest.1 in omega (arith, r)),
    )

ends_of : (v : ℤ) (vs : List ℤ) → v +ℤ get_or vs (length vs - 1) (pos 0) ≡ ends_sum (v ∷ vs)
ends_of v [] = refl
ends_of v (w ∷ vs) =
    let more : (suc (suc (length vs)) == 1) ≡ false = ne_eqb (suc (suc (length vs))) 1 (λ e. absurd (omega (arith, e))) in
    let e : suc (suc (length vs)) - 1 ≡ suc (length vs) = omega arith in
    let f : suc (length vs) - 1 ≡ length vs = omega arith in
    ap (λ n. v +ℤ get_or (w ∷ vs) n (pos 0)) f
    ∙ ap (λ n. v +ℤ get_or (v ∷ w ∷ vs) n (pos 0)) (sym e)
    ∙ ap (λ b. v +ℤ (if b then pos 0 else get_or (v ∷ w ∷ vs) (suc (suc (length vs)) - 1) (pos 0))) (sym more)

ends_pass : (q : Sample → Bool) (p : ℕ) (vs : List ℤ) → 0 < length vs → EndsPass q p (length vs)
    → (sum_of (λ s. s.value) (filter q (placed p vs)) ≡ ends_sum vs) × (length (filter q (placed p vs)) ≡ ends_count vs)
ends_pass q p [] some are = absurd (omega arith)
ends_pass q p (v ∷ vs) some are =
    let here = are.first v in
    let others = filter q (placed (p + 1) vs) in
    let move : (i : ℕ) → p + 1 + i ≡ p + suc i = λ i. omega arith in
    let rest = last_passes q (p + 1) vs (λ i u h. ap (λ n. q (one n u)) (move i) ∙ are.last (suc i) u (omega arith))
    (λ i u h. ap (λ n. q (one n u)) (move i) ∙ are.between (suc i) u (omega arith) (omega arith)) in (
      sum_where-first q (λ s. s.value) (one p v) (placed (p + 1) vs) ∙ ap (λ b. (if b then v else pos 0) +ℤ sum_of (λ s. s.value) others) here
          ∙ ap (λ z. v +ℤ z) rest.0 ∙ ends_of v vs,
      count-first q (one p v) (placed (p + 1) vs) ∙ ap (λ b. (if b then 1 else 0) + length others) here ∙ (let r = rest.1 in omega (arith, r)),
    )

edge_at : (s : Span) (spans : List Span) (k j : ℕ) → j < s.count
    → is_at_edge (s ∷ spans) (k * s.count + j) ≡ (j == 0 || j + 1 == s.count || is_at_edge spans k)
edge_at s spans k j h =
    ap (λ i. i == 0 || i + 1 == s.count || is_at_edge spans ((k * s.count + j) / s.count)) (column_mod k s.count j h)
    ∙ ap (λ q. j == 0 || j + 1 == s.count || is_at_edge spans q) (column_div k s.count j h)

or_true : (a : Bool) → (a || true) ≡ true
or_true true = refl
or_true false = refl

or_false : (a : Bool) → (a || false) ≡ a
or_false true = refl
or_false false = refl

border_is : (s : Span) (spans : List Span) (k : ℕ) (vs : List ℤ) (at_edge : Bool) → 0 < length vs → s.count ≡ length vs → is_at_edge spans k ≡ at_edge
    → (let q : Sample → Bool = λ t. is_at_edge (s ∷ spans) t.place in
    ((if at_edge then total vs else ends_sum vs) ≡ sum_of (λ t. t.value) (filter q (placed (k * s.count) vs)))
    × ((if at_edge then length vs else ends_count vs) ≡ length (filter q (placed (k * s.count) vs))))
border_is s spans k vs true some long edge =
    let q : Sample → Bool = λ t. is_at_edge (s ∷ spans) t.place in
    let p = k * s.count in
    let each : (j : ℕ) (v : ℤ) → j < length vs → q (one (p + j) v) ≡ true =
    λ j v h. edge_at s spans k j (omega (arith, long)) ∙ ap (λ b. j == 0 || j + 1 == s.count || b) edge ∙ or_true (j == 0 || j + 1 == s.count) in
    let sum = value_run q true [] p vs each in
    let count = count_run q true [] p vs each in
    (sym (sum ∙ +ℤ_idl (total vs)), omega (arith, count))
border_is s spans k vs false some long edge =
    let q : Sample → Bool = λ t. is_at_edge (s ∷ spans) t.place in
    let p = k * s.count in
    let at : (j : ℕ) (v : ℤ) → j < length vs → q (one (p + j) v) ≡ (j == 0 || j + 1 == s.count) =
    λ j v h. edge_at s spans k j (omega (arith, long)) ∙ ap (λ b. j == 0 || j + 1 == s.count || b) edge ∙ or_false (j == 0 || j + 1 == s.count) in
    let ends = ends_pass q p vs some (record {
      first = λ v. ap (λ n. q (one n v)) (let e : p ≡ p + 0 = omega arith in e) ∙ at 0 v some;
      last = λ j v e. at j v (omega (arith, e)) ∙ ap (λ b. j == 0 || b) (eq-eqb (j + 1) s.count (e ∙ sym long)) ∙ or_true (j == 0);
      between = λ j v above below. at j v (omega arith) ∙ ap (λ b. b || j + 1 == s.count) (ne_eqb j 0 (λ e. absurd (omega (arith, e, above))))
          ∙ ne_eqb (j + 1) s.count (λ e. absurd (omega (arith, e, long, below)));
    }) in
    (sym ends.0, sym ends.1)

-- the numbers of a line
pub line_is : (s : Span) (spans : List Span) (k : ℕ) (vs : List ℤ) (at_edge : Bool) (p : Part) (ends : MinMax) → 0 < length vs → s.count ≡ length vs
    → is_at_edge spans k ≡ at_edge → Some ends ≡ min_max vs → p.min ≡ ends.min → p.max ≡ ends.max → p.total ≡ total vs
    → p.border ≡ (if at_edge then total vs else ends_sum vs) → p.border_n ≡ (if at_edge then length vs else ends_count vs)
    → p ≡ numbers_of (s ∷ spans) (placed (k * s.count) vs)
unfolding numbers_of
line_is s spans k [] at_edge p ends some long edge extremes min max sum border count = absurd (omega arith)
line_is s spans k (v ∷ vs) at_edge p ends some long edge extremes min max sum border count =
    let same : ends ≡ record { min = least_with v vs; max = greatest_with v vs } = cc in
    let at = k * s.count in
    let both = border_is s spans k (v ∷ vs) at_edge some long edge in
    part_same p (numbers_of (s ∷ spans) (placed at (v ∷ vs)))
    (min ∙ ap (λ e. e.min) same ∙ sym (least_value at v vs))
    (max ∙ ap (λ e. e.max) same ∙ sym (greatest_value at v vs))
    (sum ∙ total_placed at (v ∷ vs))
    (border ∙ both.0)
    (count ∙ both.1)

-- the samples of a line of a region are those of a part of a line of the frame
pub line_values : (s : Span) (spans : List Span) (k at : ℕ) (kind : SampleType) (bytes : List ℕ) (n : ℕ) → length bytes ≡ n * width kind
    → at ≡ s.first + s.size * frame_place spans k → at + s.count ≤ n
    → values_at (s ∷ spans) (samples_of kind bytes) (k * s.count) s.count ≡ numbers kind s.count (drop (at * width kind) bytes)
line_values s spans k at kind bytes n whole is within =
    let c = s.count in
    let w = width kind in
    let count : length bytes / w ≡ n = ap (λ m. m / w) whole ∙ mul-div_cancel n (width-positive kind) in
    sym (in_order (value_at (s ∷ spans) (samples_of kind bytes)) (k * c) c (numbers kind c (drop (at * w) bytes)) (length-numbers kind c (drop (at * w) bytes))
    (λ j h.
    let place : frame_place (s ∷ spans) (k * c + j) ≡ at + j =
    ap (λ i. s.first + i + s.size * frame_place spans ((k * c + j) / c)) (column_mod k c j h)
    ∙ ap (λ q. s.first + j + s.size * frame_place spans q) (column_div k c j h) ∙ (let e : s.first + j + s.size * frame_place spans k ≡ at + j = omega (arith, is) in e) in
    get_or-numbers kind c j (drop (at * w) bytes) h ∙ stored_behind kind at j bytes
    ∙ sym (ap (λ i. get_or (samples_of kind bytes) i (pos 0)) place ∙ get_or-numbers kind (length bytes / w) (at + j) bytes (omega (arith, count)))))

-- the ends of a line by their places
pub one_end : (kind : SampleType) (n : ℕ) (bytes : List ℕ) (v : ℤ) → v ≡ stored kind bytes 0 → n ≡ 1 → v ≡ ends_sum (numbers kind n bytes)
one_end kind n bytes v is e =
    let vs = numbers kind n bytes in
    let single : (length vs == 1) ≡ true = ap (λ m. m == 1) (length-numbers kind n bytes ∙ e) in
    is ∙ sym (get_or-numbers kind n 0 bytes (omega (arith, e))) ∙ sym (+ℤ_idr (get_or vs 0 (pos 0)))
    ∙ ap (λ b. get_or vs 0 (pos 0) +ℤ (if b then pos 0 else get_or vs (length vs - 1) (pos 0))) (sym single)

pub two_ends : (kind : SampleType) (n : ℕ) (bytes : List ℕ) (v w : ℤ) → 2 ≤ n → v ≡ stored kind bytes 0 → w ≡ stored kind bytes (n - 1)
    → v +ℤ w ≡ ends_sum (numbers kind n bytes)
two_ends kind n bytes v w some is last =
    let vs = numbers kind n bytes in
    let long = length-numbers kind n bytes in
    let more : (length vs == 1) ≡ false = ne_eqb (length vs) 1 (λ e. absurd (omega (arith, long, e, some))) in
    ap (λ z. z +ℤ w) (is ∙ sym (get_or-numbers kind n 0 bytes (omega (arith, some))))
    ∙ ap (λ z. get_or vs 0 (pos 0) +ℤ z) (last ∙ sym (get_or-numbers kind n (n - 1) bytes (omega (arith, some))) ∙ ap (λ m. get_or vs (m - 1) (pos 0)) (sym long))
    ∙ ap (λ b. get_or vs 0 (pos 0) +ℤ (if b then pos 0 else get_or vs (length vs - 1) (pos 0))) (sym more)
