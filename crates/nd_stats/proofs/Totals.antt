-- Sums over values and over samples, and tests that nothing passes.
use Rattle.std.proofs.Common.{◌≡◌, ℕ, ◌+◌, ◌/◌, ◌%◌, ◌<◌, ◌||◌, List, [], ◌∷◌, length, filter, cond, refl, ap, sym, ◌∙◌, arith, ℤ, pos, ◌+ℤ◌, Bool, false}
use Rattle.std.proofs.Common.{not, ◌&&◌, ◌==◌, nat_lt, sum_by, ◌*◌, drop}
use Rattle.std.specs.List.{list_all}
use Rattle.std.proofs.lemmas.Bool.{and_parts, ltb-true}
use Rattle.std.proofs.lemmas.Bool.Decides.{nat_tests}
use Rattle.std.proofs.lemmas.Nat.{mod_below}
use Rattle.std.proofs.lemmas.List.Sums.{sum_by-cons}
use Rattle.nd_base.specs.declared.array.Dim.{Dim}
use Rattle.nd_base.specs.declared.array.SampleType.{SampleType}
use Rattle.nd_base.specs.declared.graph.StatsRule.{StatsRule}
use Rattle.nd_base.specs.Samples.{numbers, width}
use Rattle.lane_kernels.specs.Plain.{total, squares, stored}
use Rattle.nd_stats.specs.declared.border.Edge.{Edge}
use Rattle.nd_stats.specs.declared.tally.Sums.{Sums}
use Rattle.nd_stats.specs.declared.tally.Histogram.{Histogram}
use Rattle.nd_stats.specs.Samples.{Sample, placed, sum_of, is_near_end, is_at_border, table}
use Rattle.nd_stats.specs.Measured.{count_where, square, has_histogram, is_on_border, is_below, is_above, is_in_bin}
use Rattle.nd_stats.specs.Running.{IsFrame, AreSums, IsEdge, IsHistogram}
use Rattle.nd_stats.proofs.Places.{AreSizes}
use Rattle.nd_stats.proofs.Sums.{sum_of-more}
use Rattle.lane_kernels.proofs.Slices.{stored_behind}
use Rattle.nd_stats.proofs.Pieces.{length-piece, piece-more, sample_at}

pub total_placed : (p : ℕ) (vs : List ℤ) → total vs ≡ sum_of (λ s. s.value) (placed p vs)
total_placed p [] = refl
total_placed p (v ∷ vs) = ap (λ z. v +ℤ z) (total_placed (p + 1) vs)

-- the sum of some samples from a place on, with one sample more
pub total-next : (kind : SampleType) (k m : ℕ) (bytes : List ℕ) → (let rest = drop (k * width kind) bytes in
    total (numbers kind (m + 1) rest) ≡ total (numbers kind m rest) +ℤ stored kind bytes (k + m))
total-next kind k m bytes =
    let rest = drop (k * width kind) bytes in
    total_placed 0 (numbers kind (m + 1) rest) ∙ ap (sum_of (λ s. s.value)) (piece-more kind 0 m rest)
    ∙ sum_of-more (λ s. s.value) (placed 0 (numbers kind m rest)) (sample_at kind 0 m rest)
    ∙ ap (λ z. z +ℤ stored kind rest m) (sym (total_placed 0 (numbers kind m rest)))
    ∙ ap (λ z. total (numbers kind m rest) +ℤ z) (stored_behind kind k m bytes)

pub squares_placed : (p : ℕ) (vs : List ℤ) → squares vs ≡ sum_by (λ s. square s.value) (placed p vs)
squares_placed p [] = refl
squares_placed p (v ∷ vs) =
    ap (λ n. square v + n) (squares_placed (p + 1) vs)
    ∙ sym (sum_by-cons (λ (s : Sample). square s.value) (record { place = p; value = v }) (placed (p + 1) vs))

-- a test that nothing passes
pub filter_none : (p : Sample → Bool) → ((s : Sample) → p s ≡ false) → (xs : List Sample) → filter p xs ≡ []
filter_none p none [] = refl
filter_none p none (s ∷ xs) = ap (λ b. cond b (s ∷ filter p xs) (filter p xs)) (none s) ∙ filter_none p none xs

inside : (size i : ℕ) → i < size → is_near_end 0 size i ≡ false
inside size i h = grind (arith, nat_tests)

-- without a border
pub no_border : (dims : List Dim) (p : ℕ) → AreSizes dims → is_at_border 0 dims p ≡ false
no_border [] p sizes = refl
no_border (d ∷ dims) p sizes =
    let parts = and_parts (nat_lt 0 d.size) (list_all (λ d. nat_lt 0 d.size) dims) sizes in
    ap (λ b. b || is_at_border 0 dims (p / d.size)) (inside d.size (p % d.size) (mod_below p d.size (ltb-true 0 d.size parts.0)))
    ∙ no_border dims (p / d.size) parts.1

-- without a border no sample is at it
pub none_on_border : (rule : StatsRule) (dims : List Dim) (xs : List Sample) → IsFrame rule dims → rule.border ≡ 0 → filter (is_on_border rule dims) xs ≡ []
none_on_border rule dims xs frame none =
    filter_none (is_on_border rule dims) (λ t. ap (λ b. is_at_border b dims t.place) none ∙ no_border dims t.place frame.sizes) xs

-- the sums over all samples of a piece, and over those at the border
pub whole_sums : (rule : StatsRule) (dims : List Dim) (kind : SampleType) (from n : ℕ) (bytes : List ℕ) (e : Edge) (s : Sums)
    → IsEdge rule dims (placed from (numbers kind n bytes)) e
    → s.n ≡ n → s.total ≡ sum_of (λ t. t.value) (placed from (numbers kind n bytes))
    → s.squares ≡ sum_by (λ t. square t.value) (placed from (numbers kind n bytes)) → s.border ≡ e.sum → s.border_n ≡ e.count
    → AreSums rule dims (placed from (numbers kind n bytes)) s
whole_sums rule dims kind from n bytes e s is f g h i j =
    record {
      n = f ∙ sym (length-piece kind from n bytes);
      total = g;
      squares = h;
      border = i ∙ is.sum;
      border_n = j ∙ is.count;
    }

no_bins : (rule : StatsRule) (b : Bool) → rule.hist_size ≡ 0 → has_histogram rule && b ≡ false
no_bins rule b none = ap (λ n. not (n == 0) && b) none

pub no_histogram : (rule : StatsRule) (xs : List Sample) (h : Histogram) → rule.hist_size ≡ 0 → IsHistogram rule [] h → IsHistogram rule xs h
no_histogram rule xs h none is =
    record {
      below = is.below ∙ sym (ap length (filter_none (is_below rule) (λ s. no_bins rule _ none) xs));
      bins = is.bins ∙ ap (table (λ k. pos (count_where (is_in_bin rule k) [])) 0) none
          ∙ sym (ap (table (λ k. pos (count_where (is_in_bin rule k) xs)) 0) none);
      above = is.above ∙ sym (ap length (filter_none (is_above rule) (λ s. no_bins rule _ none) xs));
    }
