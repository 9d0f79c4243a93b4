-- The numbers of a region, line by line.
use Rattle.std.proofs.Common.{◌≡◌, ℕ, ◌+◌, ◌*◌, ◌<◌, ◌≤◌, nat_lt, true, List, ◌∷◌, ap, sym, ◌∙◌, arith, get_or, Fits, w8}
use Rattle.std.specs.List.{list_all}
use Rattle.std.proofs.Math.Nat.{mul-le-mul_right}
use Rattle.nd_base.specs.declared.array.Dim.{Dim}
use Rattle.nd_base.specs.declared.array.SampleType.{SampleType}
use Rattle.nd_base.specs.Places.{size_in}
use Rattle.nd_base.specs.Samples.{samples_of}
use Rattle.nd_base.specs.Shapes.{sample_count, most_samples}
use Rattle.nd_series.specs.declared.region.Box4.{Box4}
use Rattle.nd_series.specs.declared.row.Part.{Part}
use Rattle.nd_series.specs.Spans.{span_at, spans_from, span_count}
use Rattle.nd_series.specs.InPlace.{numbers_of, placed_at, part_in}
use Rattle.nd_series.specs.Joined.{joined, HasRooms}
use Rattle.nd_series.specs.Lines.{columns_and_lines}
use Rattle.nd_series.proofs.Bounds.{numbers_rooms}
use Rattle.nd_series.proofs.Joins.{numbers-next}
use Rattle.nd_series.proofs.SpanLaws.{span_at-IsSpan, span_count-most, none_empty}

-- the numbers of the first so many lines of a region
abbrev pub lines_upto : Box4 → List Dim → SampleType → List ℕ → ℕ → Part
lines_upto b dims kind bytes k =
    let spans = spans_from b 0 dims in numbers_of spans (placed_at spans (samples_of kind bytes) 0 (k * (span_at b 0 (size_in dims 0)).count))

-- those of one line
abbrev pub line_of : Box4 → Dim → List Dim → SampleType → List ℕ → ℕ → Part
line_of b first others kind bytes k =
    let spans = columns_and_lines b first.size others in
    let count = (span_at b 0 first.size).count in
    numbers_of spans (placed_at spans (samples_of kind bytes) (k * count) count)

module _ (b : Box4) (first : Dim) (others : List Dim) (kind : SampleType) (bytes : List ℕ) where
  pub first_line : line_of b first others kind bytes 0 ≡ lines_upto b (first ∷ others) kind bytes 1
  first_line =
      let spans = spans_from b 0 (first ∷ others) in
      let n = (span_at b 0 first.size).count in
      ap (λ from. numbers_of spans (placed_at spans (samples_of kind bytes) from n)) (let e : 0 * n ≡ 0 = omega arith in e)
      ∙ ap (λ count. numbers_of spans (placed_at spans (samples_of kind bytes) 0 count)) (let e : n ≡ 1 * n = omega arith in e)

  module _ (sizes : list_all (λ d. nat_lt 0 d.size) (first ∷ others) ≡ true) where
    pub one_more : (k : ℕ) → 1 ≤ k → joined (lines_upto b (first ∷ others) kind bytes k) (line_of b first others kind bytes k)
        ≡ lines_upto b (first ∷ others) kind bytes (k + 1)
    one_more k some =
        let s = span_at-IsSpan b 0 first.size (none_empty first others sizes).some in
        sym (numbers-next (spans_from b 0 (first ∷ others)) (samples_of kind bytes) k (span_at b 0 first.size).count some s.some)

    few_before : (k : ℕ) → sample_count (first ∷ others) ≤ most_samples → k ≤ span_count (spans_from b 1 others)
        → k * (span_at b 0 first.size).count ≤ 67108864
    few_before k few within =
        let n = (span_at b 0 first.size).count in
        let all = span_count-most b 0 (first ∷ others) sizes in
        let lines = mul-le-mul_right n within in
        let turned : span_count (spans_from b 1 others) * n ≡ n * span_count (spans_from b 1 others) = grind arith in
        omega (arith, all, lines, turned, few)

    pub lines_rooms : ((i : ℕ) → Fits w8 (get_or bytes i 0)) → (k : ℕ) → sample_count (first ∷ others) ≤ most_samples
        → k ≤ span_count (spans_from b 1 others) → HasRooms (lines_upto b (first ∷ others) kind bytes k)
    lines_rooms fit k few within =
        numbers_rooms (spans_from b 0 (first ∷ others)) kind bytes 0 (k * (span_at b 0 first.size).count) fit (few_before k few within)

    pub line_rooms : ((i : ℕ) → Fits w8 (get_or bytes i 0)) → (k : ℕ) → sample_count (first ∷ others) ≤ most_samples
        → k < span_count (spans_from b 1 others) → HasRooms (line_of b first others kind bytes k)
    line_rooms fit k few within =
        let n = (span_at b 0 first.size).count in
        let all = few_before (k + 1) few (omega arith) in
        let one : (k + 1) * n ≡ k * n + n = grind arith in
        numbers_rooms (spans_from b 0 (first ∷ others)) kind bytes (k * n) n fit (omega (arith, all, one))

  pub all_lines : (k : ℕ) → k ≡ span_count (spans_from b 1 others) → lines_upto b (first ∷ others) kind bytes k ≡ part_in b (first ∷ others) (samples_of kind bytes)
  all_lines k is =
      let spans = spans_from b 0 (first ∷ others) in
      let n = (span_at b 0 first.size).count in
      ap (λ m. numbers_of spans (placed_at spans (samples_of kind bytes) 0 (m * n))) is
      ∙ ap (λ m. numbers_of spans (placed_at spans (samples_of kind bytes) 0 m))
      (let e : span_count (spans_from b 1 others) * n ≡ n * span_count (spans_from b 1 others) = grind arith in e)
