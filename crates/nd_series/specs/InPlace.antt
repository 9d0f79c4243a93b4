-- The numbers of a region, of the samples where they lie in the frame.
use Rattle.std.specs.Prelude.{ℕ, ℤ, List, map, length, filter}
use Rattle.nd_base.specs.declared.array.Dim.{Dim}
use Rattle.nd_base.specs.Array.{Array}
use Rattle.nd_stats.specs.Samples.{Sample, placed, least, greatest, sum_of}
use Rattle.nd_series.specs.declared.region.Box4.{Box4}
use Rattle.nd_series.specs.declared.row.Part.{Part}
use Rattle.nd_series.specs.declared.row.SeriesRow.{SeriesRow}
use Rattle.nd_series.specs.declared.span.Span.{Span}
use Rattle.nd_series.specs.Spans.{spans_from, span_count, values_at, is_at_edge}

-- the numbers of these samples of a region that takes these spans
unfoldable pub numbers_of : List Span → List Sample → Part
numbers_of spans xs = record {
  min = (least xs).value;
  max = (greatest xs).value;
  total = sum_of (λ s. s.value) xs;
  border = sum_of (λ s. s.value) (filter (λ s. is_at_edge spans s.place) xs);
  border_n = length (filter (λ s. is_at_edge spans s.place) xs);
}

-- the samples at so many places of the region
abbrev pub placed_at : List Span → List ℤ → (from count : ℕ) → List Sample
placed_at spans samples from count = placed from (values_at spans samples from count)

-- the numbers of a region of an array of these dimensions and samples
abbrev pub part_in : Box4 → List Dim → List ℤ → Part
part_in b dims samples = let spans = spans_from b 0 dims in numbers_of spans (placed_at spans samples 0 (span_count spans))

-- those of each region of a frame
abbrev pub row_in_place : List Box4 → Array → SeriesRow
row_in_place regions a = record { id = a.id; parts = map (λ b. part_in b a.dims a.samples) regions }
