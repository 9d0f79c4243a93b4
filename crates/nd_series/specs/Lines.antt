-- The lines of a frame and of a region.
use Rattle.std.specs.Prelude.{◌≡◌, ℕ, ◌-◌, ◌*◌, ◌<◌, ◌≤◌, ◌==◌, min, true, nat_lt, ℤ, pos, ◌+ℤ◌, List, ◌∷◌, length, slice_index_or, if◌then◌else◌}
use Rattle.std.specs.List.{list_all}
use Rattle.nd_base.specs.declared.array.Dim.{Dim}
use Rattle.nd_base.specs.declared.array.SampleType.{SampleType}
use Rattle.nd_base.specs.Samples.{width}
use Rattle.nd_base.specs.Shapes.{sample_count, most_samples}
use Rattle.nd_series.specs.declared.region.Box4.{Box4}
use Rattle.nd_series.specs.declared.span.Span.{Span}
use Rattle.nd_series.specs.Spans.{span_at, spans_from}

-- the bytes of the samples of a frame, with so many columns and these other dimensions
pub record IsFrame (kind : SampleType) (columns : ℕ) (others : List Dim) (bytes : List ℕ) : Type 0 where
  pub some : 0 < columns
  pub sizes : list_all (λ d. nat_lt 0 d.size) others ≡ true
  pub most : length others ≤ 9
  pub few : columns * sample_count others ≤ most_samples
  pub count : length bytes ≡ columns * sample_count others * width kind

-- what a region takes of it
abbrev pub columns_and_lines : Box4 → ℕ → List Dim → List Span
columns_and_lines b columns others = span_at b 0 columns ∷ spans_from b 1 others

-- the sum of the first and the last value
abbrev pub ends_sum : List ℤ → ℤ
ends_sum vs = slice_index_or vs 0 (pos 0) +ℤ (if length vs == 1 then pos 0 else slice_index_or vs (length vs - 1) (pos 0))

-- how many these are
abbrev pub ends_count : List ℤ → ℕ
ends_count vs = min (length vs) 2
