-- What a region takes of a frame, dimension by dimension, and where its samples lie in the frame.
use Rattle.std.specs.Prelude.{ℕ, zero, suc, ◌+◌, ◌-◌, ◌*◌, ◌/◌, ◌%◌, ◌==◌, ◌||◌, min, max, Bool, false, ℤ, pos, List, [], ◌∷◌, map, slice_index_or}
use Rattle.std.specs.List.{range_with_len}
use Rattle.nd_base.specs.declared.array.Dim.{Dim}
use Rattle.nd_base.specs.Shapes.{product}
use Rattle.nd_series.specs.declared.region.Box4.{Box4}
use Rattle.nd_series.specs.declared.span.Span.{Span}

-- `count` indices from `first` on, as far as there are so many: at least one, the last where `first` lies behind it
abbrev pub span_from : (first count size : ℕ) → Span
span_from first count size = let at = min first (size - 1) in record { first = at; count = min (max count 1) (size - at); size = size }

-- what a region takes of dimension k: columns, rows, and all of each other one
abbrev pub span_at : Box4 → ℕ → ℕ → Span
span_at b zero size = span_from b.x b.w size
span_at b (suc zero) size = span_from b.y b.h size
span_at b (suc (suc k)) size = record { first = 0; count = size; size = size }

-- what it takes of these dimensions, of which the first is dimension k
abbrev pub spans_from : Box4 → ℕ → List Dim → List Span
spans_from b k [] = []
spans_from b k (dim ∷ dims) = span_at b k dim.size ∷ spans_from b (k + 1) dims

-- how many samples these are
abbrev pub span_count : List Span → ℕ
span_count spans = product (map (λ s. s.count) spans)

-- the place in the frame of the sample at a place of the region
abbrev pub frame_place : List Span → ℕ → ℕ
frame_place [] p = 0
frame_place (s ∷ spans) p = s.first + p % s.count + s.size * frame_place spans (p / s.count)

-- whether a place of the region has the first or the last index of some dimension
abbrev pub is_at_edge : List Span → ℕ → Bool
is_at_edge [] p = false
is_at_edge (s ∷ spans) p = p % s.count == 0 || p % s.count + 1 == s.count || is_at_edge spans (p / s.count)

-- the frame's sample at a place of the region
abbrev pub value_at : List Span → List ℤ → ℕ → ℤ
value_at spans samples p = slice_index_or samples (frame_place spans p) (pos 0)

-- the frame's samples at so many places of the region
abbrev pub values_at : List Span → List ℤ → (from count : ℕ) → List ℤ
values_at spans samples from count = map (value_at spans samples) (range_with_len from count)
