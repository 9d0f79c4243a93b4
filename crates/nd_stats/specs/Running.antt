-- The numbers of the samples so far.
use Rattle.std.specs.Prelude.{◌≡◌, ℕ, ◌+◌, ◌*◌, ◌-◌, ◌/◌, ◌<◌, ◌≤◌, ◌^◌, ℤ, pos, ◌-ℤ◌, List, length, slice_index_or, sum_by, unsigned_abs}
use Rattle.nd_base.specs.declared.array.Dim.{Dim}
use Rattle.nd_base.specs.declared.graph.StatsRule.{StatsRule}
use Rattle.nd_base.specs.Shapes.{most_samples}
use Rattle.nd_base.specs.Places.{size_in}
use Rattle.nd_stats.specs.declared.tally.Tally.{Tally}
use Rattle.nd_stats.specs.declared.tally.Extremes.{Extremes}
use Rattle.nd_stats.specs.declared.tally.Sums.{Sums}
use Rattle.nd_stats.specs.declared.tally.Moments.{Moments}
use Rattle.nd_stats.specs.declared.tally.Histogram.{Histogram}
use Rattle.nd_stats.specs.declared.blocks.Basics.{Basics}
use Rattle.nd_stats.specs.declared.border.Edge.{Edge}
use Rattle.nd_stats.specs.declared.histogram.Ends.{Ends}
use Rattle.nd_stats.specs.declared.histogram.Ramp.{Ramp}
use Rattle.nd_stats.specs.declared.histogram.Scale.{Scale}
use Rattle.nd_stats.specs.Tallies.{HasRoom, HaveRoom}
use Rattle.nd_stats.specs.Samples.{Sample, AreSmall, sum_of, least_from, greatest_from, table}
use Rattle.nd_stats.specs.Measured.{count_where, value_where, square, is_on_border, is_over, is_below, is_above, is_in_bin, bin_at, has_index, moment, profile}
pub use Rattle.nd_stats.specs.Frames.{IsFrame}

pub record AreExtremes (first : Sample) (xs : List Sample) (e : Extremes) : Type 0 where
  pub min : e.min ≡ (least_from first xs).value
  pub min_at : e.min_at ≡ (least_from first xs).place
  pub max : e.max ≡ (greatest_from first xs).value
  pub max_at : e.max_at ≡ (greatest_from first xs).place

pub record AreSums (rule : StatsRule) (dims : List Dim) (xs : List Sample) (s : Sums) : Type 0 where
  pub n : s.n ≡ length xs
  pub total : s.total ≡ sum_of (λ t. t.value) xs
  pub squares : s.squares ≡ sum_by (λ t. square t.value) xs
  pub border : s.border ≡ value_where (is_on_border rule dims) xs
  pub border_n : s.border_n ≡ count_where (is_on_border rule dims) xs

-- the samples at the border
pub record IsEdge (rule : StatsRule) (dims : List Dim) (xs : List Sample) (e : Edge) : Type 0 where
  pub count : e.count ≡ count_where (is_on_border rule dims) xs
  pub sum : e.sum ≡ value_where (is_on_border rule dims) xs

-- samples at the border that have room for as many again
pub record HaveEdgeRooms (e : Edge) : Type 0 where
  pub count : e.count < 2 ^ 31
  pub sum : HasRoom e.sum

pub record AreMoments (rule : StatsRule) (dims : List Dim) (xs : List Sample) (m : Moments) : Type 0 where
  pub over : m.over ≡ count_where (is_over rule) xs
  pub m0 : m.m0 ≡ value_where (is_over rule) xs
  pub mx : m.mx ≡ moment rule dims 0 xs
  pub my : m.my ≡ moment rule dims 1 xs

-- moments that have room for as much again
pub record HaveMomentRooms (m : Moments) : Type 0 where
  pub over : m.over < 2 ^ 31
  pub m0 : HasRoom m.m0
  pub mx : unsigned_abs m.mx < 2 ^ 100
  pub my : unsigned_abs m.my < 2 ^ 100

-- the numbers that are in no list; the extremes are those of `first` and these samples
pub record AreBasics (rule : StatsRule) (dims : List Dim) (first : Sample) (xs : List Sample) (b : Basics) : Type 0 where
  pub extremes : AreExtremes first xs b.extremes
  pub total : b.total ≡ sum_of (λ t. t.value) xs
  pub squares : b.squares ≡ sum_by (λ t. square t.value) xs
  pub edge : IsEdge rule dims xs b.edge
  pub moments : AreMoments rule dims xs b.moments

pub record IsHistogram (rule : StatsRule) (xs : List Sample) (h : Histogram) : Type 0 where
  pub below : h.below ≡ count_where (is_below rule) xs
  pub bins : h.bins.items ≡ table (λ k. pos (count_where (is_in_bin rule k) xs)) 0 rule.hist_size
  pub above : h.above ≡ count_where (is_above rule) xs

-- what the bin of a value is computed from: the low end, the range, the number of the last bin, and what twice the range divides by
pub record IsScale (rule : StatsRule) (s : Scale) : Type 0 where
  pub low : s.low ≡ rule.hist_lo
  pub range : s.range ≡ unsigned_abs (rule.hist_hi -ℤ rule.hist_lo)
  pub last : s.last ≡ rule.hist_size - 1
  pub by : s.divisor.by ≡ 2 * s.range
  pub times : s.divisor.times ≡ 18446744073709551615 / s.divisor.by

-- where the values of the histogram's range lie, in parts of 2^54 to a bin: each in its bin, and none beyond 64 bits
pub record IsRamp (rule : StatsRule) (ramp : Ramp) : Type 0 where
  pub bins : (above : ℕ) → above ≤ unsigned_abs (rule.hist_hi -ℤ rule.hist_lo) → (above * ramp.step + ramp.start) / 2 ^ 54 ≡ bin_at rule above
  pub fits : (above : ℕ) → above ≤ unsigned_abs (rule.hist_hi -ℤ rule.hist_lo) → above * ramp.step + ramp.start < 2 ^ 64

-- the counts of the histogram's range, and of what lies beside it
pub record IsCounted (rule : StatsRule) (xs : List Sample) (e : Ends) (counts : List ℤ) : Type 0 where
  pub below : e.below ≡ count_where (is_below rule) xs
  pub bins : counts ≡ table (λ k. pos (count_where (is_in_bin rule k) xs)) 0 rule.hist_size
  pub above : e.above ≡ count_where (is_above rule) xs

-- counts that have room for one sample more
pub record HaveCountRooms (rule : StatsRule) (e : Ends) (counts : List ℤ) : Type 0 where
  pub size : length counts ≡ rule.hist_size
  pub room : HaveRoom counts
  pub below : e.below < 2 ^ 31
  pub above : e.above < 2 ^ 31

-- the sum of the values at each index in dimension d
abbrev pub sums_along : List Dim → ℕ → List Sample → List ℤ
sums_along dims d xs = table (λ k. value_where (has_index dims d k) xs) 0 (size_in dims d)

-- sums of which none is further from 0
abbrev pub AreWithin : ℕ → List ℤ → Type 0
AreWithin most sums = (k : ℕ) → k < length sums → unsigned_abs (slice_index_or sums k (pos 0)) ≤ most

-- the numbers of these samples; the extremes are those of `first` and these samples
pub record IsTally (rule : StatsRule) (dims : List Dim) (first : Sample) (xs : List Sample) (t : Tally) : Type 0 where
  pub extremes : AreExtremes first xs t.extremes
  pub sums : AreSums rule dims xs t.sums
  pub moments : AreMoments rule dims xs t.moments
  pub histogram : IsHistogram rule xs t.histogram
  pub x : t.x.items ≡ profile rule dims 0 xs
  pub y : t.y.items ≡ profile rule dims 1 xs

-- the numbers of so few samples that one more is no overflow
pub record CanGrow (rule : StatsRule) (dims : List Dim) (first : Sample) (xs : List Sample) (t : Tally) : Type 0 where
  pub tally : IsTally rule dims first xs t
  pub small : AreSmall xs
  pub few : length xs ≤ most_samples
