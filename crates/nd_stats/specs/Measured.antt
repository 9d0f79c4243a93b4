-- The exact numbers of the samples of an array, or of a piece of it.
use Rattle.std.specs.Prelude.{ℕ, ◌+◌, ◌-◌, ◌*◌, ◌/◌, ◌==◌, ◌&&◌, not, Bool, true, false, ℤ, pos, negsuc, ◌-ℤ◌, ◌*ℤ◌, List, [], ◌∷◌, length, filter, sum_by}
use Rattle.std.specs.Prelude.{int_lt, unsigned_abs, if◌then◌else◌, ◌≡◌, refl}
use Rattle.nd_base.specs.declared.array.Dim.{Dim}
use Rattle.nd_base.specs.declared.array.SampleType.{SampleType}
use Rattle.nd_base.specs.declared.graph.StatsRule.{StatsRule}
use Rattle.nd_base.specs.declared.measure.Measure.{Measure}
use Rattle.nd_base.specs.Samples.{samples_of}
use Rattle.nd_base.specs.Places.{index_in, size_in}
use Rattle.nd_stats.specs.Samples.{Sample, placed, is_at_border, sum_of, least, greatest, table}

-- how many samples pass a test
abbrev pub count_where : (Sample → Bool) → List Sample → ℕ
count_where test xs = length (filter test xs)

-- the sum of the values that pass a test
abbrev pub value_where : (Sample → Bool) → List Sample → ℤ
value_where test xs = sum_of (λ s. s.value) (filter test xs)

abbrev pub square : ℤ → ℕ
square v = unsigned_abs v * unsigned_abs v

abbrev pub is_on_border : StatsRule → List Dim → Sample → Bool
is_on_border rule dims s = is_at_border rule.border dims s.place

-- whether a sample reaches the threshold
abbrev pub is_over : StatsRule → Sample → Bool
is_over rule s = not (int_lt s.value rule.threshold)

-- the sum over the samples that reach the threshold, each times its index in dimension k
abbrev pub moment : StatsRule → List Dim → ℕ → List Sample → ℤ
moment rule dims k xs = sum_of (λ s. pos (index_in dims k s.place) *ℤ s.value) (filter (is_over rule) xs)

abbrev pub has_histogram : StatsRule → Bool
has_histogram rule = not (rule.hist_size == 0)

abbrev pub is_below : StatsRule → Sample → Bool
is_below rule s = has_histogram rule && int_lt s.value rule.hist_lo

abbrev pub is_above : StatsRule → Sample → Bool
is_above rule s = has_histogram rule && int_lt rule.hist_hi s.value

-- the bin of the value that lies so far above the low end of the histogram's range: bin 0 has its middle at the low end and the last bin at the high end
abbrev pub bin_at : StatsRule → ℕ → ℕ
bin_at rule above =
    let range = unsigned_abs (rule.hist_hi -ℤ rule.hist_lo) in
    (2 * above * (rule.hist_size - 1) + range) / (2 * range)

-- the bin of a value of the histogram's range
abbrev pub bin_of : StatsRule → ℤ → ℕ
bin_of rule v = bin_at rule (unsigned_abs (v -ℤ rule.hist_lo))

-- whether a sample falls into bin k
abbrev pub is_in_bin : StatsRule → ℕ → Sample → Bool
is_in_bin rule k s = not (int_lt s.value rule.hist_lo) && not (int_lt rule.hist_hi s.value) && (bin_of rule s.value == k)

abbrev pub has_index : List Dim → ℕ → ℕ → Sample → Bool
has_index dims d k s = index_in dims d s.place == k

-- the sum of the values at each index in dimension d
abbrev pub profile : StatsRule → List Dim → ℕ → List Sample → List ℤ
profile rule dims d xs = if rule.profiles then table (λ k. value_where (has_index dims d k) xs) 0 (size_in dims d) else []

-- the numbers of these samples
unfoldable pub measured : StatsRule → ℤ → List Dim → List Sample → Measure
measured rule id dims xs = record {
  id = id;
  n = length xs;
  min = (least xs).value;
  min_at = (least xs).place;
  max = (greatest xs).value;
  max_at = (greatest xs).place;
  total = sum_of (λ s. s.value) xs;
  squares = sum_by (λ s. square s.value) xs;
  border = value_where (is_on_border rule dims) xs;
  border_n = count_where (is_on_border rule dims) xs;
  over = count_where (is_over rule) xs;
  m0 = value_where (is_over rule) xs;
  mx = moment rule dims 0 xs;
  my = moment rule dims 1 xs;
  below = count_where (is_below rule) xs;
  bins = table (λ k. pos (count_where (is_in_bin rule k) xs)) 0 rule.hist_size;
  above = count_where (is_above rule) xs;
  x = profile rule dims 0 xs;
  y = profile rule dims 1 xs;
}

-- the measure of the samples in these bytes, which stand at the places from `from` on
unfoldable pub measure_of : StatsRule → ℤ → SampleType → List Dim → ℕ → List ℕ → Measure
measure_of rule id kind dims from bytes = measured rule id dims (placed from (samples_of kind bytes))

abbrev pub worked_dims : List Dim
worked_dims = record { size = 2; offset = pos 0; binning = pos 1; reverse = false } ∷ record { size = 2; offset = pos 0; binning = pos 1; reverse = false } ∷ []

abbrev pub worked_rule : StatsRule
worked_rule = record { threshold = pos 3; border = 1; hist_size = 6; hist_lo = pos 0; hist_hi = pos 10; profiles = true }

-- the frame 1 2 3 4 of 2 by 2
pub worked_frame : measured worked_rule (pos 1) worked_dims (placed 0 (pos 1 ∷ pos 2 ∷ pos 3 ∷ pos 4 ∷ [])) ≡ record {
  id = pos 1;
  n = 4;
  min = pos 1;
  min_at = 0;
  max = pos 4;
  max_at = 3;
  total = pos 10;
  squares = 30;
  border = pos 10;
  border_n = 4;
  over = 2;
  m0 = pos 7;
  mx = pos 4;
  my = pos 7;
  below = 0;
  bins = pos 0 ∷ pos 2 ∷ pos 2 ∷ pos 0 ∷ pos 0 ∷ pos 0 ∷ [];
  above = 0;
  x = pos 4 ∷ pos 6 ∷ [];
  y = pos 3 ∷ pos 7 ∷ [];
}
unfolding measured
worked_frame = refl

-- a histogram of six bins from 0 to 10
pub worked_bins : (measured worked_rule (pos 1) worked_dims (placed 0 (pos 0 ∷ pos 10 ∷ negsuc 0 ∷ pos 11 ∷ pos 1 ∷ pos 3 ∷ []))).bins
    ≡ pos 1 ∷ pos 1 ∷ pos 1 ∷ pos 0 ∷ pos 0 ∷ pos 1 ∷ []
unfolding measured
worked_bins = refl
