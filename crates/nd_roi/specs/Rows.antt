-- Worked examples of regions.
use Rattle.std.specs.Prelude.{◌≡◌, ℕ, ℤ, pos, negsuc, Bool, true, false, List, [], ◌∷◌, Some, None, refl}
use Rattle.nd_base.specs.declared.array.Dim.{Dim}
use Rattle.nd_base.specs.declared.array.SampleType.TheVariants.{Int8, UInt8, Int16, UInt16}
use Rattle.nd_base.specs.declared.graph.RoiRule.{RoiRule}
use Rattle.nd_roi.specs.Cut.{region_dims}
use Rattle.nd_base.specs.Places.{indices, place}
use Rattle.nd_roi.specs.Region.{region_samples}

abbrev plain : ℕ → Dim
plain n = record { size = n; offset = pos 0; binning = pos 1; reverse = false }

abbrev cut_out : (min size bin : List ℤ) → List Bool → RoiRule
cut_out min size bin reverse = record { min = min; size = size; bin = bin; reverse = reverse; auto = []; scale = 1; out = None }

abbrev one_to_eight : List ℤ
one_to_eight = pos 1 ∷ pos 2 ∷ pos 3 ∷ pos 4 ∷ pos 5 ∷ pos 6 ∷ pos 7 ∷ pos 8 ∷ []

abbrev of_eight : RoiRule → List ℤ
of_eight rule = region_samples rule UInt8 (plain 8 ∷ []) one_to_eight

min_beyond_the_end : of_eight (cut_out (pos 9 ∷ []) (pos 3 ∷ []) [] []) ≡ pos 8 ∷ []
min_beyond_the_end = refl

size_of_none : of_eight (cut_out (pos 2 ∷ []) (pos 0 ∷ []) [] []) ≡ pos 3 ∷ []
size_of_none = refl

bin_beyond_the_size : of_eight (cut_out (pos 0 ∷ []) (pos 2 ∷ []) (pos 9 ∷ []) []) ≡ pos 3 ∷ []
bin_beyond_the_size = refl

remainder_left_out : of_eight (cut_out (pos 1 ∷ []) (pos 5 ∷ []) (pos 2 ∷ []) []) ≡ pos 5 ∷ pos 9 ∷ []
remainder_left_out = refl

remainder_left_out_reversed : of_eight (cut_out (pos 1 ∷ []) (pos 5 ∷ []) (pos 2 ∷ []) (true ∷ [])) ≡ pos 9 ∷ pos 5 ∷ []
remainder_left_out_reversed = refl

binned_dimension : region_dims (cut_out (pos 1 ∷ []) (pos 5 ∷ []) (pos 2 ∷ []) []) (plain 8 ∷ []) ≡ record {
  size = 2;
  offset = pos 1;
  binning = pos 2;
  reverse = false;
} ∷ []
binned_dimension = refl

abbrev of_four : RoiRule → List ℤ
of_four rule = region_samples rule UInt16 (plain 2 ∷ plain 2 ∷ []) (pos 65535 ∷ pos 65535 ∷ pos 65535 ∷ pos 65535 ∷ [])

sum_is_reduced : of_four (cut_out [] [] (pos 2 ∷ pos 2 ∷ []) []) ≡ pos 65532 ∷ []
sum_is_reduced = refl

sum_is_scaled_first : of_four (record (cut_out [] [] (pos 2 ∷ pos 2 ∷ []) []) { scale = 4 }) ≡ pos 65535 ∷ []
sum_is_scaled_first = refl

divides_toward_zero : region_samples (record (cut_out [] [] [] []) { scale = 2; out = Some Int8 }) Int16 (plain 3 ∷ []) (negsuc 2 ∷ pos 3 ∷ pos 300 ∷ [])
    ≡ negsuc 0 ∷ pos 1 ∷ negsuc 105 ∷ []
divides_toward_zero = refl

first_number_is_fastest : indices (2 ∷ 3 ∷ []) ≡ (0 ∷ 0 ∷ []) ∷ (1 ∷ 0 ∷ []) ∷ (0 ∷ 1 ∷ []) ∷ (1 ∷ 1 ∷ []) ∷ (0 ∷ 2 ∷ []) ∷ (1 ∷ 2 ∷ []) ∷ []
first_number_is_fastest = refl

place_of_an_index : place (2 ∷ 3 ∷ []) (1 ∷ 2 ∷ []) ≡ 5
place_of_an_index = refl
