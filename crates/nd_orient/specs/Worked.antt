-- Worked examples of orientations and corrections.
use Rattle.std.specs.Prelude.{◌≡◌, ℕ, ℤ, pos, negsuc, Bool, true, false, List, [], ◌∷◌, map, refl}
use Rattle.nd_base.specs.declared.array.Dim.{Dim}
use Rattle.nd_orient.specs.Orientation.{oriented_dims, oriented_samples}
use Rattle.nd_base.specs.declared.array.SampleType.TheVariants.{Int8, UInt8, Int32}
use Rattle.nd_orient.specs.declared.rule.CorrectRule.{CorrectRule}
use Rattle.nd_orient.specs.Correction.{corrected_sample, corrected_samples}
use Rattle.nd_orient.specs.Modes.{composed, inverse_of}

abbrev plain : ℕ → Dim
plain n = record { size = n; offset = pos 0; binning = pos 1; reverse = false }

abbrev square : List Dim
square = plain 2 ∷ plain 2 ∷ []

abbrev one_to_four : List ℤ
one_to_four = pos 1 ∷ pos 2 ∷ pos 3 ∷ pos 4 ∷ []

turned_clockwise : oriented_samples 1 square one_to_four ≡ pos 3 ∷ pos 1 ∷ pos 4 ∷ pos 2 ∷ []
turned_clockwise = refl

turned_dimensions : map (λ d. d.reverse) (oriented_dims 1 square) ≡ true ∷ false ∷ []
turned_dimensions = refl

-- three columns and two rows
abbrev wide : List Dim
wide = plain 3 ∷ plain 2 ∷ []

-- 1 2 3
-- 4 5 6
abbrev of_wide : ℕ → List ℤ
of_wide mode = oriented_samples mode wide (pos 1 ∷ pos 2 ∷ pos 3 ∷ pos 4 ∷ pos 5 ∷ pos 6 ∷ [])

mode_0 : of_wide 0 ≡ pos 1 ∷ pos 2 ∷ pos 3 ∷ pos 4 ∷ pos 5 ∷ pos 6 ∷ []
mode_0 = refl

mode_1 : of_wide 1 ≡ pos 4 ∷ pos 1 ∷ pos 5 ∷ pos 2 ∷ pos 6 ∷ pos 3 ∷ []
mode_1 = refl

mode_2 : of_wide 2 ≡ pos 6 ∷ pos 5 ∷ pos 4 ∷ pos 3 ∷ pos 2 ∷ pos 1 ∷ []
mode_2 = refl

mode_3 : of_wide 3 ≡ pos 3 ∷ pos 6 ∷ pos 2 ∷ pos 5 ∷ pos 1 ∷ pos 4 ∷ []
mode_3 = refl

mode_4 : of_wide 4 ≡ pos 3 ∷ pos 2 ∷ pos 1 ∷ pos 6 ∷ pos 5 ∷ pos 4 ∷ []
mode_4 = refl

mode_5 : of_wide 5 ≡ pos 1 ∷ pos 4 ∷ pos 2 ∷ pos 5 ∷ pos 3 ∷ pos 6 ∷ []
mode_5 = refl

mode_6 : of_wide 6 ≡ pos 4 ∷ pos 5 ∷ pos 6 ∷ pos 1 ∷ pos 2 ∷ pos 3 ∷ []
mode_6 = refl

mode_7 : of_wide 7 ≡ pos 6 ∷ pos 3 ∷ pos 5 ∷ pos 2 ∷ pos 4 ∷ pos 1 ∷ []
mode_7 = refl

-- the dimensions change places with their offsets and binnings
abbrev placed : (size offset binning : ℕ) → Bool → Dim
placed size offset binning reverse = record { size = size; offset = pos offset; binning = pos binning; reverse = reverse }

dimensions_of_mode_1 : oriented_dims 1 (placed 3 10 1 false ∷ placed 2 20 4 true ∷ plain 5 ∷ [])
    ≡ placed 2 20 4 false ∷ placed 3 10 1 false ∷ plain 5 ∷ []
dimensions_of_mode_1 = refl

one_dimension_stays : oriented_dims 1 (plain 3 ∷ []) ≡ plain 3 ∷ []
one_dimension_stays = refl

-- a turn and then a mirror, and a mirror and then a turn
turn_then_mirror : composed 1 4 ≡ 5
turn_then_mirror = refl

mirror_then_turn : composed 4 1 ≡ 7
mirror_then_turn = refl

inverse_of_a_mirrored_turn : inverse_of 5 ≡ 5
inverse_of_a_mirrored_turn = refl

inverse_of_a_turn : inverse_of 1 ≡ 3
inverse_of_a_turn = refl

-- corrections

abbrev half_more : CorrectRule
half_more = record { offset = pos 10; num = pos 3; den = pos 2; low = pos 0; high = pos 10 }

abbrev threes : List ℤ
threes = pos 3 ∷ pos 3 ∷ pos 3 ∷ pos 3 ∷ []

corrected_row : corrected_samples half_more UInt8 threes one_to_four ≡ pos 7 ∷ pos 9 ∷ pos 10 ∷ pos 10 ∷ []
corrected_row = refl

-- -3 / 2 is -1
toward_zero : corrected_sample half_more UInt8 (pos 2) (pos 3) ≡ pos 9
toward_zero = refl

-- a range beyond the type's is brought to its end
range_of_the_type : corrected_sample (record half_more { low = pos 300; high = pos 400 }) UInt8 (pos 4) (pos 3) ≡ pos 255
range_of_the_type = refl

range_below_the_type : corrected_sample (record half_more { low = negsuc 999; high = negsuc 499 }) Int8 (pos 4) (pos 3) ≡ negsuc 127
range_below_the_type = refl

-- a product beyond 64 bits
far_apart : corrected_sample (record { offset = pos 1; num = negsuc 2147483647; den = pos 2147483647; low = negsuc 2147483647; high = pos 2147483647 }) Int32
    (pos 2147483647) (negsuc 2147483647) ≡ negsuc 2147483647
far_apart = refl
