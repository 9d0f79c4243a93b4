-- Worked rows of series.
use Rattle.std.specs.Prelude.{◌≡◌, ℕ, ℤ, pos, negsuc, false, List, [], ◌∷◌, None, Some, codes, refl}
use Rattle.std.specs.Fmt.{digits}
use Rattle.nd_base.specs.Array.{Array}
use Rattle.nd_base.specs.declared.array.Dim.{Dim}
use Rattle.nd_base.specs.declared.array.SampleType.{SampleType}
use Rattle.nd_base.specs.declared.array.SampleType.TheVariants.{UInt8, Int16}
use Rattle.nd_stats.specs.Measured.{measured}
use Rattle.nd_series.specs.declared.region.Box4.{Box4}
use Rattle.nd_series.specs.declared.row.Part.{Part}
use Rattle.nd_series.specs.declared.row.SeriesRow.{SeriesRow}
use Rattle.nd_series.specs.InPlace.{numbers_of, row_in_place}
use Rattle.nd_series.specs.Kept.{Kept, no_rows, fallen, after_pushes, sums_over}
use Rattle.nd_series.specs.Regions.{row_of}
use Rattle.nd_series.specs.Stacks.{series_of}
use Rattle.nd_series.specs.Text.{series_text}
use Rattle.nd_series.specs.Words.{regions_in, length_in}

abbrev box : (x y w h : ℕ) → Box4
box x y w h = record { x = x; y = y; w = w; h = h }

abbrev part : (min max total border : ℤ) → ℕ → Part
part min max total border n = record { min = min; max = max; total = total; border = border; border_n = n }

abbrev plain : ℕ → Dim
plain n = record { size = n; offset = pos 0; binning = pos 1; reverse = false }

abbrev frame : ℤ → SampleType → List Dim → List ℤ → Array
frame id kind dims samples = record { id = id; stamp = 0; sec = pos 0; nsec = pos 0; kind = kind; dims = dims; samples = samples; attrs = [] }

-- the frame 1 2 3 4 of 2 by 2
abbrev of_four : Array
of_four = frame (pos 1) UInt8 (plain 2 ∷ plain 2 ∷ []) (pos 1 ∷ pos 2 ∷ pos 3 ∷ pos 4 ∷ [])

first_row_and_last_sample : row_of (box 0 0 2 1 ∷ box 1 1 1 1 ∷ []) of_four ≡ record {
  id = pos 1;
  parts = part (pos 1) (pos 2) (pos 3) (pos 3) 2 ∷ part (pos 4) (pos 4) (pos 4) (pos 4) 1 ∷ [];
}
unfolding measured
first_row_and_last_sample = refl

first_row_in_place : row_in_place (box 0 0 2 1 ∷ box 1 1 1 1 ∷ []) of_four ≡ record {
  id = pos 1;
  parts = part (pos 1) (pos 2) (pos 3) (pos 3) 2 ∷ part (pos 4) (pos 4) (pos 4) (pos 4) 1 ∷ [];
}
unfolding numbers_of
first_row_in_place = refl

-- one region reaches past the frame, one begins behind it, and one is asked for twice
past_the_frame : row_of (box 1 0 5 9 ∷ box 9 9 1 1 ∷ box 9 9 1 1 ∷ []) of_four ≡ record {
  id = pos 1;
  parts = part (pos 2) (pos 4) (pos 6) (pos 6) 2 ∷ part (pos 4) (pos 4) (pos 4) (pos 4) 1 ∷ part (pos 4) (pos 4) (pos 4) (pos 4) 1 ∷ [];
}
unfolding measured
past_the_frame = refl

-- one dimension: its first and its last sample are the border, and y and h aren't used
of_one_dimension : row_of (box 0 7 3 0 ∷ []) (frame (pos 2) Int16 (plain 3 ∷ []) (pos 4 ∷ pos 5 ∷ pos 6 ∷ [])) ≡ record {
  id = pos 2;
  parts = part (pos 4) (pos 6) (pos 15) (pos 10) 2 ∷ [];
}
unfolding measured
of_one_dimension = refl

-- three dimensions: the third is taken whole, and the one sample inside is no border sample
of_three_dimensions : row_of (box 1 0 3 3 ∷ []) (frame (pos 3) Int16 (plain 4 ∷ plain 3 ∷ plain 3 ∷ [])
    (pos 9 ∷ pos 1 ∷ pos 1 ∷ pos 1 ∷ pos 9 ∷ pos 1 ∷ pos 1 ∷ pos 1 ∷ pos 9 ∷ pos 1 ∷ pos 1 ∷ pos 1
    ∷ pos 9 ∷ pos 1 ∷ pos 1 ∷ pos 1 ∷ pos 9 ∷ pos 1 ∷ negsuc 4 ∷ pos 1 ∷ pos 9 ∷ pos 1 ∷ pos 1 ∷ pos 1
    ∷ pos 9 ∷ pos 1 ∷ pos 1 ∷ pos 1 ∷ pos 9 ∷ pos 1 ∷ pos 1 ∷ pos 1 ∷ pos 9 ∷ pos 1 ∷ pos 1 ∷ pos 2 ∷ [])) ≡ record {
      id = pos 3;
      parts = part (negsuc 4) (pos 2) (pos 22) (pos 27) 26 ∷ [];
    }
unfolding measured
of_three_dimensions = refl

-- a row of one region with this total
abbrev with_total : ℤ → SeriesRow
with_total total = record { id = pos 1; parts = part (pos 0) (pos 0) total (pos 0) 0 ∷ [] }

abbrev of_two : Kept
of_two = after_pushes (no_rows 1 2) (with_total (pos 5) ∷ with_total (pos 6) ∷ [])

third_push_gives_the_first_row : fallen of_two ≡ Some (with_total (pos 5))
third_push_gives_the_first_row = refl

abbrev of_three : Kept
of_three = after_pushes of_two (with_total (pos 7) ∷ [])

last_two_are_kept : of_three.rows ≡ with_total (pos 6) ∷ with_total (pos 7) ∷ []
last_two_are_kept = refl

last_two_are_summed : sums_over of_three.regions of_three.rows ≡ pos 13 ∷ []
last_two_are_summed = refl

longer_than_the_stack : (after_pushes (no_rows 1 5) (with_total (pos 5) ∷ with_total (pos 6) ∷ [])).rows ≡ with_total (pos 5) ∷ with_total (pos 6) ∷ []
longer_than_the_stack = refl

without_frames : sums_over 2 [] ≡ pos 0 ∷ pos 0 ∷ []
without_frames = refl

-- the series of these two regions over that frame, with up to five rows
abbrev of_one_frame : Kept
of_one_frame = series_of 5 (box 0 0 2 1 ∷ box 1 1 1 1 ∷ []) (of_four ∷ [])

one_frame_as_text : series_text of_one_frame ≡ codes "1 1/2/3/3/2 4/4/4/4/1\nsum 3 4\n"
unfolding measured digits
one_frame_as_text = refl

-- one dimension: the last of two frames is kept
one_row_as_text : series_text (series_of 1 (box 0 0 3 1 ∷ []) (frame (pos 1) Int16 (plain 3 ∷ []) (pos 1 ∷ pos 2 ∷ pos 3 ∷ [])
    ∷ frame (pos 2) Int16 (plain 3 ∷ []) (pos 4 ∷ pos 5 ∷ pos 6 ∷ []) ∷ [])) ≡ codes "2 4/6/15/10/2\nsum 15\n"
unfolding measured digits
one_row_as_text = refl

no_frames_as_text : series_text (series_of 5 (box 0 0 2 1 ∷ box 1 1 1 1 ∷ []) []) ≡ codes "sum 0 0\n"
unfolding digits
no_frames_as_text = refl

two_regions : regions_in (codes "0,0,2,1;1,1,1,1") ≡ Some (box 0 0 2 1 ∷ box 1 1 1 1 ∷ [])
two_regions = refl

-- zeros may lead, and a number is at most 67,108,864
zeros_lead : regions_in (codes "00000001,2,3,67108864") ≡ Some (box 1 2 3 67108864 ∷ [])
zeros_lead = refl

too_far : regions_in (codes "0,0,1,67108865") ≡ None
too_far = refl

nine_digits : regions_in (codes "000000001,2,3,4") ≡ None
nine_digits = refl

three_numbers : regions_in (codes "0,0,1") ≡ None
three_numbers = refl

-- a semicolon stands between two regions alone
one_semicolon_more : regions_in (codes "0,0,2,1;") ≡ None
one_semicolon_more = refl

no_region : regions_in [] ≡ None
no_region = refl

longest : length_in (codes "4096") ≡ Some 4096
longest = refl

no_length : length_in (codes "0") ≡ None
no_length = refl
