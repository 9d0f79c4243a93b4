-- The words of a series on a command line.
use Rattle.std.specs.Prelude.{ℕ, ◌==◌, ◌&&◌, nat_le, List, [], ◌∷◌, length, Option, None, Some, if◌then◌else◌}
use Rattle.std.specs.List.{list_all, slice_split, flat_map}
use Rattle.std.specs.Option.{is_some, option_to_list}
use Rattle.decimal_words.specs.Numbers.{number_of}
use Rattle.nd_series.specs.declared.region.Box4.{Box4}

-- a place or a size of a region
abbrev pub side_in : List ℕ → Option ℕ
side_in text = number_of 8 0 67108864 text

-- a number of rows
abbrev pub length_in : List ℕ → Option ℕ
length_in text = number_of 4 1 4096 text

abbrev pub box_with : (x y w h : Option ℕ) → Option Box4
box_with (Some x) (Some y) (Some w) (Some h) = Some (record { x = x; y = y; w = w; h = h })
box_with _ _ _ _ = None

-- the region of four numbers
abbrev pub box_of : List (List ℕ) → Option Box4
box_of (x ∷ y ∷ w ∷ h ∷ []) = box_with (side_in x) (side_in y) (side_in w) (side_in h)
box_of _ = None

-- that of four numbers with commas between them
abbrev pub region_in : List ℕ → Option Box4
region_in text = box_of (slice_split (λ c. c == 44) text)

-- up to 32 regions
abbrev pub regions_of : List (List ℕ) → Option (List Box4)
regions_of groups =
    if nat_le (length groups) 32 && list_all (λ g. is_some (region_in g)) groups then Some (flat_map (λ g. option_to_list (region_in g)) groups) else None

-- those with semicolons between them
abbrev pub regions_in : List ℕ → Option (List Box4)
regions_in text = regions_of (slice_split (λ c. c == 59) text)
