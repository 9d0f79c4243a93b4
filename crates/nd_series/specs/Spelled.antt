-- How regions are spelled.
use Rattle.std.specs.Prelude.{◌≡◌, ℕ, true, List, [], ◌∷◌, length}
use Rattle.std.specs.Char.{is_ascii_digit}
use Rattle.std.specs.List.{list_all, join_with_byte, AllZip}
use Rattle.std.specs.Str.Parse.{digits_value}
use Rattle.nd_base.specs.GraphRules.{IsBetween}
use Rattle.nd_series.specs.declared.region.Box4.{Box4}

-- a number in one to so many decimal digits, from `least` to `most`
pub record IsNumber (digits least most : ℕ) (text : List ℕ) (n : ℕ) : Type 0 where
  pub count : IsBetween 1 digits (length text)
  pub decimal : list_all is_ascii_digit text ≡ true
  pub value : digits_value 10 text ≡ n
  pub range : IsBetween least most n

-- four numbers with commas between them
pub record IsRegion (text : List ℕ) (b : Box4) : Type 0 where
  pub words : List (List ℕ)
  pub joined : text ≡ join_with_byte 44 words
  pub sides : AllZip (IsNumber 8 0 67108864) words (b.x ∷ b.y ∷ b.w ∷ b.h ∷ [])

-- one to 32 regions with semicolons between them
pub record AreRegions (text : List ℕ) (boxes : List Box4) : Type 0 where
  pub groups : List (List ℕ)
  pub joined : text ≡ join_with_byte 59 groups
  pub regions : AllZip IsRegion groups boxes
  pub range : IsBetween 1 32 (length boxes)
