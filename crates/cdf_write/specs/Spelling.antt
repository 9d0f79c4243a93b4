-- How the parts of a netCDF classic header are spelled (netCDF classic format specification): words of
-- four bytes, most significant first; names and values padded to whole words.
use Rattle.std.specs.Prelude.{ℕ, ◌+◌, ◌-◌, ◌%◌, ℤ, List, [], ◌∷◌, ◌++◌, length, take, replicate, ◌==◌, if◌then◌else◌}
use Rattle.std.specs.List.{concat, flat_map}
use Rattle.std.specs.Int.{w32, w64, to_be_bytes, cast_unsigned}

abbrev pub word : ℕ → List ℕ
word n = to_be_bytes w32 n

abbrev pub double_word : ℕ → List ℕ
double_word n = to_be_bytes w64 n

abbrev pub signed_word : ℤ → List ℕ
signed_word v = word (cast_unsigned w32 v)

-- the bytes that are missing to a whole word
abbrev pub gap : ℕ → ℕ
gap n = (4 - n % 4) % 4

-- a length raised to whole words
abbrev pub padded_length : ℕ → ℕ
padded_length n = n + gap n

-- header padding is zero bytes
abbrev pub padded : List ℕ → List ℕ
padded bytes = bytes ++ replicate (gap (length bytes)) 0

-- name: nelems, namestring
abbrev pub name_field : List ℕ → List ℕ
name_field name = word (length name) ++ padded name

-- a list that isn't ABSENT: tag, nelems, the elements
abbrev pub element_list : ℕ → List (List ℕ) → List ℕ
element_list tag elements = word tag ++ word (length elements) ++ concat elements

abbrev pub absent : List ℕ
absent = word 0 ++ word 0

-- dim: name, dim_length
abbrev pub dimension : List ℕ → ℕ → List ℕ
dimension name len = name_field name ++ word len

-- att: name, nc_type, nelems, values
abbrev pub attribute : List ℕ → ℕ → ℕ → List ℕ → List ℕ
attribute name kind count values = name_field name ++ word kind ++ word count ++ padded values

abbrev pub int_attribute : List ℕ → List ℤ → List ℕ
int_attribute name values = attribute name 4 (length values) (flat_map signed_word values)

-- what fills the last word of a variable's values: the fill value of its type, where that is below a word
abbrev pub fill : ℕ → List ℕ
fill kind =
    if kind == 1 then 129 ∷ 129 ∷ 129 ∷ []
    else if kind == 2 then 0 ∷ 0 ∷ 0 ∷ []
    else if kind == 3 then 128 ∷ 1 ∷ []
    else []

-- the values of a variable in one record
abbrev pub padded_values : ℕ → List ℕ → List ℕ
padded_values kind values = values ++ take (gap (length values)) (fill kind)
