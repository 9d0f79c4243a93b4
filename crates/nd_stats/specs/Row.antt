-- A measure as a line of text.
use Rattle.std.specs.Prelude.{ℕ, ℤ, List, [], ◌∷◌, ◌++◌, length, codes, nat_lt, if◌then◌else◌}
use Rattle.std.specs.List.{flat_map}
use Rattle.std.specs.Fmt.{decimal, signed_decimal}
use Rattle.nd_base.specs.declared.measure.Measure.{Measure}

-- numbers with a comma before each
abbrev pub with_commas : List ℤ → List ℕ
with_commas vs = flat_map (λ v. codes "," ++ signed_decimal v) vs

-- numbers with a comma between them
abbrev pub comma_list : List ℤ → List ℕ
comma_list [] = []
comma_list (v ∷ vs) = signed_decimal v ++ with_commas vs

abbrev pub counts_text : Measure → List ℕ
counts_text m = signed_decimal m.id ++ codes " n=" ++ decimal m.n

-- each extreme with its place
abbrev pub extremes_text : Measure → List ℕ
extremes_text m =
    codes " min=" ++ signed_decimal m.min ++ codes "@" ++ decimal m.min_at
    ++ codes " max=" ++ signed_decimal m.max ++ codes "@" ++ decimal m.max_at

abbrev pub sums_text : Measure → List ℕ
sums_text m =
    codes " total=" ++ signed_decimal m.total ++ codes " squares=" ++ decimal m.squares
    ++ codes " border=" ++ signed_decimal m.border ++ codes "/" ++ decimal m.border_n

abbrev pub moments_text : Measure → List ℕ
moments_text m =
    codes " over=" ++ decimal m.over ++ codes " m0=" ++ signed_decimal m.m0 ++ codes " mx=" ++ signed_decimal m.mx ++ codes " my=" ++ signed_decimal m.my

-- with a histogram its counts
abbrev pub histogram_text : Measure → List ℕ
histogram_text m =
    if nat_lt 0 (length m.bins) then codes " below=" ++ decimal m.below ++ codes " bins=" ++ comma_list m.bins ++ codes " above=" ++ decimal m.above else []

-- with profiles their sums
abbrev pub profiles_text : Measure → List ℕ
profiles_text m =
    if nat_lt 0 (length m.x) then codes " x=" ++ comma_list m.x ++ codes " y=" ++ comma_list m.y else []

-- the line of a measure, with its line end
abbrev pub row : Measure → List ℕ
row m = counts_text m ++ extremes_text m ++ sums_text m ++ moments_text m ++ histogram_text m ++ profiles_text m ++ codes "\n"
