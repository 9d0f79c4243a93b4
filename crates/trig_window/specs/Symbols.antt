-- The symbols of a trigger expression's text. The longest symbol is read, and spaces between symbols are skipped.
use Rattle.std.specs.Prelude.{◌≡◌, ℕ, zero, suc, ◌+◌, ◌-◌, ◌*◌, ◌==◌, nat_le, ◌&&◌, List, [], ◌∷◌, ◌++◌, take, fold, pos, Option, Some, None, if◌then◌else◌}
use Rattle.std.specs.Prelude.{refl, codes}
use Rattle.std.specs.List.{prefix_len}
use Rattle.std.specs.Char.{is_ascii_digit}
use Rattle.nd_base.specs.declared.graph.Sign.{Sign}
use Rattle.nd_base.specs.declared.graph.Sign.TheVariants.{Or, And, Equal, NotEqual, Below, AtMost, Above, AtLeast, Plus, Minus, Times}
use Rattle.trig_window.specs.Marks.{Symbol}
use Rattle.trig_window.specs.Marks as symbol
use Rattle.trig_window.specs.Marks.{Token}

-- the number that digits spell
abbrev pub number_of : List ℕ → ℕ
number_of digits = fold (λ n d. n * 10 + (d - 48)) 0 digits

-- digits above the greatest 64-bit number are no symbol
abbrev pub digits_symbol : List ℕ → Symbol
digits_symbol digits =
    let n = number_of digits in
    if nat_le n 9223372036854775807 then symbol.Number (pos n) else symbol.Unknown

-- two bytes that are one sign: || && == != <= >=
abbrev pub pair_of : ℕ → ℕ → Option Sign
pair_of c d =
    if (c == 124) && (d == 124) then Some Or
    else if (c == 38) && (d == 38) then Some And
    else if (c == 61) && (d == 61) then Some Equal
    else if (c == 33) && (d == 61) then Some NotEqual
    else if (c == 60) && (d == 61) then Some AtMost
    else if (c == 62) && (d == 61) then Some AtLeast
    else None

-- a byte by itself: < > + - * ! ( ) A B
abbrev pub single_of : ℕ → Symbol
single_of c =
    if c == 60 then symbol.Sign Below
    else if c == 62 then symbol.Sign Above
    else if c == 43 then symbol.Sign Plus
    else if c == 45 then symbol.Sign Minus
    else if c == 42 then symbol.Sign Times
    else if c == 33 then symbol.Not
    else if c == 40 then symbol.Open
    else if c == 41 then symbol.Close
    else if c == 65 then symbol.A
    else if c == 66 then symbol.B
    else symbol.Unknown

-- a pair where there is one, or else the byte by itself
abbrev pub pair_or_single : ℕ → Option Sign → Symbol × ℕ
pair_or_single c (Some s) = (symbol.Sign s, 2)
pair_or_single c None = (single_of c, 1)

-- the longest symbol of a text that isn't digits, and how many bytes it has
abbrev pub mark_at : List ℕ → Symbol × ℕ
mark_at [] = (symbol.Unknown, 1)
mark_at (c ∷ []) = (single_of c, 1)
mark_at (c ∷ d ∷ rest) = pair_or_single c (pair_of c d)

-- The longest symbol that a text begins with, and how many bytes it has. Digits are read as far as they go.
unfoldable pub symbol_at : List ℕ → Symbol × ℕ
symbol_at text =
    let count = prefix_len is_ascii_digit text in
    if count == 0 then mark_at text else (digits_symbol (take count text), count)

-- the symbols of a text whose first byte has the place `at`, where `joined` bytes belong to a symbol before
unfoldable pub tokens_from : (at joined : ℕ) → List ℕ → List Token
tokens_from at joined [] = []
tokens_from at (suc joined) (c ∷ cs) = tokens_from (at + 1) joined cs
tokens_from at zero (c ∷ cs) =
    let found = symbol_at (c ∷ cs) in
    (if c == 32 then [] else record { symbol = found.0; at = at } ∷ []) ++ tokens_from (at + 1) (found.1 - 1) cs

-- the symbols of a text, each with its place
abbrev pub tokens : List ℕ → List Token
tokens text = tokens_from 0 0 text

longest_symbols : tokens (codes "A<= 12")
    ≡ record { symbol = symbol.A; at = 0 } ∷ record { symbol = symbol.Sign AtMost; at = 1 } ∷ record { symbol = symbol.Number (pos 12); at = 4 } ∷ []
unfolding tokens_from symbol_at
longest_symbols = refl
