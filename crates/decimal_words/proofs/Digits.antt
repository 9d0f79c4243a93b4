-- What digits parse to.
use Rattle.std.specs.Prelude.{◌≡◌, ℕ, ◌<◌, ◌≤◌, ◌&&◌, List, [], ◌∷◌, length, true, Result, Ok, refl}
use Rattle.std.specs.Char.{is_ascii_digit}
use Rattle.std.specs.List.{list_all}
use Rattle.std.specs.Str.{all_ascii_digits}
use Rattle.std.specs.Str.Parse.{digits_value, ParsesUnsigned}
use Rattle.std.specs.Prelude.{nat_le}
use Rattle.std.proofs.lemmas.Bool.{and_parts, leb-true}
use Rattle.decimal_words.specs.Numbers.{are_digits}
use Rattle.std.proofs.Common.{ap, sym, ◌∙◌, arith}
use Rattle.std.proofs.lemmas.Str.Parse.{IsNumeralModel, numerals_by_value, tells_all_ascii_digits, digits_value_short, parse_gives}

same_digits : (word : List ℕ) → list_all is_ascii_digit word ≡ all_ascii_digits word
same_digits [] = refl
same_digits (c ∷ cs) = ap (λ b. is_ascii_digit c && b) (same_digits cs)

own : IsNumeralModel (λ ds. all_ascii_digits ds ≡ true) (digits_value 10)
own = numerals_by_value (λ ds. all_ascii_digits ds ≡ true) tells_all_ascii_digits

-- at most ten digits stand for a number of 64 bits
pub few_digits : {E : Type 0} (word : List ℕ) (r : Result ℕ E) → ParsesUnsigned 64 10 word r → 0 < length word → length word ≤ 10
    → list_all is_ascii_digit word ≡ true → r ≡ Ok (digits_value 10 word)
few_digits word r parses some few digits =
    let all = sym (same_digits word) ∙ digits in
    parse_gives own 64 word r parses all some (omega (arith, digits_value_short own word 10 all few))

-- the parts of the test
pub is_spelled : (most : ℕ) (word : List ℕ) → are_digits most word ≡ true → (1 ≤ length word) × (length word ≤ most) × (list_all is_ascii_digit word ≡ true)
is_spelled most word is =
    let p = and_parts (nat_le 1 (length word) && nat_le (length word) most) (list_all is_ascii_digit word) is in
    let q = and_parts (nat_le 1 (length word)) (nat_le (length word) most) p.0 in
    (leb-true 1 (length word) q.0, leb-true (length word) most q.1, p.1)
