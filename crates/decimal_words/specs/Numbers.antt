-- Decimal numbers as words spell them.
use Rattle.std.specs.Prelude.{◌≡◌, ℕ, ℤ, pos, negsuc, codes, refl, ◌&&◌, ◌==◌, nat_le, Bool, List, length, drop, slice_index, Option, Some, None, if◌then◌else◌}
use Rattle.std.specs.Option.{option_map}
use Rattle.std.specs.Char.{is_ascii_digit}
use Rattle.std.specs.List.{list_all}
use Rattle.std.specs.Str.Parse.{digits_value}
use lib.IntN.{neg_ℤ}

-- 1 to `most` digits
abbrev pub are_digits : (most : ℕ) → List ℕ → Bool
are_digits most word = nat_le 1 (length word) && nat_le (length word) most && list_all is_ascii_digit word

-- the number that such a word spells, where it is one from `least` to `most`
abbrev pub number_of : (digits least most : ℕ) → List ℕ → Option ℕ
number_of digits least most word =
    let n = digits_value 10 word in
    if are_digits digits word && nat_le least n && nat_le n most then Some n else None

-- a minus sign, and digits, or digits alone; the number has 32 bits with its sign
abbrev pub integer_of : List ℕ → Option ℤ
integer_of word =
    if slice_index word 0 == 45
    then option_map (λ n. neg_ℤ (pos n)) (number_of 10 0 2147483648 (drop 1 word))
    else option_map pos (number_of 10 0 2147483647 word)

-- leading zeros are digits, too; a sign, a space and one digit more are not
leading_zeros : number_of 4 1 4096 (codes "0100") ≡ Some 100
leading_zeros = refl

five_digits : number_of 4 1 4096 (codes "00100") ≡ None
five_digits = refl

signed : number_of 10 0 4294967295 (codes "+1") ≡ None
signed = refl

least : integer_of (codes "-2147483648") ≡ Some (negsuc 2147483647)
least = refl

past_the_greatest : integer_of (codes "2147483648") ≡ None
past_the_greatest = refl
