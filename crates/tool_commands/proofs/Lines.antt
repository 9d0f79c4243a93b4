-- A text that is shown in one line has no line feed.
use Rattle.std.proofs.Common.{◌≡◌, ◌≢◌, ◌==◌, ℕ, zero, suc, ◌+◌, ◌/◌, ◌%◌, List, [], ◌∷◌, ◌++◌, Bool, true, false, nat_lt, codes, subst, refl, arith, if◌then◌else◌}
use Rattle.std.specs.Prelude.{All, flat_map}
use Rattle.std.specs.List.{AllByRecursion}
use Rattle.std.specs.Char.{encode_utf8, is_ascii_control}
use Rattle.std.specs.Fmt.{digits, digits_onto, digit_glyph}
use Rattle.std.specs.Str.{chars}
use Rattle.std.proofs.lemmas.List.Elements.{All-from_recursion}
use Rattle.tool_commands.specs.StatusText.{shown_char, one_line}

abbrev NoFeed : List ℕ → Type 0
NoFeed bs = AllByRecursion (λ b. b ≢ 10) bs

joins : (xs ys : List ℕ) → NoFeed xs → NoFeed ys → NoFeed (xs ++ ys)
joins [] ys h k = k
joins (x ∷ xs) ys h k = (h.0, joins xs ys h.1 k)

chooses : (b : Bool) (xs ys : List ℕ) → NoFeed xs → NoFeed ys → NoFeed (if b then xs else ys)
chooses true xs ys h k = h
chooses false xs ys h k = k

above : (n : ℕ) (m : ℕ) → 11 + m ≡ n → n ≢ 10
above n m is e = absurd (omega (arith, is, e))

-- DIGITS

glyph_if : (b : Bool) (d : ℕ) → (if b then 48 + d else 87 + d) ≢ 10
glyph_if true d e = absurd (omega (arith, e))
glyph_if false d e = absurd (omega (arith, e))

glyph : (d : ℕ) → digit_glyph false d ≢ 10
glyph d = glyph_if (nat_lt d 10) d

onto : (k n : ℕ) (acc : List ℕ) → NoFeed acc → NoFeed (digits_onto k 16 false n acc)
onto zero n acc h = h
onto (suc k) n acc h =
    let one : List ℕ = digit_glyph false (n % 16) ∷ acc in
    let plain : NoFeed one = (glyph (n % 16), h) in
    chooses (n / 16 == 0) one (digits_onto k 16 false (n / 16) one) plain (onto k (n / 16) one plain)

in_digits : (n : ℕ) → NoFeed (digits 16 false n)
unfolding digits
in_digits n = onto 64 n [] tt

-- CHARACTERS

in_code : (n : ℕ) → NoFeed (codes "\\u{" ++ digits 16 false n ++ codes "}")
in_code n =
    joins (codes "\\u{") (digits 16 false n ++ codes "}")
    ((λ e. absurd (omega (arith, e))), ((λ e. absurd (omega (arith, e))), ((λ e. absurd (omega (arith, e))), tt)))
    (joins (digits 16 false n) (codes "}") (in_digits n) ((λ e. absurd (omega (arith, e))), tt))

in_encoded : (c : ℕ) → is_ascii_control c ≡ false → NoFeed (encode_utf8 c)
unfolding encode_utf8
in_encoded c h =
    chooses (nat_lt c 128) _ _ ((λ e. control (subst (λ d. is_ascii_control d ≡ false) e h)), tt)
    (chooses (nat_lt c 2048) _ _ ((λ e. absurd (omega (arith, e))), ((λ e. absurd (omega (arith, e))), tt))
    (chooses (nat_lt c 65536) _ _ ((λ e. absurd (omega (arith, e))), ((λ e. absurd (omega (arith, e))), ((λ e. absurd (omega (arith, e))), tt)))
    ((λ e. absurd (omega (arith, e))), ((λ e. absurd (omega (arith, e))), ((λ e. absurd (omega (arith, e))), ((λ e. absurd (omega (arith, e))), tt))))))
  where
    control : is_ascii_control 10 ≡ false → ⊥
    control e = absurd (cc)

shown_if : (c : ℕ) (b d : Bool) → is_ascii_control c ≡ d
    → NoFeed (if b then 92 ∷ 92 ∷ [] else if d then codes "\\u{" ++ digits 16 false c ++ codes "}" else encode_utf8 c)
shown_if c true d h = ((λ e. absurd (omega (arith, e))), ((λ e. absurd (omega (arith, e))), tt))
shown_if c false true h = in_code c
shown_if c false false h = in_encoded c h

in_shown : (c : ℕ) → NoFeed (shown_char c)
in_shown c = shown_if c (c == 92) (is_ascii_control c) refl

all_shown : (cs : List ℕ) → NoFeed (flat_map shown_char cs)
all_shown [] = tt
all_shown (c ∷ cs) = joins (shown_char c) (flat_map shown_char cs) (in_shown c) (all_shown cs)

pub in_one_line : (text : List ℕ) → All (λ b. b ≢ 10) (one_line text)
in_one_line text = All-from_recursion (λ b. b ≢ 10) (one_line text) (all_shown (chars text))
