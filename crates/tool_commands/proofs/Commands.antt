-- The commands of so many words.
use Rattle.std.proofs.Common.{◌≡◌, ◌≢◌, ℕ, List, [], ◌∷◌, length, map, get_or, None, true, refl, arith}
use Rattle.std.specs.Prelude.{codes}
use Rattle.std.specs.Option.{option_map}
use Rattle.std.specs.Str.{bytes_eq}
use Rattle.decimal_words.specs.Numbers.{integer_of}
use Rattle.tool_commands.specs.Command.{Correct, command_of, correct_rule}

pub no_command : (words : List (List ℕ)) → length words ≢ 2 → length words ≢ 3 → length words ≢ 4 → length words ≢ 5 → length words ≢ 7
    → length words ≢ 9 → command_of words ≡ None
no_command [] two three four five seven nine = refl
no_command (a ∷ []) two three four five seven nine = refl
no_command (a ∷ b ∷ []) two three four five seven nine = absurd (two refl)
no_command (a ∷ b ∷ c ∷ []) two three four five seven nine = absurd (three refl)
no_command (a ∷ b ∷ c ∷ d ∷ []) two three four five seven nine = absurd (four refl)
no_command (a ∷ b ∷ c ∷ d ∷ e ∷ []) two three four five seven nine = absurd (five refl)
no_command (a ∷ b ∷ c ∷ d ∷ e ∷ f ∷ []) two three four five seven nine = refl
no_command (a ∷ b ∷ c ∷ d ∷ e ∷ f ∷ g ∷ []) two three four five seven nine = absurd (seven refl)
no_command (a ∷ b ∷ c ∷ d ∷ e ∷ f ∷ g ∷ h ∷ []) two three four five seven nine = refl
no_command (a ∷ b ∷ c ∷ d ∷ e ∷ f ∷ g ∷ h ∷ i ∷ []) two three four five seven nine = absurd (nine refl)
no_command (a ∷ b ∷ c ∷ d ∷ e ∷ f ∷ g ∷ h ∷ i ∷ j ∷ words) two three four five seven nine = refl

-- nine words, one by one
module _ {X : Type 0} (text : X → List ℕ) where
  pub nine_words : (words : List X) (a b c d e f g h i : X) → length words ≡ 9 → a ≡ get_or words 0 a → b ≡ get_or words 1 b → c ≡ get_or words 2 c → d ≡ get_or words 3 d → e ≡ get_or words 4 e → f ≡ get_or words 5 f → g ≡ get_or words 6 g → h ≡ get_or words 7 h → i ≡ get_or words 8 i
      → map text words ≡ text a ∷ text b ∷ text c ∷ text d ∷ text e ∷ text f ∷ text g ∷ text h ∷ text i ∷ []
  nine_words [] a b c d e f g h i nine i0 i1 i2 i3 i4 i5 i6 i7 i8 = absurd (omega (arith, nine))
  nine_words (x0 ∷ []) a b c d e f g h i nine i0 i1 i2 i3 i4 i5 i6 i7 i8 = absurd (omega (arith, nine))
  nine_words (x0 ∷ x1 ∷ []) a b c d e f g h i nine i0 i1 i2 i3 i4 i5 i6 i7 i8 = absurd (omega (arith, nine))
  nine_words (x0 ∷ x1 ∷ x2 ∷ []) a b c d e f g h i nine i0 i1 i2 i3 i4 i5 i6 i7 i8 = absurd (omega (arith, nine))
  nine_words (x0 ∷ x1 ∷ x2 ∷ x3 ∷ []) a b c d e f g h i nine i0 i1 i2 i3 i4 i5 i6 i7 i8 = absurd (omega (arith, nine))
  nine_words (x0 ∷ x1 ∷ x2 ∷ x3 ∷ x4 ∷ []) a b c d e f g h i nine i0 i1 i2 i3 i4 i5 i6 i7 i8 = absurd (omega (arith, nine))
  nine_words (x0 ∷ x1 ∷ x2 ∷ x3 ∷ x4 ∷ x5 ∷ []) a b c d e f g h i nine i0 i1 i2 i3 i4 i5 i6 i7 i8 = absurd (omega (arith, nine))
  nine_words (x0 ∷ x1 ∷ x2 ∷ x3 ∷ x4 ∷ x5 ∷ x6 ∷ []) a b c d e f g h i nine i0 i1 i2 i3 i4 i5 i6 i7 i8 = absurd (omega (arith, nine))
  nine_words (x0 ∷ x1 ∷ x2 ∷ x3 ∷ x4 ∷ x5 ∷ x6 ∷ x7 ∷ []) a b c d e f g h i nine i0 i1 i2 i3 i4 i5 i6 i7 i8 = absurd (omega (arith, nine))
  nine_words (x0 ∷ x1 ∷ x2 ∷ x3 ∷ x4 ∷ x5 ∷ x6 ∷ x7 ∷ x8 ∷ []) a b c d e f g h i nine i0 i1 i2 i3 i4 i5 i6 i7 i8 = rw (i0, i1, i2, i3, i4, i5, i6, i7, i8) refl
  nine_words (x0 ∷ x1 ∷ x2 ∷ x3 ∷ x4 ∷ x5 ∷ x6 ∷ x7 ∷ x8 ∷ x9 ∷ words) a b c d e f g h i nine i0 i1 i2 i3 i4 i5 i6 i7 i8 = absurd (omega (arith, nine))

pub correct_words : (word dark stack name offset num den low high : List ℕ) → bytes_eq word (codes "correct") ≡ true
    → command_of (word ∷ dark ∷ stack ∷ name ∷ offset ∷ num ∷ den ∷ low ∷ high ∷ [])
    ≡ option_map (λ rule. Correct rule dark stack name) (correct_rule (integer_of offset) (integer_of num) (integer_of den) (integer_of low) (integer_of high))
correct_words word dark stack name offset num den low high is = rw is refl
