use Rattle.std.proofs.Common.{◌≡◌, ◌≢◌, ◌++◌, ℕ, subst, List, [], ◌∷◌, length, string_bytes, refl, ap, sym, ◌∙◌, arith, append_assoc, append-nil}
use Rattle.std.specs.Prelude.{All, flat_map}
use Rattle.std.specs.Char.{encode_utf8}
use Rattle.std.specs.Str.{chars}
use Rattle.std.specs.Str.Iter.{chars_rest}
use Rattle.std.proofs.lemmas.Str.{IsUtf8-past_char, chars_past_char}
use Rattle.tool_commands.specs.StatusText.{shown_char, one_line}
use Rattle.tool_commands.proofs.Lines.{in_one_line}
use Rattle.tool_commands.proofs.status.one_line.Goals as goal

pub loop-character-preserved : goal.loop-character-preserved
loop-character-preserved c =
    let (can, finite, utf8, same) = c.loop-character.invariant in
    let before : List ℕ = chars_rest c.loop-character.character-iterator in
    let after : List ℕ = chars_rest c.next.new.self in
    let character = c.in-Some.character in
    let line = string_bytes c.loop-character.line in
    let step : before ≡ encode_utf8 character ++ after = c.in-Some.ensures.steps.0 in
    let spelled : chars before ≡ character ∷ chars after = chars_past_char before after character utf8 step in (
      tt,
      tt,
      IsUtf8-past_char before after character utf8 step,
      ap (λ bs. bs ++ one_line after) c.in_ok-push_shown.ensures
          ∙ append_assoc line (shown_char character) (one_line after)
          ∙ sym (ap (λ cs. line ++ flat_map shown_char cs) spelled)
          ∙ same,
    )

nothing : (bs : List ℕ) → length bs ≡ 0 → one_line bs ≡ []
unfolding chars
nothing [] h = refl
nothing (b ∷ bs) h = absurd (omega (arith, h))

whole : (line text before : List ℕ) → line ++ one_line before ≡ one_line text → length before ≡ 0 → line ≡ one_line text
whole line text before same none = sym (append-nil line) ∙ ap (λ l. line ++ l) (sym (nothing before none)) ∙ same

pub returns-clause-text : goal.returns-clause-text
returns-clause-text c =
    whole (string_bytes c.loop-character.line) c.args.text.now (chars_rest c.loop-character.character-iterator) c.loop-character.invariant.3
    c.in-None.ensures.steps.0.0

pub returns-clause-line : goal.returns-clause-line
returns-clause-line c =
    let is =
    whole (string_bytes c.loop-character.line) c.args.text.now (chars_rest c.loop-character.character-iterator) c.loop-character.invariant.3
    c.in-None.ensures.steps.0.0 in
    subst (λ bs. All (λ b. b ≢ 10) bs) (sym is) (in_one_line c.args.text.now)
