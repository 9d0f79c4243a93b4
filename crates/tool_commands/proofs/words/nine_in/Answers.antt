use Rattle.std.proofs.Common.{◌≡◌, length, None, Some, true, string_bytes, ap, sym, ◌∙◌}
use Rattle.std.specs.Prelude.{codes}
use Rattle.std.specs.Option.{option_map}
use Rattle.std.specs.Str.{bytes_eq}
use Rattle.decimal_words.specs.Numbers.{integer_of}
use Rattle.tool_commands.specs.Command.{Correct, command_of, correct_rule}
use Rattle.tool_commands.specs.Words.{command_told}
use Rattle.tool_commands.proofs.Commands.{nine_words, correct_words}
use Rattle.tool_commands.proofs.words.nine_in.Goals as goal

pub returns-in_err-rule-in-len9-clause-told : goal.returns-in_err-rule-in-len9-clause-told
returns-in_err-rule-in-len9-clause-told c =
    let words = c.args.words.now in
    let command = string_bytes c.command-item.result in
    let dark = string_bytes c.dark-item.result in
    let stack = string_bytes c.stack-item.result in
    let name = string_bytes c.name-item.result in
    let offset = string_bytes c.offset-item.result in
    let num = string_bytes c.num-item.result in
    let den = string_bytes c.den-item.result in
    let low = string_bytes c.low-item.result in
    let high = string_bytes c.high-item.result in
    let all =
    nine_words string_bytes words _ _ _ _ _ _ _ _ _ (let n : length words ≡ 9 = c.requires in n) c.command-item.is c.dark-item.is c.stack-item.is
    c.name-item.is c.offset-item.is c.num-item.is c.den-item.is c.low-item.is c.high-item.is in
    let is : bytes_eq command (codes "correct") ≡ true = ap (λ text. bytes_eq text (codes "correct")) (sym c.as_str.ensures.value) ∙ sym c.eq.ensures ∙ c.if-eq.true in
    let told = correct_words command dark stack name offset num den low high is in
    let rule : None ≡ correct_rule (integer_of offset) (integer_of num) (integer_of den) (integer_of low) (integer_of high) =
    (rw (
      c.as_str-in-len9.ensures.value,
      c.as_str-in-len9-2.ensures.value,
      c.as_str-in-len9-3.ensures.value,
      c.as_str-in-len9-4.ensures.value,
      c.as_str-in-len9-5.ensures.value,
    ) at c.in_err-rule-in-len9.ensures.value) in
    ap (option_map command_told) c.from_residual.ensures ∙ ap (option_map (λ r. Correct r dark stack name)) rule ∙ sym told ∙ ap command_of (sym all)

pub returns-in_ok-rule-in-len9-clause-told : goal.returns-in_ok-rule-in-len9-clause-told
returns-in_ok-rule-in-len9-clause-told c =
    let words = c.args.words.now in
    let command = string_bytes c.command-item.result in
    let dark = string_bytes c.dark-item.result in
    let stack = string_bytes c.stack-item.result in
    let name = string_bytes c.name-item.result in
    let offset = string_bytes c.offset-item.result in
    let num = string_bytes c.num-item.result in
    let den = string_bytes c.den-item.result in
    let low = string_bytes c.low-item.result in
    let high = string_bytes c.high-item.result in
    let all =
    nine_words string_bytes words _ _ _ _ _ _ _ _ _ (let n : length words ≡ 9 = c.requires in n) c.command-item.is c.dark-item.is c.stack-item.is
    c.name-item.is c.offset-item.is c.num-item.is c.den-item.is c.low-item.is c.high-item.is in
    let is : bytes_eq command (codes "correct") ≡ true = ap (λ text. bytes_eq text (codes "correct")) (sym c.as_str.ensures.value) ∙ sym c.eq.ensures ∙ c.if-eq.true in
    let told = correct_words command dark stack name offset num den low high is in
    let rule : Some c.in_ok-rule-in-len9.rule ≡ correct_rule (integer_of offset) (integer_of num) (integer_of den) (integer_of low) (integer_of high) =
    (rw (
      c.as_str-in-len9.ensures.value,
      c.as_str-in-len9-2.ensures.value,
      c.as_str-in-len9-3.ensures.value,
      c.as_str-in-len9-4.ensures.value,
      c.as_str-in-len9-5.ensures.value,
    ) at c.in_ok-rule-in-len9.ensures.value) in
    rw (c.as_str-in-len9-6.ensures.value, c.as_str-in-len9-7.ensures.value, c.as_str-in-len9-8.ensures.value)
    (ap (option_map (λ r. Correct r dark stack name)) rule ∙ sym told ∙ ap command_of (sym all))
