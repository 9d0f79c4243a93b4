use Rattle.std.proofs.Common.{sym, ◌∙◌}
use Rattle.decimal_words.proofs.Digits.{few_digits, is_spelled}
use Rattle.decimal_words.proofs.value_of.Goals as goal

pub unreachable-requires : goal.unreachable-requires
unreachable-requires c =
    let word = c.args.digits.now in
    let is = is_spelled 10 word c.requires in
    let ok = few_digits word c.parse.result c.parse.ensures.value.0 is.0 is.1 is.2 in
    let both = sym ok ∙ c.in-Err.is in
    absurd (cc)
