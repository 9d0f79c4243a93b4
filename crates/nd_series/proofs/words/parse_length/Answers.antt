use Rattle.std.proofs.Common.{◌≡◌, ℕ, List, None, Some, refl, sym, subst}
use Rattle.std.specs.Prelude.{Option, IfSome}
use Rattle.nd_base.specs.GraphRules.{IsBetween}
use Rattle.nd_series.specs.Words.{length_in}
use Rattle.nd_series.proofs.Spellings.{number-spelled}
use Rattle.nd_series.proofs.words.parse_length.Goals as goal

in_range : (text : List ℕ) (found : Option ℕ) → length_in text ≡ found → IfSome found (λ most. IsBetween 1 4096 most)
in_range text None e = tt
in_range text (Some n) e = (number-spelled 4 1 4096 text n e).range

pub returns-clause-range : goal.returns-clause-range
returns-clause-range c =
    subst (λ found. IfSome found (λ most. IsBetween 1 4096 most)) (sym c.number.ensures.value) (in_range c.args.text.now (length_in c.args.text.now) refl)
