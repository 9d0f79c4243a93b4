use Rattle.std.proofs.Common.{◌==◌, sym, ◌∙◌, lit<, rules, tests}
use Rattle.std.specs.List.{slice_split}
use Rattle.std.specs.Option.{is_some}
use Rattle.std.proofs.lemmas.Bool.{ne_eqb}
use Rattle.std.proofs.lemmas.Iterator.Consumers.{count_from_yields_List}
use Rattle.std.proofs.lemmas.Iterator.Search.{all_from_yields_List}
use Rattle.std.proofs.lemmas.Iterator.Splits.{YieldsList-from_str_split}
use Rattle.nd_series.specs.Words.{side_in}
use Rattle.nd_series.proofs.Tests.{four_words, other_words}
use Rattle.nd_series.proofs.words.is_region.Goals as goal

pub returns-then-count-eq4 : goal.returns-then-count-eq4
returns-then-count-eq4 c =
    let text = c.args.text.now in
    let all =
    all_from_yields_List (λ w. is_some (side_in w)) _ _ c.all.result c.all.ensures.ran
    (YieldsList-from_str_split 44 text (lit< tt) c.split-then-count-eq4.ensures.text c.split-then-count-eq4.ensures.has_more c.split-then-count-eq4.ensures.pattern)
    (λ x b q k. search (rules, tests)) in
    let count =
    count_from_yields_List _ c.count.result c.count.ensures.ran
    (YieldsList-from_str_split 44 text (lit< tt) c.split.ensures.text c.split.ensures.has_more c.split.ensures.pattern) in
    all ∙ four_words (slice_split (λ b. b == 44) text) (sym count ∙ c.if-count-eq4.true)

pub returns-else-count-eq4 : goal.returns-else-count-eq4
returns-else-count-eq4 c =
    let text = c.args.text.now in
    let count =
    count_from_yields_List _ c.count.result c.count.ensures.ran
    (YieldsList-from_str_split 44 text (lit< tt) c.split.ensures.text c.split.ensures.has_more c.split.ensures.pattern) in
    ne_eqb c.count.result 4 c.if-count-eq4.false ∙ sym (other_words (slice_split (λ b. b == 44) text) (λ four. c.if-count-eq4.false (count ∙ four)))
