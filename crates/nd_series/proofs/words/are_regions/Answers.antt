use Rattle.std.proofs.Common.{◌==◌, sym, ◌∙◌, lit<, arith, rules, tests}
use Rattle.std.specs.List.{slice_split}
use Rattle.std.specs.Option.{is_some}
use Rattle.std.proofs.lemmas.Bool.{lt-leb}
use Rattle.std.proofs.lemmas.Iterator.Consumers.{count_from_yields_List}
use Rattle.std.proofs.lemmas.Iterator.Search.{all_from_yields_List}
use Rattle.std.proofs.lemmas.Iterator.Splits.{YieldsList-from_str_split}
use Rattle.nd_series.specs.Words.{region_in}
use Rattle.nd_series.proofs.Tests.{few_groups, many_groups}
use Rattle.nd_series.proofs.words.are_regions.Goals as goal

pub returns-then-count-le-MOST_REGIONS : goal.returns-then-count-le-MOST_REGIONS
returns-then-count-le-MOST_REGIONS c =
    let text = c.args.text.now in
    let all =
    all_from_yields_List (λ w. is_some (region_in w)) _ _ c.all.result c.all.ensures.ran
    (YieldsList-from_str_split 59 text (lit< tt) c.split-then-count-le-MOST_REGIONS.ensures.text c.split-then-count-le-MOST_REGIONS.ensures.has_more
    c.split-then-count-le-MOST_REGIONS.ensures.pattern)
    (λ x b q k. search (rules, tests)) in
    let count =
    count_from_yields_List _ c.count.result c.count.ensures.ran
    (YieldsList-from_str_split 59 text (lit< tt) c.split.ensures.text c.split.ensures.has_more c.split.ensures.pattern) in
    all ∙ few_groups (slice_split (λ b. b == 59) text) (omega (arith, count, c.if-count-le-MOST_REGIONS.true))

pub returns-else-count-le-MOST_REGIONS : goal.returns-else-count-le-MOST_REGIONS
returns-else-count-le-MOST_REGIONS c =
    let text = c.args.text.now in
    let count =
    count_from_yields_List _ c.count.result c.count.ensures.ran
    (YieldsList-from_str_split 59 text (lit< tt) c.split.ensures.text c.split.ensures.has_more c.split.ensures.pattern) in
    lt-leb c.count.result 32 (omega (arith, c.if-count-le-MOST_REGIONS.false))
    ∙ sym (many_groups (slice_split (λ b. b == 59) text) (omega (arith, count, c.if-count-le-MOST_REGIONS.false)))
