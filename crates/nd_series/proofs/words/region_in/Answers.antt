use Rattle.std.proofs.Common.{◌≡◌, map, ap, subst, ◌∙◌, lit<, ◌==◌}
use Rattle.std.specs.Prelude.{IfOk}
use Rattle.std.specs.List.{slice_split}
use Rattle.std.proofs.lemmas.Iterator.Consumers.{map_from_collect}
use Rattle.std.proofs.lemmas.Iterator.Splits.{YieldsList-from_str_split}
use Rattle.nd_series.specs.Words.{box_of}
use Rattle.nd_series.proofs.words.region_in.Goals as goal

pub returns : goal.returns
returns c =
    let words = subst (λ r. IfOk r (λ w. map (λ x. x.now) w.items ≡ slice_split (λ b. b == 44) c.args.text.now)) c.in_ok-words.was
    (map_from_collect c.collect.result c.collect.ensures.ran
    (YieldsList-from_str_split 44 c.args.text.now (lit< tt) c.split.ensures.text c.split.ensures.has_more c.split.ensures.pattern)) in
    c.box_of.ensures ∙ ap (λ ws. box_of (map (λ w. w.now) ws)) c.deref.ensures.value ∙ ap box_of words
