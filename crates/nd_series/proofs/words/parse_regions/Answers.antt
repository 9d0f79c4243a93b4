use Rattle.std.proofs.Common.{◌≡◌, List, ℕ, map, ap, sym, subst, ◌∙◌, lit<, ◌==◌, take, get_or, Some, arith, Bor, []}
use Rattle.std.specs.Prelude.{IfOk}
use Rattle.std.specs.List.{slice_split, list_all, flat_map}
use Rattle.std.specs.Option.{is_some, option_to_list}
use Rattle.std.proofs.lemmas.Iterator.Consumers.{map_from_collect}
use Rattle.std.proofs.lemmas.Iterator.Splits.{YieldsList-from_str_split}
use Rattle.std.proofs.lemmas.List.{take_all}
use Rattle.nd_series.specs.Words.{region_in}
use Rattle.nd_series.proofs.Groups.{too_many, one_bad, all_good}
use Rattle.nd_series.proofs.Spellings.{regions-spelled}
use Rattle.nd_series.proofs.words.parse_regions.Goals as goal
use Rattle.nd_series.proofs.words.parse_regions.Goals.{After-len}

groups : (c : After-len) → map (λ x. x.now) c.in_ok-groups.groups.items ≡ slice_split (λ b. b == 59) c.args.text.now
groups c = subst (λ r. IfOk r (λ w. map (λ x. x.now) w.items ≡ slice_split (λ b. b == 59) c.args.text.now)) c.in_ok-groups.was
    (map_from_collect c.collect.result c.collect.ensures.ran
    (YieldsList-from_str_split 59 c.args.text.now (lit< tt) c.split.ensures.text c.split.ensures.has_more c.split.ensures.pattern))

pub returns-then-len-gt-MOST_REGIONS-clause-value : goal.returns-then-len-gt-MOST_REGIONS-clause-value
returns-then-len-gt-MOST_REGIONS-clause-value c =
    let same = groups ((goal.at.returns-then-len-gt-MOST_REGIONS-clause-value c).After-len) in
    too_many (λ x. x.now) c.in_ok-groups.groups.items c.args.text.now same (omega arith)

pub returns-in_default-clause-value : goal.returns-in_default-clause-value
returns-in_default-clause-value c =
    let none : Bor (List ℕ) = record { ref_ptr = (0, 0); now = [] } in
    let k = c.loop-group.group-index in
    one_bad (λ x. x.now) c.in_ok-groups.groups.items c.args.text.now (groups ((goal.at.returns-in_default-clause-value c).After-len)) k none (omega arith)
    (ap (λ (gs : List (Bor (List ℕ))). region_in (get_or gs k none).now) (sym c.deref-group-items.ensures.value)
    ∙ sym c.in_ok-region.ensures ∙ c.in_default.is)

pub returns-clause-value : goal.returns-clause-value
returns-clause-value c =
    let items = c.in_ok-groups.groups.items in
    let whole = ap (take c.loop-group.group-index) c.deref-group-items.ensures.value ∙ take_all c.loop-group.group-index items (omega arith) in
    ap Some (c.loop-group.invariant.read ∙ ap (flat_map (λ g. option_to_list (region_in g.now))) whole)
    ∙ all_good (λ x. x.now) items c.args.text.now (groups ((goal.at.returns-clause-value c).After-len)) (omega arith)
    (sym (ap (list_all (λ g. is_some (region_in g.now))) whole) ∙ c.loop-group.invariant.regions)

pub returns-clause-range : goal.returns-clause-range
returns-clause-range c = (regions-spelled c.args.text.now c.loop-group.regions.items (sym (returns-clause-value c))).range
