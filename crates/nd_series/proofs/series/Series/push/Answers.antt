use Rattle.std.proofs.Common.{◌≡◌, ℕ, ◌∷◌, [], ◌++◌, ◌<◌, ◌≤◌, ◌^◌, ◌+ℤ◌, pos, length, take, drop, get_or, List, ℤ, arith, ap, sym, ◌∙◌, refl, subst}
use Rattle.std.specs.Prelude.{unsigned_abs, ◌-ℤ◌}
use Rattle.nd_series.specs.declared.row.Part.{Part}
use Rattle.nd_series.specs.Kept.{part_at}
use Rattle.nd_series.proofs.Summed.{sums_room, added_room, series_grown, series_moved, oldest_parts, first_of, full, not_full, written_whole}
use Rattle.nd_series.proofs.series.Series.push.Goals as goal
use Rattle.nd_series.proofs.series.Series.push.Goals.{After-add_totals, After-push_back-fallen, After-as_slice-in-Some}

pub add_totals-requires-clause-room : goal.add_totals-requires-clause-room
add_totals-requires-clause-room c =
    let i = c.self.invariant in
    rw c.deref_mut.ensures.value
    (sums_room (length c.self.inside.sums.items) c.self.inside.kept.items c.self.inside.sums.items i.rows (omega (arith, i.room, i.most)) refl i.summed)

parts : (c : After-push_back-fallen) → length c.args.row.parts ≡ length c.self.inside.sums.items
parts c = c.requires ∙ ap (λ s. s.regions) (sym c.self.view_is)

small : (c : After-push_back-fallen) (k : ℕ) → unsigned_abs (part_at k c.args.row.parts).total ≤ 2 ^ 63
small c k = subst (λ (ps : List Part). unsigned_abs (part_at k ps).total ≤ 2 ^ 63) c.as_slice.ensures (c.add_totals.ensures.small k)

long : (c : After-push_back-fallen) → length c.add_totals.new.sums ≡ length c.self.inside.sums.items
long c = c.add_totals.auto.sums ∙ ap length c.deref_mut.ensures.value

each : (c : After-push_back-fallen) (k : ℕ) → k < length c.add_totals.new.sums
    → get_or c.add_totals.new.sums k (pos 0) ≡ get_or c.self.inside.sums.items k (pos 0) +ℤ (part_at k c.args.row.parts).total
each c k h = c.add_totals.ensures.added k h
    ∙ ap (λ xs. get_or xs k (pos 0) +ℤ (part_at k c.as_slice.result.now).total) c.deref_mut.ensures.value
    ∙ ap (λ (ps : List Part). get_or c.self.inside.sums.items k (pos 0) +ℤ (part_at k ps).total) c.as_slice.ensures

whole : (c : After-push_back-fallen) → take c.self.inside.sums.len (c.add_totals.new.sums ++ drop (length c.add_totals.new.sums) c.self.inside.sums.items)
    ≡ c.add_totals.new.sums
whole c = written_whole c.add_totals.new.sums c.self.inside.sums.items c.self.inside.sums.len (c.self.inside.sums.ok.0) (long c)

fallen : (c : After-as_slice-in-Some) → c.self.inside.kept.items ++ c.args.row ∷ [] ≡ c.in-Some.oldest ∷ drop 1 (c.self.inside.kept.items ++ c.args.row ∷ [])
fallen c = first_of (length c.self.inside.kept.items) c.self.inside.kept.capacity c.self.inside.kept.items c.args.row c.in-Some.oldest
    (sym c.in-Some.is ∙ c.push_back-fallen.ensures.value)

pub take_totals-requires-clause-count : goal.take_totals-requires-clause-count
take_totals-requires-clause-count c =
    let d = (goal.at.take_totals-requires-clause-count c).After-push_back-fallen in
    let kept = c.self.inside.kept in
    let sums = c.self.inside.sums.items in
    ap length (c.deref_mut-in-Some.ensures.value ∙ whole d)
    ∙ sym (oldest_parts kept sums c.self.invariant c.args.row (parts d) (small d) c.add_totals.new.sums (long d) (each d)
    c.in-Some.oldest (drop 1 (kept.items ++ c.args.row ∷ [])) (fallen c))
    ∙ ap length (sym c.as_slice-in-Some.ensures)

pub take_totals-requires-clause-room : goal.take_totals-requires-clause-room
take_totals-requires-clause-room c = λ k.
    let d = (goal.at.take_totals-requires-clause-room c).After-push_back-fallen in
    subst (λ (xs : List ℤ). unsigned_abs (get_or xs k (pos 0)) < 2 ^ 100) (sym (c.deref_mut-in-Some.ensures.value ∙ whole d))
    (added_room c.self.inside.kept c.self.inside.sums.items c.self.invariant c.args.row (parts d) (small d) c.add_totals.new.sums (long d) (each d) k)

pub invariant_of-self : goal.invariant_of-self
invariant_of-self c =
    let d = (goal.at.invariant_of-self c).After-push_back-fallen in
    let e = (goal.at.invariant_of-self c).After-as_slice-in-Some in
    let kept = c.self.inside.kept in
    let sums = c.self.inside.sums.items in
    let added = c.add_totals.new.sums in
    let taken = c.take_totals.new.sums in
    let len = c.self.inside.sums.len in
    let before = c.deref_mut-in-Some.ensures.value ∙ whole d in
    let same : length taken ≡ length added = c.take_totals.auto.sums ∙ ap length before in
    let left : take len (taken ++ drop (length taken) (take len (added ++ drop (length added) sums))) ≡ taken =
    ap (λ xs. take len (taken ++ drop (length taken) xs)) (whole d)
    ∙ written_whole taken added len (c.self.inside.sums.ok.0 ∙ sym (long d)) same in
    series_moved kept sums c.self.invariant c.args.row (parts d) (small d) added (long d) (each d)
    c.in-Some.oldest (drop 1 (kept.items ++ c.args.row ∷ [])) (fallen e)
    c.push_back-fallen.new.self _ taken left same
    (λ k h. c.take_totals.ensures k h ∙ ap (λ xs. get_or xs k (pos 0) -ℤ (part_at k c.as_slice-in-Some.result.now).total) before
    ∙ ap (λ (ps : List Part). get_or added k (pos 0) -ℤ (part_at k ps).total) c.as_slice-in-Some.ensures)
    c.push_back-fallen.ensures.items
    (full (length kept.items) kept.capacity kept.items c.args.row c.in-Some.oldest (sym c.in-Some.is ∙ c.push_back-fallen.ensures.value))

pub invariant_of-self-in_default : goal.invariant_of-self-in_default
invariant_of-self-in_default c =
    let d = (goal.at.invariant_of-self-in_default c).After-push_back-fallen in
    let kept = c.self.inside.kept in
    series_grown kept c.self.inside.sums.items c.self.invariant c.args.row (parts d) (small d) c.add_totals.new.sums (long d) (each d)
    c.push_back-fallen.new.self _ (whole d) c.push_back-fallen.ensures.items
    (not_full (length kept.items) kept.capacity kept.items c.args.row (sym c.in_default.is ∙ c.push_back-fallen.ensures.value))
