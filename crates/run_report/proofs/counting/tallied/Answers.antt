use Rattle.std.proofs.Common.{◌≡◌, ℕ, ◌+◌, ◌<◌, ◌≤◌, ◌^◌, List, ◌∷◌, length, drop, reverse, refl, ap, sym, ◌∙◌, subst, arith}
use Rattle.std.proofs.lemmas.Iterator.Adapters.{YieldsList-from_rev_slice}
use Rattle.std.proofs.lemmas.Iterator.Consumers.{YieldsList-turn, YieldsList-end}
use Rattle.std.proofs.lemmas.List.{drop_more, at_drop_all, length_push, length-reverse}
use Rattle.flow_journal.specs.declared.entry.Entry.{Entry}
use Rattle.run_report.specs.Tallies.{fresh_nodes, IsOneMore}
use Rattle.run_report.proofs.Readings.{Reads, reads-fresh, reads-more, reads-end, reads-room, reads-room_for_loads}
use Rattle.run_report.proofs.counting.tallied.Goals as goal

pub loop-entry-init : goal.loop-entry-init
loop-entry-init c =
    reads-fresh c.args.plan.now (reverse c.args.entries.now) _ c.new.ensures refl (c.in_ok-fresh_nodes.ensures ∙ ap fresh_nodes c.as_slice.ensures)

pub count-requires-clause-feed : goal.count-requires-clause-feed
count-requires-clause-feed c =
    let few : length (reverse c.args.entries.now) < 2 ^ 60 =
    omega (arith, length-reverse c.args.entries.now, c.entry_count.ensures.count, c.entry_count.ensures.few) in
    reads-room_for_loads c.args.plan.now (reverse c.args.entries.now)
    (drop (length c.loop-entry.yielded) (reverse c.args.entries.now)) c.loop-entry.tally few c.loop-entry.invariant

pub count-requires-clause-nodes : goal.count-requires-clause-nodes
count-requires-clause-nodes c =
    let few : length (reverse c.args.entries.now) < 2 ^ 60 =
    omega (arith, length-reverse c.args.entries.now, c.entry_count.ensures.count, c.entry_count.ensures.few) in
    reads-room c.args.plan.now (reverse c.args.entries.now)
    (drop (length c.loop-entry.yielded) (reverse c.args.entries.now)) c.loop-entry.tally few c.loop-entry.invariant

pub loop-entry-preserved : goal.loop-entry-preserved
loop-entry-preserved c =
    let p = c.args.plan.now in
    let past = reverse c.args.entries.now in
    let n = length c.loop-entry.yielded in
    let e = c.in-Some.entry.now in
    let t =
    YieldsList-turn (YieldsList-from_rev_slice c.args.entries.now cc) c.loop-entry.yielded c.loop-entry.entry-iterator c.loop-entry.yielded_by c.next.result
    c.next.new.self c.in-Some.entry c.in-Some.is c.next.ensures.steps in
    let left : drop n past ≡ e ∷ drop (n + 1) past = drop_more past n e t.0 ∙ ap (λ (x : Entry). x ∷ drop (n + 1) past) (sym t.1) in
    let before : Reads p past (e ∷ drop (n + 1) past) c.loop-entry.tally =
    subst (λ (P : List Entry). Reads p past P c.loop-entry.tally) left c.loop-entry.invariant in
    let one : IsOneMore p.ids e c.loop-entry.tally c.count.new.self =
    subst (λ ids. IsOneMore ids e c.loop-entry.tally c.count.new.self) c.as_slice-ids.ensures c.in_ok-count.ensures in
    subst (λ (i : ℕ). Reads p past (drop i past) c.count.new.self) (sym (length_push c.loop-entry.yielded c.in-Some.entry))
    (reads-more p past (drop (n + 1) past) e c.loop-entry.tally c.count.new.self before one)

pub returns : goal.returns
returns c =
    let p = c.args.plan.now in
    let past = reverse c.args.entries.now in
    let t =
    YieldsList-end (YieldsList-from_rev_slice c.args.entries.now cc) c.loop-entry.yielded c.loop-entry.entry-iterator c.loop-entry.yielded_by c.next.result
    c.next.new.self c.in-None.is c.next.ensures.steps in
    let few : length past < 2 ^ 60 = omega (arith, length-reverse c.args.entries.now, c.entry_count.ensures.count, c.entry_count.ensures.few) in
    let all : length past ≤ length c.loop-entry.yielded = omega (arith, t.1) in
    reads-end p past c.loop-entry.tally few (subst (λ (P : List Entry). Reads p past P c.loop-entry.tally)
    (at_drop_all (λ (P : List Entry). P) past (length c.loop-entry.yielded) all) c.loop-entry.invariant)
