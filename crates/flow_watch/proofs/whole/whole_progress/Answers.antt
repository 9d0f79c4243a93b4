use Rattle.std.proofs.Common.{◌≡◌, Bool, List, length, take, reverse, ap, sym, ◌∙◌}
use Rattle.std.specs.List.{filter, list_any}
use Rattle.std.proofs.lemmas.List.{take_all}
use Rattle.flow_journal.specs.declared.entry.Entry.{Entry}
use Rattle.flow_journal.specs.Ended.{leaves}
use Rattle.flow_journal.specs.Notes.{offers, drops, saves}
use Rattle.flow_watch.proofs.Backwards.{passing-reverse, any-reverse}
use Rattle.flow_watch.proofs.whole.whole_progress.Goals as goal

pub returns : goal.returns
returns c s finished =
    let h = c.loop-entry.invariant in
    let items = c.entries-entry-items.result.now in
    let P = c.args.log.now.past in
    let whole : take c.loop-entry.entry-index items ≡ reverse P = take_all c.loop-entry.entry-index items c.loop-entry-test.false ∙ h.entries in
    let counted = λ (p : Entry → Bool). ap (λ (l : List Entry). length (filter p l)) whole ∙ passing-reverse p P in
    let offered = h.offered ∙ counted offers in
    let dropped = h.dropped ∙ counted drops in
    let saved = h.saved ∙ counted saves in
    let left = h.left ∙ (ap (list_any leaves) whole ∙ any-reverse leaves P) in
    λ i. record { entries = c.len.ensures i; offered = offered i; dropped = dropped i; saved = saved i; left = left i; done = sym finished i }
