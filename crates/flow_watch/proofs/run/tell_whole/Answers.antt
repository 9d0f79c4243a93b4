use Rattle.std.proofs.Common.{◌≡◌, ◌∷◌, ◌++◌, [], refl, ap, sym, subst, ◌∙◌}
use mathlib.Core.List.{IsPrefix}
use Rattle.std.proofs.lemmas.Option.{same_Some}
use Rattle.flow_journal.specs.Notes.{progress_of}
use Rattle.flow_monitor.specs.Monitors.{watched_of}
use Rattle.flow_watch.specs.Reads.{lines_after}
use Rattle.flow_watch.specs.SeenLines.{AreSeenLines}
use Rattle.flow_watch.proofs.Watching.{prefix_trans, run_lines}
use Rattle.flow_watch.proofs.run.tell_whole.Goals as goal

pub returns : goal.returns
returns g c s finished h =
    let P = c.args.log.now.past in
    let notes = c.args.publisher.now.notes in
    let reads = c.args.reads.now.items in
    let seen = c.args.peek.now.seen in
    let whole : c.whole_progress-whole.result ≡ progress_of s P = c.whole_progress-whole.ensures s finished in
    let more : c.note.new.self.notes ≡ c.tell.new.self.notes ++ c.whole_progress-whole.result ∷ [] =
    same_Some _ _ (ap (λ w. w.notes) c.in_ok-note.ensures.ok) in
    let published : c.note.new.self.notes ≡ notes ++ progress_of s P ∷ [] =
    more ∙ (ap (λ ns. ns ++ c.whole_progress-whole.result ∷ []) (ap (λ p. p.notes) c.tell.ensures.same.0) ∙ ap (λ n. notes ++ n ∷ []) whole) in
    let learned = c.in_ok-note.ensures.learned c.tell.new.peek.seen c.tell.ensures.learned in
    let within = subst (λ ns. IsPrefix seen ns) published (prefix_trans seen c.tell.new.peek.seen c.note.new.self.notes c.tell.ensures.later learned) in
    let told : c.as_slice.result.now ≡ reads ++ progress_of s P ∷ [] =
    c.as_slice.ensures.value ∙ (c.push_reserved.ensures.items ∙ ap (λ n. reads ++ n ∷ []) whole) in
    subst (AreSeenLines s P) (sym (c.in_ok-seen_text.ensures ∙ ap (lines_after 0) told))
    (run_lines s P (watched_of c.args.publisher.now) notes reads seen h refl c.requires.reads within)
