-- The lines of a run that was watched are those of growing fronts of its log.
use Rattle.std.proofs.Common.{◌≡◌, List, [], ◌∷◌, ◌++◌, Some, refl, ap, sym, subst, ◌∙◌, append_assoc}
use mathlib.Core.List.{IsPrefix}
use Rattle.std.proofs.lemmas.Option.{same_Some}
use Rattle.flow_journal.specs.declared.progress.Progress.{Progress}
use Rattle.flow_journal.specs.Notes.{Watched, progress_of}
use Rattle.flow_journal.specs.Pasts.{Past}
use Rattle.flow_journal.specs.Setting.{Setting}
use Rattle.flow_saver.specs.Turns.{AreTurns}
use Rattle.flow_run.specs.RunNotes.{HasNotesOf}
use Rattle.flow_watch.specs.SeenLines.{AreSeenLines}
use Rattle.flow_watch.specs.Reads.{ReadAfter, lines_after, unwatched}
use Rattle.flow_watch.proofs.Telling.{AreFronts, TellUpTo, Took, tell_more, all_noted}
use Rattle.flow_watch.proofs.ReadFronts.{reads_tell}
use Rattle.flow_watch.proofs.LineFronts.{lines_tell}

-- the turns begin at fronts of the log
turn_fronts : (fronts : List Past) (log : Past) → AreTurns fronts log → AreFronts fronts log
turn_fronts [] log turns = tt
turn_fronts (P ∷ fronts) log turns = (turns.0, turns.1, turn_fronts fronts P turns.3)

-- and of a longer one
fronts_on : (fronts : List Past) (seen log newer : Past) → log ≡ newer ++ seen → AreFronts fronts seen → AreFronts fronts log
fronts_on [] seen log newer on grow = tt
fronts_on (P ∷ fronts) seen log newer on grow =
    (newer ++ grow.0, on ∙ (ap (λ l. newer ++ l) grow.1 ∙ sym (append_assoc newer grow.0 P)), grow.2)

pub prefix_trans : (xs ys zs : List Progress) → IsPrefix xs ys → IsPrefix ys zs → IsPrefix xs zs
prefix_trans xs ys zs p q = (p.0 ++ q.0, sym (append_assoc xs p.0 q.0) ∙ (ap (λ l. l ++ q.0) p.1 ∙ q.1))

module _ (s : Setting) (log : Past) where
  run_took : (w : Watched) → HasNotesOf s log unwatched w → Took s w log
  run_took w h =
      let a = h.notes in
      let grow = fronts_on (a.last ∷ a.earlier) h.seen log h.newer h.begins (turn_fronts (a.last ∷ a.earlier) h.seen a.turns) in
      all_noted s (a.last ∷ a.earlier) log unwatched w grow refl a.noted

  -- a reader that has seen no more than these notes and that of the whole log, and what it read
  pub run_lines : (w : Watched) (notes reads now : List Progress) → HasNotesOf s log unwatched w → w.notes ≡ Some notes → ReadAfter [] reads now
      → IsPrefix now (notes ++ progress_of s log ∷ []) → AreSeenLines s log (lines_after 0 (reads ++ progress_of s log ∷ []))
  run_lines w notes reads now h are read within =
      let took = run_took w h in
      let same : took.0 ≡ notes = same_Some took.0 notes (sym took.1 ∙ are) in
      let up : TellUpTo s [] notes took.2.0 = subst (λ ns. TellUpTo s [] ns took.2.0) same took.2.1 in
      let all = tell_more s [] notes took.2.0 log took.2.2.0 up took.2.2.1 in
      let told = reads_tell s reads [] now (notes ++ progress_of s log ∷ []) [] log refl read within all in
      let lines = lines_tell s [] (reads ++ progress_of s log ∷ []) log (tell_more s [] reads told.0 log told.2.0 told.1 told.2.1) in
      record { fronts = lines.0; grow = lines.1; lines = lines.2 }
