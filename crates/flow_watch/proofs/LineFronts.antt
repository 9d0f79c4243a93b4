-- The lines of notes are those of growing fronts.
use Rattle.std.proofs.Common.{◌≡◌, ◌≢◌, true, false, nat_lt, List, [], ◌∷◌, ◌++◌, length, refl, ap, subst, ◌∙◌, arith, length-append}
use Rattle.std.proofs.lemmas.Bool.Decides.{nat_tests}
use Rattle.std.specs.List.{flat_map}
use Rattle.flow_journal.specs.declared.progress.Progress.{Progress}
use Rattle.flow_journal.specs.Notes.{progress_of}
use Rattle.flow_journal.specs.Pasts.{Past}
use Rattle.flow_journal.specs.Setting.{Setting}
use Rattle.flow_watch.specs.SeenLines.{seen_line, GrowInto}
use Rattle.flow_watch.specs.Reads.{lines_after}
use Rattle.flow_watch.proofs.Telling.{TellUpTo}

module _ (s : Setting) where
  -- these are the lines of such fronts
  abbrev pub HasLines : (front : Past) → List Progress → (log : Past) → Type 0
  HasLines front notes log =
      (fronts : List Past) × GrowInto front fronts log × (lines_after (length front) notes ≡ flat_map (λ P. seen_line (progress_of s P)) fronts)

  shown : (front P newer : Past) (note : Progress) (notes : List Progress) (log : Past) → newer ≢ [] → P ≡ newer ++ front → note ≡ progress_of s P
      → nat_lt (length front) note.entries ≡ true → HasLines P notes log → HasLines front (note ∷ notes) log
  shown front P newer note notes log some goes is less (fronts, grow, lines) =
      let entries : note.entries ≡ length P = ap (λ n. n.entries) is in (
        P ∷ fronts,
        (newer, some, goes, grow),
        rw less (ap (λ n. seen_line n ++ lines_after note.entries notes) is ∙ ap (λ l. seen_line (progress_of s P) ++ l) (ap (λ k. lines_after k notes) entries ∙ lines)),
      )

  passed : (front P : Past) (note : Progress) (notes : List Progress) (log : Past) → P ≡ front → nat_lt (length front) note.entries ≡ false
      → HasLines P notes log → HasLines front (note ∷ notes) log
  passed front P note notes log same less has =
      let here : HasLines front notes log = subst (λ (Q : Past). HasLines Q notes log) same has in
      (here.0, here.1, rw less here.2)

  pub lines_tell : (front : Past) (notes : List Progress) (log : Past) → TellUpTo s front notes log → HasLines front notes log
  lines_tell front [] log up = ([], up, refl)
  lines_tell front (note ∷ notes) log (P, [], goes, is, up) =
      let entries : note.entries ≡ length P = ap (λ n. n.entries) is in
      passed front P note notes log goes (let long = ap length goes in grind (arith, nat_tests)) (lines_tell P notes log up)
  lines_tell front (note ∷ notes) log (P, (e ∷ newer), goes, is, up) =
      let entries : note.entries ≡ length P = ap (λ n. n.entries) is in
      shown front P (e ∷ newer) note notes log (λ none. absurd (cc none)) goes is
      (let long = ap length goes in let sum = length-append newer front in grind (arith, nat_tests)) (lines_tell P notes log up)
