-- The step that appends a note keeps the rule of the log.
use Rattle.std.proofs.Common.{◌≡◌, ◌≢◌, ℕ, ◌+◌, ◌==◌, true, List, [], ◌∷◌, ◌++◌, length, refl, ap, sym, ◌∙◌, arith, inl, length-append, append-nil, eq-eqb, ne_eqb, None}
use mathlib.Core.List.{IsPrefix}
use mathlib.Core.Logic.{dite}
use native.Mathlib.Decide.{ℕ_discrete}
use prog.Atomic.{either}
use Rattle.logbook.specs.Pages.{Cell, keeps, no_nib, step, Moves, Goes}
use Rattle.flow_journal.specs.declared.progress.Progress.{Progress}
use Rattle.flow_monitor.specs.NoteLogs.{CountsNotes, Appends}
use Rattle.flow_monitor.proofs.Fronts.{front_as_long}

module _ (seen : List Progress) (note : Progress) (old : ℕ) where
  -- what becomes of the count
  abbrev counted : ℕ → ℕ
  counted n = either (n == old) (old + 1) n

  abbrev GoesOn : List Cell → List Progress → Type 0
  GoesOn = Goes CountsNotes (λ (_ : List Progress). []) (λ (_ _ : List Progress) (_ : ℕ). Unit {0}) 0 (seen, (no_nib, None)) counted
      (Appends (step 0 old (old + 1) note) (seen, (no_nib, None)))

  -- with these notes more, where the count fits them
  goes_on : (log more : List Progress) → counted (length log) ≡ length (log ++ more) → (length log ≡ old → log ++ more ≡ seen ++ note ∷ [])
      → GoesOn ((length log, true) ∷ (0, true) ∷ []) log
  goes_on log more count last = (keeps, more, None, tt, ap (λ (n : ℕ). (n, true) ∷ (0, true) ∷ []) count, inl (refl, refl), last)

  module _ (fits : length seen ≡ old) (log : List Progress) (front : IsPrefix seen log) where
    -- the count is the expected one, so that all notes had been seen
    adds_it : length log ≡ old → GoesOn ((length log, true) ∷ (0, true) ∷ []) log
    adds_it hit = goes_on log (note ∷ [])
        (ap (λ b. either b (old + 1) (length log)) (eq-eqb (length log) old hit) ∙ (let long = length-append log (note ∷ []) in omega arith))
        (λ _. ap (λ l. l ++ note ∷ []) (sym (front_as_long seen log front (omega arith))))

    -- it is another, and nothing is added
    leaves_it : length log ≢ old → GoesOn ((length log, true) ∷ (0, true) ∷ []) log
    leaves_it miss = goes_on log []
        (ap (λ b. either b (old + 1) (length log)) (ne_eqb (length log) old miss) ∙ ap length (sym (append-nil log)))
        (λ is. absurd (miss is))

  pub appends : length seen ≡ old
      → Moves CountsNotes (λ (_ : List Progress). []) (λ (_ _ : List Progress) (_ : ℕ). Unit {0}) 0 (seen, (no_nib, None)) counted
      (Appends (step 0 old (old + 1) note) (seen, (no_nib, None)))
  appends fits cells log kept front _ =
      rw kept (omega arith, refl, dite (ℕ_discrete (length log) old) (adds_it fits log front) (leaves_it fits log front))
