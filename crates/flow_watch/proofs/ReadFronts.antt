-- What a reader reads tells of fronts of the log, too.
use Rattle.std.proofs.Common.{◌≡◌, ◌-◌, List, [], ◌∷◌, ◌++◌, length, slice_index_or, refl, ap, sym, ◌∙◌, append_assoc, append-nil}
use mathlib.Core.List.{IsPrefix}
use native.Mathlib.Numerals.{unary_clauses}
use Rattle.flow_journal.specs.declared.progress.Progress.{Progress}
use Rattle.flow_journal.specs.Notes.{progress_of}
use Rattle.flow_journal.specs.Pasts.{Past}
use Rattle.flow_journal.specs.Setting.{Setting}
use Rattle.flow_monitor.specs.LastNotes.{last_note, no_progress}
use Rattle.flow_watch.specs.Reads.{ReadAfter}
use Rattle.flow_watch.proofs.Telling.{last_or, TellUpTo, GoesOn, tell_cut, tell_on, tell_last}

last_at : (note : Progress) (notes : List Progress) → slice_index_or notes (length notes - 1) note ≡ last_or note notes
last_at note [] = refl
last_at note (next ∷ []) = refl
last_at note (next ∷ other ∷ notes) = simp unary_clauses (simp unary_clauses at (last_at note (other ∷ notes)))

last_or-append : (note : Progress) (xs ys : List Progress) → last_or note (xs ++ ys) ≡ last_or (last_or note xs) ys
last_or-append note [] ys = refl
last_or-append note (x ∷ xs) ys = last_or-append x xs ys

last_note-append : (xs ys : List Progress) → last_note (xs ++ ys) ≡ last_or (last_note xs) ys
last_note-append xs ys =
    last_at no_progress (xs ++ ys) ∙ (last_or-append no_progress xs ys ∙ ap (λ n. last_or n ys) (sym (last_at no_progress xs)))

tails : {A : Type 0} (xs ys zs : List A) → xs ++ ys ≡ xs ++ zs → ys ≡ zs
tails [] ys zs e = e
tails (x ∷ xs) ys zs e = tails xs ys zs (cc e)

-- a reader has seen what it had seen before
pub read_on : (seen reads now : List Progress) → ReadAfter seen reads now → IsPrefix seen now
read_on seen [] now h = h
read_on seen (note ∷ reads) now (front, p, is, h) =
    let q = read_on front reads now h in (p.0 ++ q.0, sym (append_assoc seen p.0 q.0) ∙ (ap (λ l. l ++ q.0) p.1 ∙ q.1))

-- one read more
pub read_more : (seen reads now later : List Progress) → ReadAfter seen reads now → IsPrefix now later → ReadAfter seen (reads ++ last_note later ∷ []) later
read_more seen [] now later p q =
    (later, (p.0 ++ q.0, sym (append_assoc seen p.0 q.0) ∙ (ap (λ l. l ++ q.0) p.1 ∙ q.1)), refl, ([], append-nil later))
read_more seen (note ∷ reads) now later (front, p, is, h) q = (front, p, is, read_more front reads now later h q)

module _ (s : Setting) where
  -- from a front F of the log on, at which the reader had seen these notes, with the rest of the notes up to the log
  pub reads_tell : (reads seen now rest : List Progress) (F log : Past) → progress_of s F ≡ last_note seen → ReadAfter seen reads now
      → IsPrefix now (seen ++ rest) → TellUpTo s F rest log → (P : Past) × TellUpTo s F reads P × GoesOn P log
  reads_tell [] seen now rest F log here h p up = (F, refl, tell_on s F rest log up)
  reads_tell (note ∷ reads) seen now rest F log here (front, (new, is), last, h) p up =
      let q = read_on front reads now h in
      let more : List Progress = q.0 ++ p.0 in
      let whole : front ++ more ≡ seen ++ rest = sym (append_assoc front q.0 p.0) ∙ (ap (λ l. l ++ p.0) q.1 ∙ p.1) in
      let cut : new ++ more ≡ rest = tails seen (new ++ more) rest (sym (append_assoc seen new more) ∙ (ap (λ l. l ++ more) is ∙ whole)) in
      let both = tell_cut s F new more log (rw (← cut) at up) in
      let told : progress_of s both.0 ≡ last_note front =
      tell_last s F new both.0 both.1 ∙ (ap (λ n. last_or n new) here ∙ (sym (last_note-append seen new) ∙ ap last_note is)) in
      let on = tell_on s F new both.0 both.1 in
      let later = reads_tell reads front now more both.0 log told h (p.0, p.1 ∙ sym whole) both.2 in
      (later.0, (both.0, on.0, on.1, last ∙ sym told, later.1), later.2)
