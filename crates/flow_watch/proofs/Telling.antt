-- Notes of how far a run had come, at fronts of its log.
use Rattle.std.proofs.Common.{◌≡◌, List, [], ◌∷◌, ◌++◌, Some, refl, ap, sym, ◌∙◌, append_assoc, append-nil, inl, inr}
use Rattle.flow_journal.specs.declared.progress.Progress.{Progress}
use Rattle.flow_journal.specs.Notes.{Watched, WereNoted, WasNoted, with_note, progress_of}
use Rattle.flow_journal.specs.Pasts.{Past}
use Rattle.flow_journal.specs.Setting.{Setting}

-- the last of them, or this one
abbrev pub last_or : Progress → List Progress → Progress
last_or note [] = note
last_or note (next ∷ notes) = last_or next notes

-- of these fronts, THE NEWEST FIRST, the log goes on from the first, and each from the next
abbrev pub AreFronts : (fronts : List Past) → (log : Past) → Type 0
AreFronts [] log = Unit {0}
AreFronts (P ∷ fronts) log = (newer : Past) × (log ≡ newer ++ P) × AreFronts fronts P

-- the log goes on from this front
abbrev pub GoesOn : Past → Past → Type 0
GoesOn front log = (newer : Past) × (log ≡ newer ++ front)

module _ (s : Setting) where
  -- Each of these notes, the oldest first, tells of a front that goes on from that of the one before it, the first from this one. The last is the log's.
  abbrev pub TellUpTo : (front : Past) → List Progress → (log : Past) → Type 0
  TellUpTo front [] log = log ≡ front
  TellUpTo front (note ∷ notes) log = (P : Past) × (newer : Past) × (P ≡ newer ++ front) × (note ≡ progress_of s P) × TellUpTo P notes log

  -- one note more
  pub tell_more : (front : Past) (notes : List Progress) (P log newer : Past) → TellUpTo front notes P → log ≡ newer ++ P
      → TellUpTo front (notes ++ progress_of s log ∷ []) log
  tell_more front [] P log newer up is = (log, newer, is ∙ ap (λ l. newer ++ l) up, refl, refl)
  tell_more front (note ∷ notes) P log newer up is = (up.0, up.1, up.2, up.3, tell_more up.0 notes P log newer up.4 is)

  -- cut in two
  pub tell_cut : (front : Past) (notes more : List Progress) (log : Past) → TellUpTo front (notes ++ more) log
      → (P : Past) × TellUpTo front notes P × TellUpTo P more log
  tell_cut front [] more log up = (front, refl, up)
  tell_cut front (note ∷ notes) more log up =
      let cut = tell_cut up.0 notes more log up.4 in (cut.0, (up.0, up.1, up.2, up.3, cut.1), cut.2)

  pub tell_on : (front : Past) (notes : List Progress) (log : Past) → TellUpTo front notes log → GoesOn front log
  tell_on front [] log up = ([], up)
  tell_on front (note ∷ notes) log up =
      let on = tell_on up.0 notes log up.4 in
      (on.0 ++ up.1, on.1 ∙ (ap (λ l. on.0 ++ l) up.2 ∙ sym (append_assoc on.0 up.1 front)))

  pub tell_last : (front : Past) (notes : List Progress) (log : Past) → TellUpTo front notes log → progress_of s log ≡ last_or (progress_of s front) notes
  tell_last front [] log up = ap (progress_of s) up
  tell_last front (note ∷ notes) log up = tell_last up.0 notes log up.4 ∙ ap (λ n. last_or n notes) (sym up.3)

  -- the notes that a watch took of such fronts
  abbrev pub Took : Watched → (log : Past) → Type 0
  Took w log = (notes : List Progress) × (w.notes ≡ Some notes) × ((P : Past) × TellUpTo [] notes P × GoesOn P log)

  noted : (P log : Past) (w new : Watched) → Took w P → GoesOn P log → WasNoted (progress_of s P) w new → Took new log
  noted P log w new (notes, are, (F, up, on)) more (inl is) =
      (notes ++ progress_of s P ∷ [], ap (λ v. v.notes) is ∙ ap (λ ns. with_note ns (progress_of s P)) are, (P, tell_more [] notes F P on.0 up on.1, more))
  noted P log w new (notes, are, (F, up, on)) more (inr is) =
      (notes, ap (λ v. v.notes) is ∙ are, (F, up, (more.0 ++ on.0, more.1 ∙ (ap (λ l. more.0 ++ l) on.1 ∙ sym (append_assoc more.0 on.0 F)))))

  pub all_noted : (fronts : List Past) (log : Past) (old new : Watched) → AreFronts fronts log → old.notes ≡ Some [] → WereNoted s fronts old new → Took new log
  all_noted [] log old new grow none is = ([], ap (λ v. v.notes) is ∙ none, ([], refl, (log, sym (append-nil log))))
  all_noted (P ∷ fronts) log old new grow none were =
      noted P log were.0 new (all_noted fronts P old were.0 grow.2 none were.1) (grow.0, grow.1) were.2
