-- How far a run has come, and notes of it.
use Rattle.std.specs.Prelude.{◌≡◌, ◌⊎◌, ℕ, ◌+◌, ◌%◌, ◌^◌, Bool, true, false, List, [], ◌∷◌, ◌++◌, length, filter, Option, Some, None}
use Rattle.flow_journal.specs.declared.entry.Entry.{Entry}
use Rattle.flow_journal.specs.declared.entry.Entry.TheVariants.{Accept, Full, PoolDrop, SortDrop, Saved}
use Rattle.flow_journal.specs.declared.progress.Progress.{Progress}
use Rattle.flow_journal.specs.Setting.{Setting}
use Rattle.flow_journal.specs.Pasts.{Past}
use Rattle.flow_journal.specs.Ended.{has_left_any}
use Rattle.flow_journal.specs.Finished.{is_finished}

abbrev pub offers : Entry → Bool
offers (Accept v m k) = true
offers (Full v m k) = true
offers _ = false

abbrev pub drops : Entry → Bool
drops (Full v m k) = true
drops (PoolDrop r v m k n h) = true
drops (SortDrop v m k) = true
drops _ = false

abbrev pub saves : Entry → Bool
saves (Saved r v m k) = true
saves _ = false

abbrev pub how_many : (Entry → Bool) → Past → ℕ
how_many p P = length (filter p P)

-- how far a run has come
abbrev pub progress_of : Setting → Past → Progress
progress_of s P =
    record {
      entries = length P;
      offered = how_many offers P;
      dropped = how_many drops P;
      saved = how_many saves P;
      left = has_left_any P;
      done = is_finished s P;
    }

-- the notes with this one at the end, where they are told
abbrev pub with_note : Option (List Progress) → Progress → Option (List Progress)
with_note None note = None
with_note (Some notes) note = Some (notes ++ note ∷ [])

-- What is told of a watch: the notes that it took, the oldest first, where it tells them, and the count of those that it refused, a `u64` that
-- begins anew at 0.
pub record Watched : Type 0 where
  pub notes : Option (List Progress)
  pub refused : ℕ

abbrev pub took : Progress → Watched → Watched
took note w = record { notes = with_note w.notes note; refused = w.refused }

abbrev pub refused_one : Watched → Watched
refused_one w = record { notes = w.notes; refused = (w.refused + 1) % 2 ^ 64 }

-- the watch was handed this note, and took it, or refused it
abbrev pub WasNoted : Progress → (old new : Watched) → Type 0
WasNoted note old new = (new ≡ took note old) ⊎ (new ≡ refused_one old)

-- it was handed a note for each of these fronts of a log, THE NEWEST FIRST: how far the run had come then
abbrev pub WereNoted : Setting → (fronts : List Past) → (old new : Watched) → Type 0
WereNoted s [] old new = new ≡ old
WereNoted s (P ∷ fronts) old new = (w : Watched) × WereNoted s fronts old w × WasNoted (progress_of s P) w new
