-- Worked logs that aren't legal: what of them stands, and who has a hand. A report counts them so.
use Rattle.std.specs.Prelude.{◌≡◌, true, false, None, List, [], ◌∷◌, refl}
use Rattle.flow_journal.specs.declared.entry.Entry.{Entry}
use Rattle.flow_journal.specs.declared.entry.Entry.TheVariants.{Load, Tick, Issue, Emit, Save, Saved, Reclaim}
use Rattle.flow_journal.specs.declared.entry.Why.TheVariants.{Plain}
use Rattle.flow_journal.specs.Pasts.{frame}
use Rattle.flow_journal.specs.Hands.{hand, hands}
use Rattle.flow_journal.specs.Offered.{offered_frames}
use Rattle.flow_journal.specs.Unsaved.{standing_saves}
use Rattle.flow_journal.specs.Breaks.{outs}
use Rattle.flow_journal.specs.Histories.{is_legal}
use Rattle.flow_journal.specs.WorkedRuns.{after}
use Rattle.flow_journal.specs.WorkedSaves.{one_file}

-- a frame that was issued isn't taken back
abbrev issued_then_reclaimed : List Entry
issued_then_reclaimed = Load 0 0 0 4 true 0 false ∷ Tick 0 ∷ Issue 0 0 ∷ Reclaim 0 ∷ []

not_legal : is_legal one_file (after issued_then_reclaimed) ≡ false
not_legal = refl

one_loaded : offered_frames (after issued_then_reclaimed) ≡ 0 ∷ []
one_loaded = refl

-- nor is a piece that was saved
abbrev saved_then_reclaimed : List Entry
saved_then_reclaimed = Save 2 1 0 0 0 ∷ Saved 2 1 0 0 ∷ Reclaim 2 ∷ []

one_saved : standing_saves 1 (after saved_then_reclaimed) ≡ frame 0 0 ∷ []
one_saved = refl

-- a second load takes the place of the first
abbrev two_loads : List Entry
two_loads = Load 0 0 0 4 true 0 false ∷ Load 0 1 1 4 true 0 false ∷ Issue 0 1 ∷ []

no_hand_left : hand 0 (after two_loads) ≡ None
no_hand_left = refl

none_at_all : hands (after two_loads) ≡ []
none_at_all = refl

-- nothing goes out of a file node by an emission, and nothing by a save elsewhere
abbrev stray : List Entry
stray = Emit 1 0 7 Plain ∷ Save 0 0 0 8 0 ∷ []

none_emitted_there : outs one_file 1 (after stray) ≡ []
none_emitted_there = refl

none_saved_there : outs one_file 0 (after stray) ≡ []
none_saved_there = refl
