-- Worked counts: a log with a load that was taken back, and one that isn't legal.
use Rattle.std.specs.Prelude.{◌≡◌, true, false, List, [], ◌∷◌, pos, refl}
use Rattle.std.specs.List.{count_by}
use Rattle.flow_journal.specs.declared.entry.Entry.{Entry}
use Rattle.flow_journal.specs.declared.entry.Entry.TheVariants.{Load, LoadRefused, Issue, Emit, Full, PoolDrop, Save, Saved, Reclaim}
use Rattle.flow_journal.specs.declared.entry.Why.TheVariants.{Plain}
use Rattle.flow_journal.specs.Setting.{Setting, Saves}
use Rattle.flow_journal.specs.Breaks.{breaks}
use Rattle.flow_journal.specs.WorkedRuns.{one_node, after}
use Rattle.run_report.specs.Report.{loaded, node_count}
use Rattle.flow_journal.specs.EntryTests.{is_refused_load, says_regrown}

-- a file node over frames with the ids 7 and 9
abbrev one_file : Setting
one_file = one_node (Saves true 1) 1 1 0 100 0 false (pos 7 ∷ pos 9 ∷ [])

-- the first load is taken back; the second one's storage was made again, and its frame is the first that goes out
abbrev loaded_twice : List Entry
loaded_twice = Load 0 0 0 4 true 0 false ∷ Reclaim 0 ∷ Load 0 1 0 4 false 0 true ∷ Issue 0 1 ∷ Reclaim 0 ∷ Emit 0 0 1 Plain ∷ LoadRefused 0 0 4 8 ∷ []

one_loaded : loaded (after loaded_twice) ≡ 1
one_loaded = refl

one_refused : count_by is_refused_load (after loaded_twice) ≡ 1
one_refused = refl

one_regrown : count_by says_regrown (after loaded_twice) ≡ 1
one_regrown = refl

one_break : breaks one_file 0 (after loaded_twice) ≡ 1
one_break = refl

-- more is dropped than was offered, the file node emits, and a role has a hand taken back that it has no more
abbrev stray : List Entry
stray = Full 1 0 0 ∷ PoolDrop 1 1 0 0 4 4 ∷ Emit 1 0 0 Plain ∷ Save 1 1 0 1 0 ∷ Saved 1 1 0 1 ∷ Reclaim 1 ∷ []

none_accepted : node_count one_file (after stray) 1 ≡ record { offered = 1; accepted = 0; full = 1; pool = 1; sort = 0; out = 1; breaks = 1 }
none_accepted = refl
