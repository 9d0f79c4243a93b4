-- Queues of size 1: a free feed drops, and a waiting feed waits.
use Rattle.std.specs.Prelude.{◌≡◌, true, false, List, [], ◌∷◌, ◌++◌, pos, refl, flat_map}
use Rattle.flow_journal.specs.declared.entry.Entry.{Entry}
use Rattle.flow_journal.specs.declared.entry.Entry.TheVariants.{Load, Tick, Reclaim}
use Rattle.flow_journal.specs.Setting.{Setting, Passes, Saves}
use Rattle.flow_journal.specs.Pasts.{frame}
use Rattle.flow_journal.specs.Queued.{queued}
use Rattle.flow_journal.specs.FirstEntries.{first}
use Rattle.flow_journal.specs.Histories.{is_history, is_legal}
use Rattle.flow_journal.specs.WorkedRuns.{one_node, after, loaded, issued_in_vain, fed, taken}

abbrev pub free_feed : Setting
free_feed = one_node (Passes false) 1 1 0 100 0 false (pos 1 ∷ pos 2 ∷ pos 3 ∷ [])

-- the block of the second frame is free again, and the third one gets it
abbrev pub two_dropped : List Entry
two_dropped = fed 0 ++ loaded 1 0 ++ issued_in_vain 1 ++ (Load 0 2 1 4 false 0 false ∷ Tick 0 ∷ []) ++ issued_in_vain 2

a_full_queue_drops : is_history free_feed (after two_dropped) ≡ true
a_full_queue_drops = refl

an_empty_queue_accepts : is_legal free_feed (after (loaded 0 0 ++ issued_in_vain 0)) ≡ false
an_empty_queue_accepts = refl

abbrev pub waiting_feed : Setting
waiting_feed = one_node (Saves false 1) 1 1 0 100 0 true (pos 1 ∷ pos 2 ∷ [])

a_load_waits_for_room : first waiting_feed (after (fed 0)) (Load 0 1 1 4 true 0 false) ≡ false
a_load_waits_for_room = refl

and_comes_after_the_take : is_history waiting_feed (after (fed 0 ++ taken 1 0 ++ fed 1)) ≡ true
and_comes_after_the_take = refl

-- two jobs are reclaimed: the one that was reclaimed last is the next
reclaimed_arrays_come_first :
    queued 1 (after (flat_map fed (0 ∷ 1 ∷ 2 ∷ []) ++ taken 1 0 ++ taken 2 1 ++ (Reclaim 1 ∷ Reclaim 2 ∷ [])))
    ≡ frame 0 1 ∷ frame 0 0 ∷ frame 0 2 ∷ []
reclaimed_arrays_come_first = refl
