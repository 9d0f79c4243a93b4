-- Worked logs of a node with room for all frames in its sort list, whose sort time is 5: with its ticks near to each other, and further apart.
use Rattle.std.specs.Prelude.{◌≡◌, false, true, List, [], ◌∷◌, ◌++◌, refl}
use Rattle.flow_journal.specs.declared.entry.Entry.{Entry}
use Rattle.flow_journal.specs.declared.entry.Entry.TheVariants.{Emit, Settle, Close}
use Rattle.flow_journal.specs.declared.entry.Why.TheVariants.{Late, Flush}
use Rattle.flow_journal.specs.Setting.{Setting}
use Rattle.flow_journal.specs.Breaks.{breaks}
use Rattle.flow_journal.specs.Finished.{is_finished}
use Rattle.flow_journal.specs.Histories.{is_history}
use Rattle.flow_journal.specs.WorkedRuns.{after, loaded, issued, fed, taken, put, steps_out}
use Rattle.flow_journal.specs.WorkedSorting.{sorting, one_two_three}
use Rattle.run_laws.specs.Drops.{has_drop}

abbrev the_node : Setting
the_node = sorting 10 one_two_three

-- The second frame is put first, and waits for the first one.
abbrev near : List Entry
near =
    fed 0 ++ fed 1 ++ taken 1 0 ++ taken 2 1 ++ put 2 1 ++ loaded 2 5 ++ issued 2 ++ taken 3 2 ++ put 1 0 ++ steps_out 0 ++ steps_out 1
    ++ put 3 2 ++ steps_out 2 ++ (Close 0 ∷ Settle 1 1 ∷ [])

near_is_a_run : (is_history the_node (after near) ≡ true) × (is_finished the_node (after near) ≡ true)
near_is_a_run = (refl, refl)

and_is_smooth : (has_drop (after near) ≡ false) × (breaks the_node 1 (after near) ≡ 0)
and_is_smooth = (refl, refl)

-- It is late by the third frame's tick.
abbrev far : List Entry
far =
    fed 0 ++ fed 1 ++ taken 1 0 ++ taken 2 1 ++ put 2 1 ++ loaded 2 6 ++ (Emit 1 0 1 Late ∷ []) ++ issued 2 ++ taken 3 2 ++ put 1 0
    ++ put 3 2 ++ steps_out 2 ++ (Close 0 ∷ Settle 1 1 ∷ Emit 1 0 0 Flush ∷ [])

far_is_a_run : (is_history the_node (after far) ≡ true) × (is_finished the_node (after far) ≡ true)
far_is_a_run = (refl, refl)

and_breaks_the_order : (has_drop (after far) ≡ false) × (breaks the_node 1 (after far) ≡ 2)
and_breaks_the_order = (refl, refl)
