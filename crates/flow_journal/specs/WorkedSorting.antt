-- Sort lists.
use Rattle.std.specs.Prelude.{◌≡◌, ℕ, ℤ, true, false, List, [], ◌∷◌, ◌++◌, pos, refl, flat_map}
use Rattle.flow_journal.specs.declared.entry.Entry.{Entry}
use Rattle.flow_journal.specs.declared.entry.Entry.TheVariants.{Emit, SortDrop, Settle, Close}
use Rattle.flow_journal.specs.declared.entry.Why.TheVariants.{Late, Flush}
use Rattle.flow_journal.specs.Setting.{Setting, Passes}
use Rattle.flow_journal.specs.Pasts.{frame}
use Rattle.flow_journal.specs.Breaks.{breaks}
use Rattle.flow_journal.specs.Histories.{is_history, is_legal}
use Rattle.flow_journal.specs.Finished.{is_finished}
use Rattle.flow_journal.specs.Accepted.{accepted}
use Rattle.flow_journal.specs.WorkedRuns.{one_node, after, loaded, issued, fed, taken, put, steps_out}

-- a sort list of this size and a sort time of 5
abbrev pub sorting : ℕ → List ℤ → Setting
sorting size ids = one_node (Passes false) 20 4 size 5 0 false ids

abbrev pub one_two_three : List ℤ
one_two_three = pos 1 ∷ pos 2 ∷ pos 3 ∷ []

abbrev pub three_taken : List Entry
three_taken = flat_map fed (0 ∷ 1 ∷ 2 ∷ []) ++ taken 1 0 ++ taken 2 1 ++ taken 3 2

-- put in the order 3, 1, 2, all at tick 0
abbrev pub sorted_out : List Entry
sorted_out = three_taken ++ put 3 2 ++ put 1 0 ++ steps_out 0 ++ put 2 1 ++ steps_out 1 ++ steps_out 2 ++ (Close 0 ∷ Settle 1 1 ∷ [])

they_go_out_in_order : is_history (sorting 10 one_two_three) (after sorted_out) ≡ true
they_go_out_in_order = refl

without_a_break : breaks (sorting 10 one_two_three) 1 (after sorted_out) ≡ 0
without_a_break = refl

and_finish : is_finished (sorting 10 one_two_three) (after sorted_out) ≡ true
and_finish = refl

the_least_waits_for_its_step : is_legal (sorting 10 one_two_three) (after (three_taken ++ put 3 2 ++ steps_out 2)) ≡ false
the_least_waits_for_its_step = refl

-- Ids 1, 3, 2: the array of id 3 waits until the load of the third frame brings tick 6, and the others are flushed.
abbrev pub one_three_two : List ℤ
one_three_two = pos 1 ∷ pos 3 ∷ pos 2 ∷ []

abbrev pub one_late : List Entry
one_late =
    fed 0 ++ fed 1 ++ taken 1 0 ++ taken 2 1 ++ put 2 1 ++ loaded 2 6 ++ (Emit 1 0 1 Late ∷ []) ++ issued 2 ++ taken 3 2
    ++ put 1 0 ++ put 3 2 ++ (Close 0 ∷ Settle 1 1 ∷ Emit 1 0 0 Flush ∷ Emit 1 0 2 Flush ∷ [])

a_late_one_goes_out : is_history (sorting 10 one_three_two) (after one_late) ≡ true
a_late_one_goes_out = refl

with_two_breaks : breaks (sorting 10 one_three_two) 1 (after one_late) ≡ 2
with_two_breaks = refl

-- A list of size 1, and puts 3, 4, 1, 2.
abbrev pub up_to_four : List ℤ
up_to_four = pos 1 ∷ pos 2 ∷ pos 3 ∷ pos 4 ∷ []

abbrev pub one_dropped : List Entry
one_dropped =
    flat_map fed (0 ∷ 1 ∷ 2 ∷ 3 ∷ []) ++ taken 1 0 ++ taken 2 1 ++ taken 3 2 ++ taken 4 3 ++ put 3 2 ++ put 4 3
    ++ (SortDrop 1 0 3 ∷ []) ++ put 1 0 ++ steps_out 0 ++ put 2 1 ++ steps_out 1 ++ steps_out 2

a_full_list_drops : is_history (sorting 1 up_to_four) (after one_dropped) ≡ true
a_full_list_drops = refl

what_it_dropped_isnt_accepted : accepted (sorting 1 up_to_four) 1 (after one_dropped) ≡ frame 0 0 ∷ frame 0 1 ∷ frame 0 2 ∷ []
what_it_dropped_isnt_accepted = refl

-- Ids 5, 5, 6: an id keeps step with itself.
abbrev pub five_twice : List ℤ
five_twice = pos 5 ∷ pos 5 ∷ pos 6 ∷ []

abbrev pub one_by_one : List Entry
one_by_one =
    flat_map fed (0 ∷ 1 ∷ 2 ∷ []) ++ taken 1 0 ++ put 1 0 ++ steps_out 0 ++ taken 1 1 ++ put 1 1 ++ steps_out 1
    ++ taken 1 2 ++ put 1 2 ++ steps_out 2

equal_ids_keep_step : is_history (sorting 10 five_twice) (after one_by_one) ≡ true
equal_ids_keep_step = refl

and_are_no_break : breaks (sorting 10 five_twice) 1 (after one_by_one) ≡ 0
and_are_no_break = refl

-- ids 5 and 3 at the driver
a_step_back_is_a_break : breaks (sorting 10 (pos 5 ∷ pos 3 ∷ [])) 0 (after (fed 0 ++ fed 1)) ≡ 1
a_step_back_is_a_break = refl
