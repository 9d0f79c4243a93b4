-- Breaks and marks on worked logs, and logs that are illegal in one entry, at which the laws of order fail.
use Rattle.std.specs.Prelude.{◌≡◌, ◌+◌, nat_lt, true, false, List, [], ◌∷◌, ◌++◌, refl}
use Rattle.flow_journal.specs.declared.entry.Entry.{Entry}
use Rattle.flow_journal.specs.declared.entry.Entry.TheVariants.{Emit}
use Rattle.flow_journal.specs.declared.entry.Why.TheVariants.{Late, Flush}
use Rattle.flow_journal.specs.Setting.{Setting}
use Rattle.flow_journal.specs.Pasts.{frame}
use Rattle.flow_journal.specs.Ended.{now, has_ended}
use Rattle.flow_journal.specs.Waiting.{waiting}
use Rattle.flow_journal.specs.Breaks.{breaks}
use Rattle.flow_journal.specs.Histories.{is_legal}
use Rattle.flow_journal.specs.WorkedRuns.{after, loaded, fed, taken, put, steps_out}
use Rattle.flow_journal.specs.WorkedSorting.{sorting, one_three_two, one_late}
use Rattle.run_laws.specs.OrderLaws.{marked_breaks}

abbrev the_list : Setting
the_list = sorting 10 one_three_two

both_breaks_are_marked : (breaks the_list 1 (after one_late) ≡ 2) × (marked_breaks the_list 1 (after one_late) ≡ 2)
both_breaks_are_marked = (refl, refl)

-- the array of id 3 waits
abbrev three_waits : List Entry
three_waits = fed 0 ++ fed 1 ++ taken 1 0 ++ taken 2 1 ++ put 2 1

-- it goes out as a step, which it is not
abbrev marked_wrong : List Entry
marked_wrong = three_waits ++ steps_out 1

marked_wrong_is_illegal : is_legal the_list (after marked_wrong) ≡ false
marked_wrong_is_illegal = refl

and_breaks_without_a_mark : (breaks the_list 1 (after marked_wrong) ≡ 1) × (marked_breaks the_list 1 (after marked_wrong) ≡ 0)
and_breaks_without_a_mark = (refl, refl)

-- it goes out late after tick 6, and the sort time is 5
a_late_one_has_waited : is_legal the_list (after (three_waits ++ loaded 2 6 ++ (Emit 1 0 1 Late ∷ []))) ≡ true
a_late_one_has_waited = refl

-- and not after tick 5
too_early_is_illegal : is_legal the_list (after (three_waits ++ loaded 2 5 ++ (Emit 1 0 1 Late ∷ []))) ≡ false
too_early_is_illegal = refl

since_it_has_not_waited : (waiting the_list 1 (after (three_waits ++ loaded 2 5)) ≡ record { array = frame 0 1; tick = 0 } ∷ [])
    × (nat_lt (0 + 5) (now (after (three_waits ++ loaded 2 5))) ≡ false)
since_it_has_not_waited = (refl, refl)

-- nor is it flushed before the feed is closed
flushed_early_is_illegal : is_legal the_list (after (three_waits ++ (Emit 1 0 1 Flush ∷ []))) ≡ false
flushed_early_is_illegal = refl

since_the_input_goes_on : has_ended 0 (after three_waits) ≡ false
since_the_input_goes_on = refl
