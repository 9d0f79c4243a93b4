-- What went out, on worked logs; and on logs that are illegal in one entry or not finished, at which the laws fail.
use Rattle.std.specs.Prelude.{◌≡◌, ℕ, ◌==◌, true, false, List, [], ◌∷◌, ◌++◌, refl, take, map, length, filter}
use Rattle.nd_base.specs.declared.frame.FrameName.{FrameName}
use Rattle.trig_window.specs.Windows.{passed_items}
use Rattle.flow_journal.specs.declared.entry.Entry.{Entry}
use Rattle.flow_journal.specs.declared.entry.Entry.TheVariants.{Emit, Put, Settle, Save, Saved, Close, Reclaim}
use Rattle.flow_journal.specs.declared.entry.Why.TheVariants.{Plain}
use Rattle.flow_journal.specs.Setting.{Setting, Passes}
use Rattle.flow_journal.specs.Pasts.{frame}
use Rattle.flow_journal.specs.Unsaved.{saves, standing_saves}
use Rattle.flow_journal.specs.Rings.{ring}
use Rattle.flow_journal.specs.Accepted.{accepted, emitted}
use Rattle.flow_journal.specs.Histories.{is_history}
use Rattle.flow_journal.specs.Finished.{is_finished}
use Rattle.flow_journal.specs.WorkedRuns.{one_node, after, fed, taken, put}
use Rattle.flow_journal.specs.WorkedSaves.{one_file, eleven_entries}
use Rattle.flow_journal.specs.WorkedSorting.{one_two_three, three_taken}
use Rattle.flow_journal.specs.WorkedBlocks.{twelve_bytes, one_given_up}
use Rattle.flow_journal.specs.WorkedWindows.{two_and_three, first_window, both_windows, small_pool, two_in_the_ring, third_refused, worked, goes}
use Rattle.run_laws.specs.Results.{indices}
use Rattle.flow_journal.specs.ResultNames.{result_name}

-- FILES

a_file_saves_the_accepted : standing_saves 1 (after eleven_entries) ≡ accepted one_file 1 (after eleven_entries)
a_file_saves_the_accepted = refl

-- one put has another frame's name: all but that entry is in its place, and the log is finished
abbrev another_name : List Entry
another_name = take 6 eleven_entries ++ (Put 1 1 0 7 false ∷ Close 0 ∷ Settle 1 1 ∷ Save 1 1 0 7 0 ∷ Saved 1 1 0 7 ∷ [])

another_name_is_illegal : is_history one_file (after another_name) ≡ false
another_name_is_illegal = refl

another_name_is_finished : is_finished one_file (after another_name) ≡ true
another_name_is_finished = refl

and_is_saved : standing_saves 1 (after another_name) ≡ frame 0 7 ∷ []
and_is_saved = refl

though_not_accepted : accepted one_file 1 (after another_name) ≡ frame 0 0 ∷ []
though_not_accepted = refl

-- not finished
nothing_is_saved_before_the_save : standing_saves 1 (after (take 9 eleven_entries)) ≡ []
nothing_is_saved_before_the_save = refl

but_accepted : accepted one_file 1 (after (take 9 eleven_entries)) ≡ frame 0 0 ∷ []
but_accepted = refl

-- A job of the worker and a piece of the feeder are taken back, and the drain does both.
abbrev both_taken_back : List Entry
both_taken_back =
    fed 0 ++ taken 1 0 ++ (Reclaim 1 ∷ []) ++ taken 2 0 ++ put 2 0
    ++ (Close 0 ∷ Settle 1 1 ∷ Save 0 1 0 0 0 ∷ Reclaim 0 ∷ Save 2 1 0 0 0 ∷ Saved 2 1 0 0 ∷ [])

both_taken_back_is_a_history : is_history one_file (after both_taken_back) ≡ true
both_taken_back_is_a_history = refl

both_taken_back_is_finished : is_finished one_file (after both_taken_back) ≡ true
both_taken_back_is_finished = refl

the_array_is_saved_once_for_good : standing_saves 1 (after both_taken_back) ≡ accepted one_file 1 (after both_taken_back)
the_array_is_saved_once_for_good = refl

though_two_saves_began : saves 1 (after both_taken_back) ≡ frame 0 0 ∷ frame 0 0 ∷ []
though_two_saves_began = refl

-- REGIONS: the first of two arrays is dropped by the pool
abbrev region_done : List Entry
region_done = one_given_up ++ (Close 0 ∷ Settle 1 1 ∷ [])

region_done_is_a_history : is_history twelve_bytes (after region_done) ≡ true
region_done_is_a_history = refl

region_done_is_finished : is_finished twelve_bytes (after region_done) ≡ true
region_done_is_finished = refl

the_maker_emits_its_result : emitted 1 (after region_done) ≡ map (result_name twelve_bytes 1) (accepted twelve_bytes 1 (after region_done))
the_maker_emits_its_result = refl

-- the result has another index than the job's array
abbrev another_index : List Entry
another_index = take 12 one_given_up ++ (Put 1 1 1 7 false ∷ Emit 1 1 7 Plain ∷ Close 0 ∷ Settle 1 1 ∷ [])

another_index_is_illegal : is_history twelve_bytes (after another_index) ≡ false
another_index_is_illegal = refl

another_index_is_finished : is_finished twelve_bytes (after another_index) ≡ true
another_index_is_finished = refl

and_goes_out : (emitted 1 (after another_index) ≡ frame 1 7 ∷ []) × (accepted twelve_bytes 1 (after another_index) ≡ frame 0 1 ∷ [])
and_goes_out = (refl, refl)

-- SEVERAL THREADS, put in the order 3, 1, 2
abbrev pub four_threads : Setting
four_threads = one_node (Passes false) 20 4 0 100 0 false one_two_three

abbrev pub out : ℕ → List Entry
out k = Emit 1 0 k Plain ∷ []

-- put so that these go out
abbrev pub mixed : List Entry
mixed = three_taken ++ put 3 2 ++ out 2 ++ put 1 0 ++ out 0 ++ put 2 1 ++ out 1 ++ (Close 0 ∷ Settle 1 1 ∷ [])

mixed_is_a_history : is_history four_threads (after mixed) ≡ true
mixed_is_a_history = refl

mixed_is_finished : is_finished four_threads (after mixed) ≡ true
mixed_is_finished = refl

accepted_in_order : accepted four_threads 1 (after mixed) ≡ frame 0 0 ∷ frame 0 1 ∷ frame 0 2 ∷ []
accepted_in_order = refl

and_emitted_in_another : emitted 1 (after mixed) ≡ frame 0 2 ∷ frame 0 0 ∷ frame 0 1 ∷ []
and_emitted_in_another = refl

-- one array goes out in place of another
abbrev pub out_twice : List Entry
out_twice = three_taken ++ put 3 2 ++ out 2 ++ put 1 0 ++ out 2 ++ put 2 1 ++ out 1 ++ (Close 0 ∷ Settle 1 1 ∷ [])

out_twice_is_illegal : is_history four_threads (after out_twice) ≡ false
out_twice_is_illegal = refl

out_twice_is_finished : is_finished four_threads (after out_twice) ≡ true
out_twice_is_finished = refl

and_one_stands_twice :
    (length (filter (λ k. k == 2) (indices (emitted 1 (after out_twice)))) ≡ 2)
    × (length (filter (λ k. k == 2) (indices (accepted four_threads 1 (after out_twice)))) ≡ 1)
and_one_stands_twice = (refl, refl)

-- WINDOWS

the_windows_pass_on : emitted 1 (after both_windows) ≡ passed_items 2 3 0 (map (λ (a : FrameName). (two_and_three 0).fires 1 a.index)
    (accepted (two_and_three 0) 1 (after both_windows))) (accepted (two_and_three 0) 1 (after both_windows))
the_windows_pass_on = refl

-- without the entry that lets the ring out
abbrev without_the_ring : List Entry
without_the_ring =
    first_window ++ worked 4 true ++ goes 4 ++ worked 5 true ++ goes 5 ++ worked 6 false ++ goes 6 ++ worked 7 false ++ (Close 0 ∷ Settle 1 1 ∷ [])

without_the_ring_is_illegal : is_history (two_and_three 0) (after without_the_ring) ≡ false
without_the_ring_is_illegal = refl

without_the_ring_is_finished : is_finished (two_and_three 0) (after without_the_ring) ≡ true
without_the_ring_is_finished = refl

and_lacks_one : (length (emitted 1 (after both_windows)) ≡ 7) × (length (emitted 1 (after without_the_ring)) ≡ 6)
and_lacks_one = (refl, refl)

-- two arrays are in the ring when the node is settled, and don't go out
the_ring_is_full : ring small_pool 1 (after two_in_the_ring) ≡ frame 0 0 ∷ frame 0 1 ∷ []
the_ring_is_full = refl

a_settle_empties_the_ring : ring small_pool 1 (after third_refused) ≡ []
a_settle_empties_the_ring = refl

and_lets_nothing_out : (emitted 1 (after third_refused) ≡ []) × (accepted small_pool 1 (after third_refused) ≡ frame 0 0 ∷ frame 0 1 ∷ [])
and_lets_nothing_out = (refl, refl)
