-- Drops on worked logs, and logs that are illegal in one entry, at which the laws of drops fail.
use Rattle.std.specs.Prelude.{◌≡◌, ◌+◌, true, false, List, [], ◌∷◌, ◌++◌, refl, take, drop, flat_map, length}
use Rattle.flow_journal.specs.declared.entry.Entry.{Entry}
use Rattle.flow_journal.specs.declared.entry.Entry.TheVariants.{Load, LoadRefused, Tick, Issue, Emit, PoolDrop, SortDrop, Settle, Save, Saved, Close}
use Rattle.flow_journal.specs.declared.entry.Why.TheVariants.{Plain}
use Rattle.flow_journal.specs.Pasts.{frame}
use Rattle.flow_journal.specs.Offered.{offered, offered_frames}
use Rattle.flow_journal.specs.Queued.{has_room}
use Rattle.flow_journal.specs.Waiting.{waiting}
use Rattle.flow_journal.specs.Breaks.{outs}
use Rattle.flow_journal.specs.Accounts.{grant}
use Rattle.flow_journal.specs.FirstEntries.{is_refused}
use Rattle.flow_journal.specs.Accepted.{accepted, emitted}
use Rattle.flow_journal.specs.Histories.{is_history, is_legal}
use Rattle.flow_journal.specs.Finished.{is_finished}
use Rattle.flow_journal.specs.IndexLaws.{below}
use Rattle.flow_journal.specs.WorkedRuns.{after, loaded, issued, issued_in_vain, fed, taken, put}
use Rattle.flow_journal.specs.WorkedSaves.{one_file, eleven_entries}
use Rattle.flow_journal.specs.WorkedSorting.{sorting, one_two_three, up_to_four, three_taken, one_dropped}
use Rattle.flow_journal.specs.WorkedBlocks.{twelve_bytes, one_given_up}
use Rattle.flow_journal.specs.WorkedWindows.{small_pool, third_refused}
use Rattle.flow_journal.specs.WorkedQueues.{free_feed, two_dropped}
use Rattle.run_laws.specs.Drops.{fulls, pool_drops, sort_drops, loaded_frames, refused}

-- COUNTS

a_refused_output_counts : length (offered 1 (after one_given_up)) ≡ 1 + 0 + pool_drops 1 (after one_given_up) + 0
a_refused_output_counts = refl

a_full_list_counts : length (offered 1 (after one_dropped))
    ≡ length (accepted (sorting 1 up_to_four) 1 (after one_dropped)) + 0 + 0 + sort_drops 1 (after one_dropped)
a_full_list_counts = refl

a_full_queue_counts : length (offered 1 (after two_dropped)) ≡ length (accepted free_feed 1 (after two_dropped)) + fulls 1 (after two_dropped) + 0 + 0
a_full_queue_counts = refl

a_refused_frame_counts : length (offered_frames (after third_refused)) ≡ length (loaded_frames (after third_refused)) + refused (after third_refused)
a_refused_frame_counts = refl

and_every_frame_came : offered_frames (after third_refused) ≡ below 3
and_every_frame_came = refl

the_driver_emits_what_was_loaded : outs small_pool 0 (after third_refused) ≡ loaded_frames (after third_refused)
the_driver_emits_what_was_loaded = refl

-- a second drop of one array isn't legal, and would count twice
abbrev dropped_twice : List Entry
dropped_twice = one_given_up ++ take 1 (drop 10 one_given_up)

dropped_twice_is_illegal : is_legal twelve_bytes (after dropped_twice) ≡ false
dropped_twice_is_illegal = refl

and_counts_twice : (length (offered 1 (after dropped_twice)) ≡ 2) × (length (accepted twelve_bytes 1 (after dropped_twice)) ≡ 1)
    × (pool_drops 1 (after dropped_twice) ≡ 2)
and_counts_twice = (refl, refl, refl)

-- OFFERS

-- an emission that isn't offered to the child
abbrev no_offer : List Entry
no_offer = take 4 eleven_entries ++ (Close 0 ∷ Settle 1 1 ∷ [])

no_offer_is_illegal : is_history one_file (after no_offer) ≡ false
no_offer_is_illegal = refl

and_the_array_is_lost : (offered 1 (after no_offer) ≡ []) × (emitted 0 (after no_offer) ≡ frame 0 0 ∷ [])
and_the_array_is_lost = (refl, refl)

-- another frame is emitted than was issued
abbrev another_emitted : List Entry
another_emitted = take 3 eleven_entries ++ (Emit 0 0 7 Plain ∷ []) ++ drop 4 eleven_entries

another_emitted_is_illegal : is_history one_file (after another_emitted) ≡ false
another_emitted_is_illegal = refl

another_emitted_is_finished : is_finished one_file (after another_emitted) ≡ true
another_emitted_is_finished = refl

and_was_not_loaded : (outs one_file 0 (after another_emitted) ≡ 7 ∷ []) × (loaded_frames (after another_emitted) ≡ 0 ∷ [])
and_was_not_loaded = (refl, refl)

-- one frame is loaded twice
abbrev loaded_twice : List Entry
loaded_twice =
    take 7 eleven_entries ++ (Load 0 0 1 4 true 0 false ∷ Tick 0 ∷ []) ++ issued 0 ++ taken 1 0 ++ put 1 0
    ++ (Close 0 ∷ Settle 1 1 ∷ Save 1 1 0 0 0 ∷ Saved 1 1 0 0 ∷ Save 1 1 0 0 1 ∷ Saved 1 1 0 0 ∷ [])

loaded_twice_is_illegal : is_history one_file (after loaded_twice) ≡ false
loaded_twice_is_illegal = refl

loaded_twice_is_finished : is_finished one_file (after loaded_twice) ≡ true
loaded_twice_is_finished = refl

and_came_twice : offered_frames (after loaded_twice) ≡ 0 ∷ 0 ∷ []
and_came_twice = refl

-- a feed that is closed too early
abbrev closed_early : List Entry
closed_early = Close 0 ∷ Settle 1 1 ∷ []

closed_early_is_illegal : is_history one_file (after closed_early) ≡ false
closed_early_is_illegal = refl

and_no_frame_came : offered_frames (after closed_early) ≡ []
and_no_frame_came = refl

-- CAUSES

-- a queue with room
abbrev offered_one : List Entry
offered_one = loaded 0 0 ++ (Issue 0 0 ∷ Emit 0 0 0 Plain ∷ [])

an_empty_queue_has_room : has_room free_feed (after offered_one) 1 ≡ true
an_empty_queue_has_room = refl

and_drops_nothing : is_legal free_feed (after (loaded 0 0 ++ issued_in_vain 0)) ≡ false
and_drops_nothing = refl

-- a pool of 12 bytes, of which 4 are held
the_pool_has_eight_more : is_refused (grant twelve_bytes (after (fed 0)) 8) ≡ false
the_pool_has_eight_more = refl

and_no_output_is_dropped : is_legal twelve_bytes (after (fed 0 ++ (PoolDrop 1 1 0 0 8 4 ∷ []))) ≡ false
and_no_output_is_dropped = refl

-- a pool of 8 bytes, of which 4 are held
the_pool_has_four_more : is_refused (grant small_pool (after (fed 0)) 4) ≡ false
the_pool_has_four_more = refl

and_no_frame_is_refused : is_legal small_pool (after (fed 0 ++ (LoadRefused 0 1 4 4 ∷ []))) ≡ false
and_no_frame_is_refused = refl

-- a sort list of size 1, in which one waits besides the result that is dropped
abbrev one_waits : List Entry
one_waits = flat_map fed (0 ∷ 1 ∷ 2 ∷ 3 ∷ []) ++ taken 1 0 ++ taken 2 1 ++ taken 3 2 ++ taken 4 3 ++ put 3 2 ++ put 4 3

the_list_is_full : waiting (sorting 1 up_to_four) 1 (after one_waits) ≡ record { array = frame 0 2; tick = 0 } ∷ record { array = frame 0 3; tick = 0 } ∷ []
the_list_is_full = refl

and_the_result_is_dropped : is_legal (sorting 1 up_to_four) (after (one_waits ++ (SortDrop 1 0 3 ∷ []))) ≡ true
and_the_result_is_dropped = refl

-- in which none does
none_waits_besides : waiting (sorting 1 one_two_three) 1 (after (three_taken ++ put 3 2)) ≡ record { array = frame 0 2; tick = 0 } ∷ []
none_waits_besides = refl

and_no_result_is_dropped : is_legal (sorting 1 one_two_three) (after (three_taken ++ put 3 2 ++ (SortDrop 1 0 2 ∷ []))) ≡ false
and_no_result_is_dropped = refl
