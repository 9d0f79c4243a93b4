-- Worked rows: what calls answer and log.
use Rattle.std.specs.Prelude.{◌≡◌, ◌==◌, ◌^◌, true, false, [], ◌∷◌, ◌++◌, Some, None, Ok, Err, pos, refl, if◌then◌else◌}
use Rattle.flow_journal.specs.declared.entry.Entry.TheVariants as entry
use Rattle.flow_journal.specs.declared.entry.Why.TheVariants.{Step}
use Rattle.flow_journal.specs.Setting.{Setting, Makes, Passes, Saves}
use Rattle.flow_journal.specs.Pasts.{frame}
use Rattle.flow_journal.specs.Queued.{queued}
use Rattle.flow_journal.specs.Breaks.{breaks}
use Rattle.flow_journal.specs.Accounts.{held}
use Rattle.flow_journal.specs.Accepted.{emitted}
use Rattle.flow_journal.specs.Histories.{is_history}
use Rattle.flow_journal.specs.Finished.{is_finished}
use Rattle.flow_journal.specs.WorkedRuns.{one_node, after}
use Rattle.flow_journal.specs.WorkedQueues.{free_feed}
use Rattle.flow_journal.specs.WorkedWindows.{small_pool}
use Rattle.flow_journal.specs.WorkedBlocks.{four_bytes}
use Rattle.board_rules.specs.declared.answers.Load.TheVariants as load
use Rattle.board_rules.specs.declared.answers.Take.TheVariants as take
use Rattle.board_rules.specs.declared.answers.Save.TheVariants as save
use Rattle.board_rules.specs.declared.answers.Left.{Left}
use Rattle.board_rules.specs.declared.answers.NoWhy.TheVariants.{NoHand, Spent}
use Rattle.board_rules.specs.States.{BoardState, past, plain, lends, loses}
use Rattle.board_rules.specs.Moving.{moved, moved_at}
use Rattle.board_rules.specs.Storage.{is_away, lost_of, parts_here}
use Rattle.board_rules.specs.Feeding.{LoadGives, load_refusal}
use Rattle.flow_journal.specs.Hands.{hand}
use Rattle.flow_journal.specs.Unsaved.{unsaved}
use Rattle.board_rules.specs.InHand.{at, just}
use Rattle.board_rules.specs.Working.{TakeGives, take_refusal, PutGives}
use Rattle.board_rules.specs.Saving.{SaveGives}
use Rattle.board_rules.specs.Leaving.{ReclaimGives, reclaim_refusal}
use Rattle.board_rules.specs.Worked.{Sample, parts_of, part, Bytes, size_of, loaded, issued, fed, taken, put, closed, settled}

-- QUEUE OF ONE: three frames are issued before any take, and the second and third are full. The third has the second one's block.
abbrev pub two_fed : BoardState
two_fed = fed free_feed 1 (fed free_feed 0 [])

abbrev pub three_fed : BoardState
three_fed = issued free_feed 2 (moved free_feed (plain (entry.Load 0 2 1 4 false 0 false)) two_fed)

the_third_has_the_free_block : LoadGives {F = Sample} parts_of size_of free_feed two_fed 0 0 (load.Loaded 2 4)
    (moved free_feed (plain (entry.Load 0 2 1 4 false 0 false)) two_fed)
the_third_has_the_free_block = (refl, refl, (false, (refl, λ told. refl), refl))

one_is_queued : queued 1 (past three_fed) ≡ frame 0 0 ∷ []
one_is_queued = refl

three_are_a_history : is_history free_feed (past three_fed) ≡ true
three_are_a_history = refl

-- POOL OF EIGHT WITH A RING: two frames stand in the ring, and the third is refused.
abbrev pub two_in_the_ring : BoardState
two_in_the_ring =
    put small_pool 1 1 (taken small_pool 1 1 (fed small_pool 1 (put small_pool 1 0 (taken small_pool 1 0 (fed small_pool 0 [])))))

abbrev pub third_refused : BoardState
third_refused = moved_at small_pool 0 (plain (entry.LoadRefused 0 2 4 8)) two_in_the_ring

the_third_is_refused : LoadGives {F = Sample} parts_of size_of small_pool two_in_the_ring 0 0 (load.Refused 2 8) third_refused
the_third_is_refused = (refl, refl, refl)

-- a ring that let its block go would have been granted
it_cant_be_loaded : LoadGives {F = Sample} parts_of size_of small_pool two_in_the_ring 0 0 (load.Loaded 2 4) third_refused → ⊥
it_cant_be_loaded h = h

nothing_went_out : emitted 1 (past third_refused) ≡ []
nothing_went_out = refl

and_the_ring_is_given_up : is_finished small_pool (past (settled small_pool 1 (closed small_pool third_refused))) ≡ true
and_the_ring_is_given_up = refl

-- SORTED: a list of size 10 and a sort time of 5, with room for three frames. They are put in the order 3, 1, 2.
abbrev pub sorting : Setting
sorting = one_node (Passes false) 20 4 10 5 12 false (pos 1 ∷ pos 2 ∷ pos 3 ∷ pos 4 ∷ [])

abbrev pub three_taken : BoardState
three_taken = taken sorting 3 2 (taken sorting 2 1 (taken sorting 1 0 (fed sorting 2 (fed sorting 1 (fed sorting 0 [])))))

abbrev pub all_at_once : BoardState
all_at_once = put sorting 2 1 (put sorting 1 0 (put sorting 3 2 three_taken))

they_go_out_by_id : emitted 1 (past all_at_once) ≡ frame 0 0 ∷ frame 0 1 ∷ frame 0 2 ∷ []
they_go_out_by_id = refl

without_a_break : breaks sorting 1 (past all_at_once) ≡ 0
without_a_break = refl

-- the fourth load is refused at tick 6, and the one that waits goes out late; the others are flushed
abbrev pub one_late : BoardState
one_late = moved_at sorting 6 (plain (entry.LoadRefused 0 3 4 12)) (put sorting 3 2 three_taken)

a_refused_load_lets_it_out : LoadGives {F = Sample} parts_of size_of sorting (put sorting 3 2 three_taken) 0 6 (load.Refused 3 12) one_late
a_refused_load_lets_it_out = (refl, refl, refl)

abbrev pub then_flushed : BoardState
then_flushed = settled sorting 1 (closed sorting (put sorting 2 1 (put sorting 1 0 one_late)))

the_late_one_is_first : emitted 1 (past then_flushed) ≡ frame 0 2 ∷ frame 0 0 ∷ frame 0 1 ∷ []
the_late_one_is_first = refl

with_two_breaks : breaks sorting 1 (past then_flushed) ≡ 2
with_two_breaks = refl

it_is_a_history : is_history sorting (past then_flushed) ≡ true
it_is_a_history = refl

-- A FULL LIST: size 1, and puts 3, 4, 1, 2.
abbrev pub short_list : Setting
short_list = one_node (Passes false) 20 4 1 5 0 false (pos 1 ∷ pos 2 ∷ pos 3 ∷ pos 4 ∷ [])

abbrev pub four_taken : BoardState
four_taken =
    taken short_list 4 3
    (taken short_list 3 2 (taken short_list 2 1 (taken short_list 1 0 (fed short_list 3 (fed short_list 2 (fed short_list 1 (fed short_list 0 [])))))))

what_a_full_list_logs :
    past (put short_list 2 1 (put short_list 1 0 (put short_list 4 3 (put short_list 3 2 four_taken))))
    ≡ after
    (entry.Put 3 1 0 2 false ∷ entry.Put 4 1 0 3 false ∷ entry.SortDrop 1 0 3 ∷ entry.Put 1 1 0 0 false ∷ entry.Emit 1 0 0 Step
    ∷ entry.Put 2 1 0 1 false ∷ entry.Emit 1 0 1 Step ∷ entry.Emit 1 0 2 Step ∷ [])
    ++ past four_taken
what_a_full_list_logs = refl

-- LIMIT OF FOUR: the input is held while the pool is asked, so a maker's take drops it, and its block is granted again.
abbrev pub one_fed : BoardState
one_fed = fed four_bytes 0 []

abbrev pub one_dropped : BoardState
one_dropped = moved four_bytes (plain (entry.PoolDrop 1 1 0 0 4 4)) one_fed

the_take_drops_it : TakeGives {F = Sample} {O = Unit {0}} (λ f. f.name) parts_of size_of four_bytes one_fed 1 1 (take.PoolDrop 0 4) one_dropped
the_take_drops_it = (refl, (frame 0 0, refl, refl, refl))

its_block_is_granted_again :
    LoadGives {F = Sample} parts_of size_of four_bytes one_dropped 0 0 (load.Loaded 1 4)
    (moved four_bytes (plain (entry.Load 0 1 0 4 false 0 false)) one_dropped)
its_block_is_granted_again = (refl, refl, (false, (refl, λ told. refl), refl))

-- RECLAIMED: a worker leaves with a job, whose part comes back. Then another has the same frame again.
abbrev pub one_worker : Setting
one_worker = one_node (Passes false) 20 2 0 100 0 false (pos 1 ∷ [])

abbrev pub one_has_left : BoardState
one_has_left = moved one_worker (plain (entry.Leave 1)) (taken one_worker 1 0 (fed one_worker 0 []))

abbrev pub with_part : Left Sample Bytes (Unit {0})
with_part = record { input = Some (part 0); made = None; blank = None }

abbrev pub taken_back : BoardState
taken_back = moved one_worker (loses 1 []) one_has_left

it_is_taken_back : ReclaimGives {E = Unit {0}} (λ (f : Sample). f.name) one_worker one_has_left 1 with_part (Ok tt) taken_back
it_is_taken_back = (refl, refl)

it_is_queued_again : queued 1 (past taken_back) ≡ frame 0 0 ∷ []
it_is_queued_again = refl

its_storage_isnt_away : is_away 0 taken_back ≡ false
its_storage_isnt_away = refl

the_others_are_sent_away : take_refusal {F = Sample} {B = Bytes} {O = Unit {0}} one_worker 1 1 (past taken_back) ≡ Some take.Left
the_others_are_sent_away = refl

the_drain_has_it : TakeGives {F = Sample} {O = Unit {0}} (λ f. f.name) parts_of size_of one_worker taken_back 3 1
    (take.Job 1 (part 0) None) (taken one_worker 3 0 taken_back)
the_drain_has_it = (refl, (refl, refl), refl)

no_hand_is_left : reclaim_refusal one_worker 1 (past taken_back) ≡ Some NoHand
no_hand_is_left = refl

the_drain_is_spent : reclaim_refusal one_worker 3 (past (taken one_worker 3 0 taken_back)) ≡ Some Spent
the_drain_is_spent = refl

-- STORAGE: a feeder leaves with a loaded frame and brings nothing back, so the drain's load makes its storage anew.
abbrev pub feeder_has_left : BoardState
feeder_has_left = moved one_worker (plain (entry.Leave 0)) (loaded one_worker 0 [])

abbrev pub with_nothing : Left Sample Bytes (Unit {0})
with_nothing = record { input = None; made = None; blank = None }

abbrev pub without_storage : BoardState
without_storage = moved one_worker (loses 0 (0 ∷ [])) feeder_has_left

nothing_comes_back : ReclaimGives {E = Unit {0}} (λ (f : Sample). f.name) one_worker feeder_has_left 0 with_nothing (Ok tt) without_storage
nothing_comes_back = (refl, refl)

it_is_regrown : LoadGives {F = Sample} parts_of size_of one_worker without_storage 3 0 (load.Loaded 0 4)
    (moved one_worker (plain (entry.Load 3 0 0 4 false 0 true)) without_storage)
it_is_regrown = (refl, refl, (true, (refl, λ told. refl), refl))

memory_may_be_wanting : LoadGives {F = Sample} parts_of size_of one_worker without_storage 3 0 load.OutOfMemory without_storage
memory_may_be_wanting = (λ told. refl, refl)

-- a job's part that stays away is missing for good
abbrev pub without_part : BoardState
without_part = moved one_worker (loses 1 (0 ∷ [])) one_has_left

a_part_stays_away : parts_here without_part 0 ≡ 4294967295
a_part_stays_away = refl

and_else_all_are_here : parts_here taken_back 0 ≡ 4294967296
and_else_all_are_here = refl

-- FEED WAIT: with a queue of one, the second frame isn't loaded before the first is taken.
abbrev pub waiting_feed : Setting
waiting_feed = one_node (Passes false) 1 1 0 100 0 true (pos 1 ∷ pos 2 ∷ [])

no_room_yet : load_refusal {B = Bytes} waiting_feed 0 (past (fed waiting_feed 0 [])) ≡ Some load.NotYet
no_room_yet = refl

room_after_the_take : load_refusal {B = Bytes} waiting_feed 0 (past (taken waiting_feed 1 0 (fed waiting_feed 0 []))) ≡ None
room_after_the_take = refl

-- NOT YOURS: the result of another array comes back with what the role has in hand, and nothing changed.
abbrev pub one_taken : BoardState
one_taken = taken one_worker 1 0 (fed one_worker 0 [])

it_isnt_yours :
    PutGives {E = Unit {0}} (λ (f : Sample). f.name) one_worker one_taken 1 (just 1 (part 1))
    (Err (record { kept = Some (at 1 (frame 0 0)); given = at 1 (frame 0 1); back = just 1 (part 1) })) one_taken
it_isnt_yours = (refl, refl, refl)

-- A MAKER: the job has a block of the array's size, and the result has the node's name. The input's block is granted again.
abbrev pub halves : Setting
halves = record (one_node Makes 20 1 0 100 8 false (pos 1 ∷ pos 2 ∷ [])) { need = λ m. if m == 0 then 4 else 2 }

abbrev pub block_taken : BoardState
block_taken = moved halves (lends (entry.TakeBlock true false 1 1 0 0 1 2 0) (parts_of (part 0))) (fed halves 0 [])

a_block_comes_with_it : TakeGives {F = Sample} {O = Unit {0}} (λ f. f.name) parts_of size_of halves (fed halves 0 []) 1 1
    (take.Job 1 (part 0) (Some 2)) block_taken
a_block_comes_with_it = (refl, (refl, refl), refl, (false, (refl, λ told. refl), refl))

abbrev pub half : Sample
half = record { name = frame 1 0; here = 2 ^ 32 }

abbrev pub made_and_put : BoardState
made_and_put = moved halves (plain (entry.Put 1 1 1 0 false)) block_taken

it_has_the_nodes_name :
    PutGives {E = Unit {0}} (λ (f : Sample). f.name) halves block_taken 1
    (record { node = 1; input = part 0; made = Some half; measured = None; fired = false }) (Ok tt) made_and_put
it_has_the_nodes_name = (refl, refl)

it_is_emitted : emitted 1 (past made_and_put) ≡ frame 1 0 ∷ []
it_is_emitted = refl

nothing_is_held : held halves (past made_and_put) ≡ 0
nothing_is_held = refl

-- both blocks stay away where a worker brings nothing back
both_stay_away : lost_of {F = Sample} {B = Bytes} {O = Unit {0}} (λ f. f.name) (past block_taken) (hand 1 (past block_taken)) with_nothing ≡ 1 ∷ 0 ∷ []
both_stay_away = refl

-- A PIECE that is reclaimed is the first of its group again.
abbrev pub two_in_a_group : Setting
two_in_a_group = one_node (Saves true 2) 20 1 0 100 0 false (pos 1 ∷ pos 2 ∷ [])

abbrev pub two_put : BoardState
two_put = put two_in_a_group 1 1 (taken two_in_a_group 1 1 (put two_in_a_group 1 0 (taken two_in_a_group 1 0 (fed two_in_a_group 1 (fed two_in_a_group 0 [])))))

abbrev pub piece_out : BoardState
piece_out = moved two_in_a_group (lends (entry.Save 1 1 0 0 0) (parts_of (part 0))) two_put

it_is_the_first_of_two : SaveGives {F = Sample} (λ f. f.name) parts_of two_in_a_group two_put 1 1 (save.Piece (part 0) 0 0 (Some 2)) piece_out
it_is_the_first_of_two = (refl, refl, refl, refl, refl, refl)

it_is_first_again : unsaved two_in_a_group 1 (past (moved two_in_a_group (loses 1 []) piece_out)) ≡ frame 0 0 ∷ frame 0 1 ∷ []
it_is_first_again = refl
