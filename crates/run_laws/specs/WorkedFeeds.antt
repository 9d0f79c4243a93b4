-- Grants and a waiting feed on worked logs, and logs that are illegal in one entry, at which the laws fail.
use Rattle.std.specs.Prelude.{◌≡◌, true, false, List, [], ◌∷◌, ◌++◌, refl}
use Rattle.flow_journal.specs.declared.entry.Entry.{Entry}
use Rattle.flow_journal.specs.declared.entry.Entry.TheVariants.{Load, TakeBlock, Reclaim}
use Rattle.flow_journal.specs.Accounts.{refs}
use Rattle.flow_journal.specs.Histories.{is_history, is_legal}
use Rattle.flow_journal.specs.WorkedRuns.{after, loaded, issued_in_vain, fed, taken}
use Rattle.flow_journal.specs.WorkedSaves.{one_file}
use Rattle.flow_journal.specs.WorkedBlocks.{twelve_bytes}
use Rattle.flow_journal.specs.WorkedQueues.{waiting_feed}
use Rattle.run_laws.specs.Drops.{fulls, has_reclaim}

-- THE FEED

no_full_queue : fulls 1 (after (fed 0 ++ taken 1 0 ++ fed 1)) ≡ 0
no_full_queue = refl

-- a load that doesn't wait
abbrev impatient : List Entry
impatient = fed 0 ++ loaded 1 0 ++ issued_in_vain 1

impatient_is_illegal : is_history waiting_feed (after impatient) ≡ false
impatient_is_illegal = refl

and_finds_a_full_queue : (fulls 1 (after impatient) ≡ 1) × (has_reclaim (after impatient) ≡ false)
and_finds_a_full_queue = (refl, refl)

-- a job that is reclaimed between the load and the issue of another frame takes the room: the premise on reclaims is needed
abbrev taken_back : List Entry
taken_back = fed 0 ++ taken 1 0 ++ loaded 1 0 ++ (Reclaim 1 ∷ []) ++ issued_in_vain 1

taken_back_is_a_history : is_history waiting_feed (after taken_back) ≡ true
taken_back_is_a_history = refl

and_leaves_no_room : fulls 1 (after taken_back) ≡ 1
and_leaves_no_room = refl

-- GRANTS: a block that is queued would be granted, to the driver and to a maker
a_held_block_is_not_loaded : (is_legal one_file (after (fed 0 ++ (Load 0 0 0 4 false 0 false ∷ []))) ≡ false) × (refs one_file (after (fed 0)) 0 ≡ 1)
a_held_block_is_not_loaded = (refl, refl)

a_held_block_is_not_taken : (is_legal twelve_bytes (after (fed 0 ++ fed 1 ++ (TakeBlock false false 1 1 0 0 1 4 0 ∷ []))) ≡ false)
    × (refs twelve_bytes (after (fed 0 ++ fed 1)) 1 ≡ 1)
a_held_block_is_not_taken = (refl, refl)
