-- Circular nodes: eight frames of which 0, 4 and 5 fire; and a ring that holds all blocks.
use Rattle.std.specs.Prelude.{◌≡◌, ℕ, ◌==◌, ◌||◌, Bool, true, false, List, [], ◌∷◌, ◌++◌, pos, refl, flat_map}
use Rattle.flow_journal.specs.declared.entry.Entry.{Entry}
use Rattle.flow_journal.specs.declared.entry.Entry.TheVariants.{Load, LoadRefused, Tick, Emit, Take, Put, Settle, Close}
use Rattle.flow_journal.specs.declared.entry.Why.TheVariants.{Ring, Now}
use Rattle.flow_journal.specs.Setting.{Setting, Watches}
use Rattle.flow_journal.specs.Pasts.{frame}
use Rattle.flow_journal.specs.Rings.{ring}
use Rattle.flow_journal.specs.FirstEntries.{first}
use Rattle.flow_journal.specs.Histories.{is_history, is_legal}
use Rattle.flow_journal.specs.Finished.{is_finished}
use Rattle.flow_journal.specs.WorkedRuns.{one_node, after, fed}

-- two before each trigger and three from it on, for this number of windows; 0 is no end
abbrev pub two_and_three : ℕ → Setting
two_and_three preset =
    record {
      wait = false;
      pooled = true;
      limit = 0;
      nodes = record { work = Watches 2 3 preset; input = 0; queue = 20; threads = 1; sort = 0; sort_time = 100 } ∷ [];
      ids = pos 1 ∷ pos 2 ∷ pos 3 ∷ pos 4 ∷ pos 5 ∷ pos 6 ∷ pos 7 ∷ pos 8 ∷ [];
      need = λ m. 4;
      fires = λ v k. (k == 0) || (k == 4) || (k == 5);
    }

abbrev pub worked : ℕ → Bool → List Entry
worked k fired = Take 1 1 0 k ∷ Put 1 1 0 k fired ∷ []

abbrev pub goes : ℕ → List Entry
goes k = Emit 1 0 k Now ∷ []

abbrev pub eight_fed : List Entry
eight_fed = flat_map fed (0 ∷ 1 ∷ 2 ∷ 3 ∷ 4 ∷ 5 ∷ 6 ∷ 7 ∷ [])

abbrev pub first_window : List Entry
first_window = eight_fed ++ worked 0 true ++ goes 0 ++ worked 1 false ++ goes 1 ++ worked 2 false ++ goes 2 ++ worked 3 false

abbrev pub both_windows : List Entry
both_windows =
    first_window ++ worked 4 true ++ (Emit 1 0 3 Ring ∷ []) ++ goes 4 ++ worked 5 true ++ goes 5 ++ worked 6 false ++ goes 6
    ++ worked 7 false ++ (Close 0 ∷ Settle 1 1 ∷ [])

ring_has_what_lies_between : ring (two_and_three 0) 1 (after first_window) ≡ frame 0 3 ∷ []
ring_has_what_lies_between = refl

the_windows_are_a_history : is_history (two_and_three 0) (after both_windows) ≡ true
the_windows_are_a_history = refl

and_it_is_finished : is_finished (two_and_three 0) (after both_windows) ≡ true
and_it_is_finished = refl

abbrev pub one_window : List Entry
one_window = first_window ++ worked 4 true ++ worked 5 true ++ worked 6 false ++ worked 7 false ++ (Close 0 ∷ Settle 1 1 ∷ [])

one_window_is_enough : is_history (two_and_three 1) (after one_window) ≡ true
one_window_is_enough = refl

no_ring_after_the_last_window : ring (two_and_three 1) 1 (after first_window) ≡ []
no_ring_after_the_last_window = refl

the_trigger_goes_out_after_the_ring : is_legal (two_and_three 0) (after (first_window ++ worked 4 true ++ goes 4)) ≡ false
the_trigger_goes_out_after_the_ring = refl

-- A pool of 8 bytes, and two frames in the ring.
abbrev pub small_pool : Setting
small_pool = one_node (Watches 2 1 0) 20 1 0 100 8 false (pos 1 ∷ pos 2 ∷ pos 3 ∷ [])

abbrev pub two_in_the_ring : List Entry
two_in_the_ring = fed 0 ++ fed 1 ++ worked 0 false ++ worked 1 false

abbrev pub third_refused : List Entry
third_refused = two_in_the_ring ++ (LoadRefused 0 2 4 8 ∷ Tick 0 ∷ Close 0 ∷ Settle 1 1 ∷ [])

a_full_ring_is_a_history : is_history small_pool (after third_refused) ≡ true
a_full_ring_is_a_history = refl

a_full_ring_finishes : is_finished small_pool (after third_refused) ≡ true
a_full_ring_finishes = refl

a_block_in_the_ring_isnt_granted : first small_pool (after two_in_the_ring) (Load 0 2 0 4 false 0 false) ≡ false
a_block_in_the_ring_isnt_granted = refl
