-- Blocks of a maker's output: a refused one, and one for which another block is given up.
use Rattle.std.specs.Prelude.{◌≡◌, ◌==◌, true, false, List, [], ◌∷◌, ◌++◌, pos, refl, take, if◌then◌else◌}
use Rattle.flow_journal.specs.declared.entry.Entry.{Entry}
use Rattle.flow_journal.specs.declared.entry.Entry.TheVariants.{Load, Tick, Emit, TakeBlock, PoolDrop, Put}
use Rattle.flow_journal.specs.declared.entry.Why.TheVariants.{Plain}
use Rattle.flow_journal.specs.Setting.{Setting, Makes}
use Rattle.flow_journal.specs.Pasts.{frame}
use Rattle.flow_journal.specs.Accounts.{known, refs, held, block_of}
use Rattle.flow_journal.specs.Histories.{is_history}
use Rattle.flow_journal.specs.WorkedRuns.{one_node, after, fed}

-- room for one frame
abbrev pub four_bytes : Setting
four_bytes = one_node Makes 20 1 0 100 4 false (pos 1 ∷ pos 2 ∷ [])

the_input_frees_its_block : is_history four_bytes (after (fed 0 ++ (PoolDrop 1 1 0 0 4 4 ∷ Load 0 1 0 4 false 0 false ∷ Tick 0 ∷ []))) ≡ true
the_input_frees_its_block = refl

-- frames of 4 bytes, outputs of 8, and room for 12
abbrev pub twelve_bytes : Setting
twelve_bytes =
    record (one_node Makes 20 1 0 100 12 false (pos 1 ∷ pos 2 ∷ [])) { need = λ m. if m == 0 then 4 else 8 }

abbrev pub one_given_up : List Entry
one_given_up =
    fed 0 ++ fed 1 ++ (PoolDrop 1 1 0 0 8 8 ∷ TakeBlock true false 1 1 0 1 0 8 1 ∷ Put 1 1 1 1 false ∷ Emit 1 1 1 Plain ∷ [])

a_free_block_is_given_up : is_history twelve_bytes (after one_given_up) ≡ true
a_free_block_is_given_up = refl

the_new_block_has_its_number : known twelve_bytes (after one_given_up) ≡ record { number = 0; size = 8 } ∷ record { number = 1; size = 4 } ∷ []
the_new_block_has_its_number = refl

and_no_place_at_the_end : refs twelve_bytes (after one_given_up) 0 ≡ 0
and_no_place_at_the_end = refl

-- in mid-job the input's 4 bytes and the output's 8 are held, and none at the end
both_are_held : held twelve_bytes (after (take 12 one_given_up)) ≡ 12
both_are_held = refl

none_is_held_at_the_end : held twelve_bytes (after one_given_up) ≡ 0
none_is_held_at_the_end = refl

the_frame_has_its_block : block_of (after one_given_up) (frame 1 1) ≡ 0 ∷ []
the_frame_has_its_block = refl
