-- One frame goes through a file node with files of one array, and three through one with groups of two.
use Rattle.std.specs.Prelude.{◌≡◌, ℕ, true, false, List, [], ◌∷◌, ◌++◌, pos, refl, take, drop, flat_map, slice_get, Some}
use Rattle.flow_journal.specs.declared.entry.Entry.{Entry}
use Rattle.flow_journal.specs.declared.entry.Entry.TheVariants.{Load, Tick, Issue, Emit, Accept, Take, Put, Settle, Save, Saved, Close}
use Rattle.flow_journal.specs.declared.entry.Why.TheVariants.{Plain}
use Rattle.flow_journal.specs.Setting.{Setting, Saves}
use Rattle.flow_journal.specs.Pasts.{frame}
use Rattle.flow_journal.specs.Puts.{puts}
use Rattle.flow_journal.specs.FirstEntries.{first}
use Rattle.flow_journal.specs.DueLaws.{group_at}
use Rattle.flow_journal.specs.Histories.{is_history, is_legal}
use Rattle.flow_journal.specs.Finished.{is_finished}
use Rattle.flow_journal.specs.FirstBad.{is_first_bad}
use Rattle.flow_journal.specs.WorkedRuns.{one_node, after, fed, taken, put}

abbrev pub one_file : Setting
one_file = one_node (Saves true 1) 20 1 0 100 0 false (pos 1 ∷ [])

abbrev pub eleven_entries : List Entry
eleven_entries =
    Load 0 0 0 4 true 0 false
    ∷ Tick 0
    ∷ Issue 0 0
    ∷ Emit 0 0 0 Plain
    ∷ Accept 1 0 0
    ∷ Take 1 1 0 0
    ∷ Put 1 1 0 0 false
    ∷ Close 0
    ∷ Settle 1 1
    ∷ Save 1 1 0 0 0
    ∷ Saved 1 1 0 0
    ∷ []

is_legal_history : is_history one_file (after eleven_entries) ≡ true
is_legal_history = refl

is_a_finished_one : is_finished one_file (after eleven_entries) ≡ true
is_a_finished_one = refl

abbrev without_the_fifth : List Entry
without_the_fifth = take 4 eleven_entries ++ drop 5 eleven_entries

is_bad_without_the_fifth : is_history one_file (after without_the_fifth) ≡ false
is_bad_without_the_fifth = refl

and_the_fifth_is_the_first_bad : is_first_bad one_file without_the_fifth 5 ≡ true
and_the_fifth_is_the_first_bad = refl

is_legal_without_the_last : is_history one_file (after (take 10 eleven_entries)) ≡ true
is_legal_without_the_last = refl

and_unfinished : is_finished one_file (after (take 10 eleven_entries)) ≡ false
and_unfinished = refl

-- cut inside a move, each entry is in its place, but it isn't a history
is_legal_in_mid_move : is_legal one_file (after (take 4 eleven_entries)) ≡ true
is_legal_in_mid_move = refl

is_no_history_in_mid_move : is_history one_file (after (take 4 eleven_entries)) ≡ false
is_no_history_in_mid_move = refl

-- Three frames, and groups of two that are saved once they are whole.
abbrev pub pairs : Setting
pairs = one_node (Saves true 2) 20 1 0 100 0 false (pos 1 ∷ pos 2 ∷ pos 3 ∷ [])

abbrev pub three_put : List Entry
three_put = flat_map fed (0 ∷ 1 ∷ 2 ∷ []) ++ taken 1 0 ++ put 1 0 ++ taken 1 1 ++ put 1 1 ++ taken 1 2 ++ put 1 2

abbrev pub saved : (k group : ℕ) → List Entry
saved k group = Save 1 1 0 k group ∷ Saved 1 1 0 k ∷ []

abbrev pub one_group : List Entry
one_group = three_put ++ saved 0 0 ++ saved 1 0

the_second_is_at_place_1 : slice_get (group_at 2 0 (puts 1 (after three_put))) 1 ≡ Some (frame 0 1)
the_second_is_at_place_1 = refl

the_whole_group_is_saved : is_history pairs (after one_group) ≡ true
the_whole_group_is_saved = refl

the_third_isnt_due : first pairs (after one_group) (Save 1 1 0 2 1) ≡ false
the_third_isnt_due = refl

but_once_the_node_is_settled : is_history pairs (after (one_group ++ (Close 0 ∷ Settle 1 1 ∷ []) ++ saved 2 1)) ≡ true
but_once_the_node_is_settled = refl
