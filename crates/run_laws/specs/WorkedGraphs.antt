-- Runs over small graphs: with their one-thread results, and with or without those of the plain run.
use Rattle.std.specs.Prelude.{◌≡◌, ℕ, zero, suc, ◌≤◌, true, false, List, [], ◌∷◌, ◌++◌, length, refl, take, flat_map, ℤ, pos, codes}
use Rattle.std.proofs.Common.{arith}
use Rattle.nd_base.specs.Array.{Array, StackValue}
use Rattle.nd_base.specs.declared.array.SampleType.TheVariants.{UInt8}
use Rattle.nd_base.specs.declared.attribute.AttrValue.TheVariants.{Whole}
use Rattle.nd_base.specs.declared.form.Form.TheVariants.{Classic}
use Rattle.nd_base.specs.Trees.{letter_a}
use Rattle.nd_base.specs.declared.graph.Graph.{Graph}
use Rattle.nd_base.specs.declared.graph.Kind.{Kind}
use Rattle.nd_base.specs.declared.graph.Kind.TheVariants.{Stats, Circular, File}
use Rattle.nd_base.specs.declared.graph.Mode.TheVariants.{Capture}
use Rattle.nd_base.specs.declared.graph.NodeRule.{NodeRule}
use Rattle.nd_base.specs.declared.plan.Maker.{Maker}
use Rattle.chain_plain.specs.Nodes.{maker_at}
use Rattle.chain_plain.specs.OneThread.{outputs, one_thread}
use Rattle.chain_plain.specs.PlainRun.{passed, result_of}
use Rattle.flow_journal.specs.declared.entry.Entry.{Entry}
use Rattle.flow_journal.specs.declared.entry.Entry.TheVariants.{Load, Tick, Issue, Emit, Accept, Take, Put, Settle, Save, Saved, Close}
use Rattle.flow_journal.specs.declared.entry.Why.TheVariants.{Plain, Now}
use Rattle.flow_journal.specs.Setting.{Setting}
use Rattle.flow_journal.specs.Pasts.{frame}
use Rattle.flow_journal.specs.Breaks.{breaks}
use Rattle.flow_journal.specs.Accepted.{accepted}
use Rattle.flow_journal.specs.Histories.{is_history}
use Rattle.flow_journal.specs.Finished.{is_finished}
use Rattle.flow_journal.specs.RunSetting.{setting_of}
use Rattle.flow_journal.specs.WorkedRuns.{after, loaded, issued_in_vain, fed, taken, put}
use Rattle.flow_journal.specs.WorkedSorting.{three_taken}
use Rattle.run_laws.specs.Drops.{has_drop}
use Rattle.run_laws.specs.PlainLaws.{IsSmooth}
use Rattle.run_laws.specs.Results.{put_out, indices, contents, outcome}
use Rattle.run_laws.specs.WorkedOutputs.{out, mixed, out_twice}

-- an empty array of this id, with one attribute
abbrev gated : ℤ → ℤ → Array
gated id gate =
    record {
      id = id;
      stamp = 0;
      sec = pos 0;
      nsec = pos 0;
      kind = UInt8;
      dims = [];
      samples = [];
      attrs = record { name = codes "Gate"; value = Whole gate } ∷ [];
    }

abbrev stack_of : List Array → StackValue
stack_of arrays = record { shape = record { form = Classic; kind = UInt8; dims = []; attrs = []; width = 1; extras = [] }; arrays = arrays }

abbrev rule : List ℕ → Kind → (input queue threads : ℕ) → NodeRule
rule name kind input queue threads = record { name = name; kind = kind; input = input; queue = queue; threads = threads; sort = 0; sort_time = 100 }

abbrev over : List NodeRule → Graph
over nodes = record { wait = false; limit = 0; nodes = nodes }

-- the driver is the only maker
abbrev driver_alone : List Maker
driver_alone = record { node = 0; kind = UInt8; dims = []; need = 4 } ∷ []

abbrev run_of : Graph → StackValue → Setting
run_of g stack = setting_of g driver_alone stack.arrays

-- WINDOWS INTO A FILE: three frames, of which the first fires, one array from each trigger on, and files of two

abbrev three_gated : StackValue
three_gated = stack_of (gated (pos 1) (pos 1) ∷ gated (pos 2) (pos 0) ∷ gated (pos 3) (pos 0) ∷ [])

abbrev gated_graph : Graph
gated_graph = over
    (rule (codes "watch") (Circular (record { pre = 0; post = 1; preset = 0; trigger = letter_a; a = codes "Gate"; b = [] })) 0 20 1
    ∷ rule (codes "file") (File (record { mode = Capture; count = 2; form = Classic })) 1 20 1
    ∷ [])

abbrev gated_run : Setting
gated_run = run_of gated_graph three_gated

abbrev two_more : List Entry
two_more = Take 1 1 0 1 ∷ Put 1 1 0 1 false ∷ Take 1 1 0 2 ∷ Put 1 1 0 2 false ∷ []

abbrev gated_log : List Entry
gated_log =
    flat_map fed (0 ∷ 1 ∷ 2 ∷ []) ++ (Take 1 1 0 0 ∷ Put 1 1 0 0 true ∷ Emit 1 0 0 Now ∷ Accept 2 0 0 ∷ []) ++ two_more
    ++ (Take 2 2 0 0 ∷ Put 2 2 0 0 false ∷ Close 0 ∷ Settle 1 1 ∷ Settle 2 2 ∷ Save 2 2 0 0 0 ∷ Saved 2 2 0 0 ∷ [])

gated_is_a_history : is_history gated_run (after gated_log) ≡ true
gated_is_a_history = refl

gated_is_finished : is_finished gated_run (after gated_log) ≡ true
gated_is_finished = refl

the_window_is_one_thread : outcome gated_graph.nodes 1 (contents gated_graph.nodes three_gated.arrays (put_out gated_run 1 (after gated_log)))
    ≡ one_thread gated_graph.nodes three_gated.arrays 1 (indices (accepted gated_run 1 (after gated_log)))
the_window_is_one_thread = refl

the_file_is_one_thread : (one_thread gated_graph.nodes three_gated.arrays 2 (indices (accepted gated_run 2 (after gated_log)))).files
    ≡ (gated (pos 1) (pos 1) ∷ []) ∷ []
the_file_is_one_thread = refl

and_was_saved : contents gated_graph.nodes three_gated.arrays (put_out gated_run 2 (after gated_log)) ≡ gated (pos 1) (pos 1) ∷ []
and_was_saved = refl

-- nothing was dropped and nothing broke the order, and each node put out what it does in the plain run
all_kept_in_step : (has_drop (after gated_log) ≡ false) × (breaks gated_run 0 (after gated_log) ≡ 0) × (breaks gated_run 1 (after gated_log) ≡ 0)
    × (breaks gated_run 2 (after gated_log) ≡ 0)
all_kept_in_step = (refl, refl, refl, refl)

in_step : (v : ℕ) → v ≤ length gated_graph.nodes → breaks gated_run v (after gated_log) ≡ 0
in_step zero within = refl
in_step (suc zero) within = refl
in_step (suc (suc zero)) within = refl
in_step (suc (suc (suc k))) within = absurd (omega (arith, within))

-- so the premises of the law can be met
gated_is_smooth : IsSmooth gated_graph driver_alone three_gated (after gated_log)
gated_is_smooth = record { run = record { legal = refl; finished = refl }; kept = refl; in_step = in_step }

so_the_window_is_plain : indices (put_out gated_run 1 (after gated_log)) ≡ passed gated_graph three_gated 1
so_the_window_is_plain = refl

and_the_file_is_plain : outcome gated_graph.nodes 2 (contents gated_graph.nodes three_gated.arrays (put_out gated_run 2 (after gated_log)))
    ≡ result_of gated_graph three_gated 2
and_the_file_is_plain = refl

-- one result has another maker's name than its input, which is the driver
abbrev another_maker : List Entry
another_maker =
    flat_map fed (0 ∷ 1 ∷ 2 ∷ []) ++ (Take 1 1 0 0 ∷ Put 1 1 7 0 true ∷ Emit 1 7 0 Now ∷ Accept 2 7 0 ∷ []) ++ two_more
    ++ (Take 2 2 7 0 ∷ Put 2 2 7 0 false ∷ Close 0 ∷ Settle 1 1 ∷ Settle 2 2 ∷ Save 2 2 7 0 0 ∷ Saved 2 2 7 0 ∷ [])

another_maker_is_illegal : is_history gated_run (after another_maker) ≡ false
another_maker_is_illegal = refl

another_maker_is_finished : is_finished gated_run (after another_maker) ≡ true
another_maker_is_finished = refl

and_is_not_of_the_driver : (put_out gated_run 1 (after another_maker) ≡ frame 7 0 ∷ []) × (accepted gated_run 2 (after another_maker) ≡ frame 7 0 ∷ [])
    × (maker_at gated_graph.nodes 1 ≡ 0)
and_is_not_of_the_driver = (refl, refl, refl)

-- another frame is saved than was put: nothing is dropped
abbrev another_saved : List Entry
another_saved = take 28 gated_log ++ (Save 2 2 0 1 0 ∷ Saved 2 2 0 1 ∷ [])

another_saved_is_illegal : is_history gated_run (after another_saved) ≡ false
another_saved_is_illegal = refl

another_saved_is_not_accepted : (indices (put_out gated_run 2 (after another_saved)) ≡ 1 ∷ []) × (indices (accepted gated_run 2 (after another_saved)) ≡ 0 ∷ [])
another_saved_is_not_accepted = (refl, refl)

-- A DROP: one file node whose queue takes one array

abbrev narrow_graph : Graph
narrow_graph = over (rule (codes "file") (File (record { mode = Capture; count = 2; form = Classic })) 0 1 1 ∷ [])

abbrev narrow_run : Setting
narrow_run = run_of narrow_graph three_gated

abbrev two_lost : List Entry
two_lost =
    fed 0 ++ loaded 1 0 ++ issued_in_vain 1 ++ (Load 0 2 1 4 false 0 false ∷ Tick 0 ∷ []) ++ issued_in_vain 2
    ++ taken 1 0 ++ put 1 0 ++ (Close 0 ∷ Settle 1 1 ∷ Save 1 1 0 0 0 ∷ Saved 1 1 0 0 ∷ [])

two_lost_is_a_history : is_history narrow_run (after two_lost) ≡ true
two_lost_is_a_history = refl

two_lost_is_finished : is_finished narrow_run (after two_lost) ≡ true
two_lost_is_finished = refl

and_the_file_is_not_plain : (has_drop (after two_lost) ≡ true) × (indices (put_out narrow_run 1 (after two_lost)) ≡ 0 ∷ [])
    × (passed narrow_graph three_gated 1 ≡ 0 ∷ 1 ∷ 2 ∷ [])
and_the_file_is_not_plain = (refl, refl, refl)

-- A BREAK: a statistics node with four threads

abbrev wide_graph : Graph
wide_graph =
    over (rule (codes "st") (Stats (record { threshold = pos 0; border = 0; hist_size = 0; hist_lo = pos 0; hist_hi = pos 0; profiles = false })) 0 20 4 ∷ [])

abbrev wide_run : Setting
wide_run = run_of wide_graph three_gated

mixed_is_a_run : (is_history wide_run (after mixed) ≡ true) × (is_finished wide_run (after mixed) ≡ true) × (has_drop (after mixed) ≡ false)
mixed_is_a_run = (refl, refl, refl)

and_breaks_the_order : (breaks wide_run 1 (after mixed) ≡ 2) × (indices (put_out wide_run 1 (after mixed)) ≡ 2 ∷ 0 ∷ 1 ∷ [])
    × (passed wide_graph three_gated 1 ≡ 0 ∷ 1 ∷ 2 ∷ [])
and_breaks_the_order = (refl, refl, refl)

-- one array goes out in place of another
out_twice_is_no_run : (is_history wide_run (after out_twice) ≡ false) × (is_finished wide_run (after out_twice) ≡ true)
out_twice_is_no_run = (refl, refl)

and_is_not_what_was_accepted : (indices (put_out wide_run 1 (after out_twice)) ≡ 2 ∷ 2 ∷ 1 ∷ [])
    × (outputs wide_graph.nodes three_gated.arrays 1 (indices (accepted wide_run 1 (after out_twice))) ≡ 0 ∷ 1 ∷ 2 ∷ [])
and_is_not_what_was_accepted = (refl, refl)

-- the last frame is emitted and isn't offered: nothing is dropped, and nothing breaks the order
abbrev last_lost : List Entry
last_lost =
    flat_map fed (0 ∷ 1 ∷ []) ++ loaded 2 0 ++ (Issue 0 2 ∷ Emit 0 0 2 Plain ∷ [])
    ++ taken 1 0 ++ put 1 0 ++ out 0 ++ taken 1 1 ++ put 1 1 ++ out 1 ++ (Close 0 ∷ Settle 1 1 ∷ [])

last_lost_is_illegal : (is_history wide_run (after last_lost) ≡ false) × (is_finished wide_run (after last_lost) ≡ true)
last_lost_is_illegal = (refl, refl)

and_drops_and_breaks_nothing : (has_drop (after last_lost) ≡ false) × (breaks wide_run 0 (after last_lost) ≡ 0) × (breaks wide_run 1 (after last_lost) ≡ 0)
and_drops_and_breaks_nothing = (refl, refl, refl)

but_it_is_not_plain : (indices (put_out wide_run 1 (after last_lost)) ≡ 0 ∷ 1 ∷ []) × (passed wide_graph three_gated 1 ≡ 0 ∷ 1 ∷ 2 ∷ [])
but_it_is_not_plain = (refl, refl)

-- EQUAL IDS: the order of two frames of one id is no break, whichever goes out first
abbrev five_five_six : StackValue
five_five_six = stack_of (gated (pos 5) (pos 0) ∷ gated (pos 5) (pos 0) ∷ gated (pos 6) (pos 0) ∷ [])

abbrev second_first : List Entry
second_first = three_taken ++ put 2 1 ++ out 1 ++ put 1 0 ++ out 0 ++ put 3 2 ++ out 2 ++ (Close 0 ∷ Settle 1 1 ∷ [])

second_first_is_a_run : (is_history (run_of wide_graph five_five_six) (after second_first) ≡ true)
    × (is_finished (run_of wide_graph five_five_six) (after second_first) ≡ true)
second_first_is_a_run = (refl, refl)

and_breaks_nothing : (has_drop (after second_first) ≡ false) × (breaks (run_of wide_graph five_five_six) 0 (after second_first) ≡ 0)
    × (breaks (run_of wide_graph five_five_six) 1 (after second_first) ≡ 0)
and_breaks_nothing = (refl, refl, refl)

though_it_is_not_plain : (indices (put_out (run_of wide_graph five_five_six) 1 (after second_first)) ≡ 1 ∷ 0 ∷ 2 ∷ [])
    × (passed wide_graph five_five_six 1 ≡ 0 ∷ 1 ∷ 2 ∷ [])
though_it_is_not_plain = (refl, refl)

-- IDS THAT FALL: here the driver breaks the order, and the node doesn't
abbrev five_four : StackValue
five_four = stack_of (gated (pos 5) (pos 0) ∷ gated (pos 4) (pos 0) ∷ [])

abbrev four_first : List Entry
four_first = flat_map fed (0 ∷ 1 ∷ []) ++ taken 1 0 ++ taken 2 1 ++ put 2 1 ++ out 1 ++ put 1 0 ++ out 0 ++ (Close 0 ∷ Settle 1 1 ∷ [])

four_first_is_a_run : (is_history (run_of wide_graph five_four) (after four_first) ≡ true)
    × (is_finished (run_of wide_graph five_four) (after four_first) ≡ true)
four_first_is_a_run = (refl, refl)

and_only_the_driver_breaks : (breaks (run_of wide_graph five_four) 0 (after four_first) ≡ 1) × (breaks (run_of wide_graph five_four) 1 (after four_first) ≡ 0)
and_only_the_driver_breaks = (refl, refl)

nor_is_it_plain : (indices (put_out (run_of wide_graph five_four) 1 (after four_first)) ≡ 1 ∷ 0 ∷ []) × (passed wide_graph five_four 1 ≡ 0 ∷ 1 ∷ [])
nor_is_it_plain = (refl, refl)
