-- Measures of a board: in the order of emission, and those of the arrays' contents.
use Rattle.std.specs.Prelude.{◌≡◌, ℤ, [], ◌∷◌, Some, None, pos, true, false, refl, codes}
use Rattle.nd_base.specs.Array.{Array, StackValue}
use Rattle.nd_base.specs.declared.array.Dim.{Dim}
use Rattle.nd_base.specs.declared.array.SampleType.TheVariants.{UInt8}
use Rattle.nd_base.specs.declared.form.Form.TheVariants.{Classic}
use Rattle.nd_base.specs.declared.graph.Graph.{Graph}
use Rattle.nd_base.specs.declared.graph.Kind.TheVariants.{Stats}
use Rattle.nd_base.specs.declared.graph.StatsRule.{StatsRule}
use Rattle.chain_plain.specs.OneThread.{measure_of_array}
use Rattle.nd_base.specs.declared.measure.Measure.{Measure}
use Rattle.flow_journal.specs.Pasts.{frame}
use Rattle.flow_journal.specs.Setting.{id_at}
use Rattle.board_rules.specs.States.{past}
use Rattle.board_rules.specs.RunMeasures.{run_measure}
use Rattle.board_rules.specs.Ends.{measured}
use Rattle.board_rules.specs.WorkedCalls.{sorting, all_at_once}

-- a measure that tells its id alone
abbrev pub of_id : ℤ → Measure
of_id id =
    record {
      id = id;
      n = 0;
      min = pos 0;
      min_at = 0;
      max = pos 0;
      max_at = 0;
      total = pos 0;
      squares = 0;
      border = pos 0;
      border_n = 0;
      over = 0;
      m0 = pos 0;
      mx = pos 0;
      my = pos 0;
      below = 0;
      bins = [];
      above = 0;
      x = [];
      y = [];
    }

-- of the arrays put in the order 3, 1, 2
in_the_order_of_emission : measured (λ v a. Some (of_id (id_at sorting a.index))) sorting (past all_at_once)
    ≡ (of_id (pos 1) ∷ of_id (pos 2) ∷ of_id (pos 3) ∷ []) ∷ []
in_the_order_of_emission = refl

abbrev pub side : Dim
side = record { size = 2; offset = pos 0; binning = pos 1; reverse = false }

abbrev pub one_to_four : Array
one_to_four =
    record { id = pos 1; stamp = 0; sec = pos 0; nsec = pos 0; kind = UInt8; dims = side ∷ side ∷ []; samples = pos 1 ∷ pos 2 ∷ pos 3 ∷ pos 4 ∷ []; attrs = [] }

abbrev pub one_array : StackValue
one_array = record { shape = record { form = Classic; kind = UInt8; dims = side ∷ side ∷ []; attrs = []; width = 0; extras = [] }; arrays = one_to_four ∷ [] }

abbrev pub stats_rule : StatsRule
stats_rule = record { border = 1; threshold = pos 3; hist_lo = pos 0; hist_hi = pos 10; hist_size = 6; profiles = true }

abbrev pub one_stats : Graph
one_stats =
    record {
      wait = false;
      limit = 0;
      nodes = record { name = codes "st"; kind = Stats stats_rule; input = 0; queue = 20; threads = 1; sort = 0; sort_time = 100 } ∷ [];
    }

-- that of the array's samples, whose numbers are a row of nd_stats
what_it_measures : run_measure one_stats one_array 1 (frame 0 0) ≡ Some (measure_of_array stats_rule one_to_four)
what_it_measures = refl

no_other_frame_is_measured : run_measure one_stats one_array 1 (frame 0 1) ≡ None
no_other_frame_is_measured = refl
