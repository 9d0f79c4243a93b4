-- The rules on small texts.
use Rattle.std.specs.Prelude.{◌≡◌, ℕ, List, [], ◌∷◌, ◌++◌, pos, true, false, Some, None, Result, Ok, Err, codes, refl}
use Rattle.nd_base.specs.declared.form.Form.TheVariants.{Classic, Wide}
use Rattle.nd_base.specs.declared.array.SampleType.TheVariants.{UInt16}
use Rattle.nd_base.specs.declared.graph.Mode.TheVariants.{Capture}
use Rattle.trig_window.specs.declared.expression.CalcFault.TheVariants.{Unexpected}
use Rattle.trig_window.specs.Expressions.{expression_of, sign_in, parts, chain}
use Rattle.trig_window.specs.Symbols.{tokens_from, symbol_at}
use Rattle.toml.proofs.OnLiterals.{toml_on_literals}
use Rattle.graph_conf.specs.declared.fault.GraphFault.TheVariants.{Text, UnknownKey, KeyType, Range, Missing, UnknownKind, Threads, Calc, DoubleName}
use Rattle.graph_conf.specs.declared.fault.GraphFault.TheVariants.{UnknownInput, Cycle}
use Rattle.nd_base.specs.declared.graph.Graph.{Graph}
use Rattle.nd_base.specs.declared.graph.Kind.TheVariants.{Roi, Stats, File, Scatter}
use Rattle.graph_conf.specs.Nodes.{node_of, roi_rule, stats_rule, circular_rule, file_rule}
use Rattle.toml.specs.Parse.{parse_document}
use Rattle.graph_conf.specs.declared.fault.GraphFault.{GraphFault}
use Rattle.graph_conf.specs.Graphs.{graph_or_text, graph_of, run_table, node_key, linked}

-- the graph of a text, which is UTF-8
abbrev of_text : List ℕ → Result Graph GraphFault
of_text text = graph_or_text (parse_document text)

-- a file node with these lines more
abbrev file_node : List ℕ → List ℕ
file_node lines = codes "[[node]]\nname = 'cap'\nkind = 'file'\ninput = 'driver'\nmode = 'capture'\n" ++ lines

abbrev stats_node : List ℕ → List ℕ
stats_node lines = codes "[[node]]\nname = 'st'\nkind = 'stats'\ninput = 'driver'\n" ++ lines

one_file_node : of_text (file_node (codes "count = 5\n")) ≡ Ok (record {
  wait = false;
  limit = 0;
  nodes = record {
    name = codes "cap";
    kind = File (record { mode = Capture; count = 5; form = Classic });
    input = 0;
    queue = 20;
    threads = 1;
    sort = 0;
    sort_time = 100;
  } ∷ [];
})
unfolding toml_on_literals graph_of run_table node_key linked node_of roi_rule stats_rule circular_rule file_rule
one_file_node = refl

wide_file_node : of_text (file_node (codes "cdf = 2\n")) ≡ Ok (record {
  wait = false;
  limit = 0;
  nodes = record {
    name = codes "cap";
    kind = File (record { mode = Capture; count = 1; form = Wide });
    input = 0;
    queue = 20;
    threads = 1;
    sort = 0;
    sort_time = 100;
  } ∷ [];
})
unfolding toml_on_literals graph_of run_table node_key linked node_of roi_rule stats_rule circular_rule file_rule
wide_file_node = refl

file_node_of_no_form : of_text (file_node (codes "cdf = 3\n")) ≡ Err (Range (codes "cdf") (pos 3))
unfolding toml_on_literals graph_of run_table node_key linked node_of roi_rule stats_rule circular_rule file_rule
file_node_of_no_form = refl

-- the count comes before the form
file_node_of_no_count_and_no_form : of_text (file_node (codes "cdf = 'x'\ncount = 0\n")) ≡ Err (Range (codes "count") (pos 0))
unfolding toml_on_literals graph_of run_table node_key linked node_of roi_rule stats_rule circular_rule file_rule
file_node_of_no_count_and_no_form = refl

empty_text : of_text ([]) ≡ Ok (record { wait = false; limit = 0; nodes = [] })
unfolding toml_on_literals graph_of run_table node_key linked node_of roi_rule stats_rule circular_rule file_rule
empty_text = refl

no_toml : of_text (codes "x = ") ≡ Err Text
unfolding toml_on_literals graph_of run_table node_key linked node_of roi_rule stats_rule circular_rule file_rule
no_toml = refl

queue_of_none : of_text (file_node (codes "queue = 0\n")) ≡ Err (Range (codes "queue") (pos 0))
unfolding toml_on_literals graph_of run_table node_key linked node_of roi_rule stats_rule circular_rule file_rule
queue_of_none = refl

file_node_with_two_threads : of_text (file_node (codes "threads = 2\n")) ≡ Err (Threads 1)
unfolding toml_on_literals graph_of run_table node_key linked node_of roi_rule stats_rule circular_rule file_rule
file_node_with_two_threads = refl

-- a scatter node that feeds another one
abbrev scatter_node : List ℕ → List ℕ
scatter_node lines = codes "[[node]]\nname = 's'\nkind = 'scatter'\ninput = 'driver'\n" ++ lines

two_scatter_nodes : of_text (scatter_node (codes "queue = 3\nthreads = 1\n[[node]]\nname = 't'\nkind = 'scatter'\ninput = 's'\n")) ≡ Ok (record {
  wait = false;
  limit = 0;
  nodes =
      record { name = codes "s"; kind = Scatter; input = 0; queue = 3; threads = 1; sort = 0; sort_time = 100 }
      ∷ record { name = codes "t"; kind = Scatter; input = 1; queue = 20; threads = 1; sort = 0; sort_time = 100 } ∷ [];
})
unfolding toml_on_literals graph_of run_table node_key linked node_of roi_rule stats_rule circular_rule file_rule
two_scatter_nodes = refl

scatter_node_with_two_threads : of_text (scatter_node (codes "threads = 2\n")) ≡ Err (Threads 1)
unfolding toml_on_literals graph_of run_table node_key linked node_of roi_rule stats_rule circular_rule file_rule
scatter_node_with_two_threads = refl

-- it has no sort list
scatter_node_that_sorts : of_text (scatter_node (codes "sort = 4\n")) ≡ Err (UnknownKey (codes "sort"))
unfolding toml_on_literals graph_of run_table node_key linked node_of roi_rule stats_rule circular_rule file_rule
scatter_node_that_sorts = refl

-- the range of threads comes before their kind
file_node_with_seventeen_threads : of_text (file_node (codes "threads = 17\n")) ≡ Err (Range (codes "threads") (pos 17))
unfolding toml_on_literals graph_of run_table node_key linked node_of roi_rule stats_rule circular_rule file_rule
file_node_with_seventeen_threads = refl

unknown_key_at_the_top : of_text (codes "colour = 1\n") ≡ Err (UnknownKey (codes "colour"))
unfolding toml_on_literals graph_of run_table node_key linked node_of roi_rule stats_rule circular_rule file_rule
unknown_key_at_the_top = refl

-- the first in byte order, not in the text's
first_unknown_key : of_text (codes "colour = 1\nborder = 2\n") ≡ Err (UnknownKey (codes "border"))
unfolding toml_on_literals graph_of run_table node_key linked node_of roi_rule stats_rule circular_rule file_rule
first_unknown_key = refl

two_nodes_in_a_circle : of_text (codes "[[node]]\nname = 'a'\nkind = 'roi'\ninput = 'b'\n[[node]]\nname = 'b'\nkind = 'roi'\ninput = 'a'\n") ≡ Err (Cycle 1)
unfolding toml_on_literals graph_of run_table node_key linked node_of roi_rule stats_rule circular_rule file_rule
two_nodes_in_a_circle = refl

two_nodes_of_one_name : of_text (stats_node (stats_node [])) ≡ Err (DoubleName 2)
unfolding toml_on_literals graph_of run_table node_key linked node_of roi_rule stats_rule circular_rule file_rule
two_nodes_of_one_name = refl

node_behind_a_file_node : of_text (file_node (codes "[[node]]\nname = 'st'\nkind = 'stats'\ninput = 'cap'\n")) ≡ Err (UnknownInput 2)
unfolding toml_on_literals graph_of run_table node_key linked node_of roi_rule stats_rule circular_rule file_rule
node_behind_a_file_node = refl

node_named_driver : of_text (codes "[[node]]\nname = 'driver'\n") ≡ Err (KeyType (codes "name"))
unfolding toml_on_literals graph_of run_table node_key linked node_of roi_rule stats_rule circular_rule file_rule
node_named_driver = refl

node_without_a_kind : of_text (codes "[[node]]\nname = 'a'\n") ≡ Err (Missing (codes "kind"))
unfolding toml_on_literals graph_of run_table node_key linked node_of roi_rule stats_rule circular_rule file_rule
node_without_a_kind = refl

unknown_kind : of_text (codes "[[node]]\nname = 'a'\nkind = 'lens'\n") ≡ Err (UnknownKind 1)
unfolding toml_on_literals graph_of run_table node_key linked node_of roi_rule stats_rule circular_rule file_rule
unknown_kind = refl

-- a histogram's low end is below its high one; without a histogram its ends don't matter
histogram_of_one_value : of_text (stats_node (codes "hist_size = 4\nhist_lo = 7\nhist_hi = 7\n")) ≡ Err (Range (codes "hist_hi") (pos 7))
unfolding toml_on_literals graph_of run_table node_key linked node_of roi_rule stats_rule circular_rule file_rule
histogram_of_one_value = refl

no_histogram : of_text (stats_node (codes "hist_lo = 7\nhist_hi = 7\n"))
    ≡ Ok (record {
      wait = false;
      limit = 0;
      nodes = record {
        name = codes "st";
        kind = Stats (record {
          threshold = pos 0;
          border = 0;
          hist_size = 0;
          hist_lo = pos 7;
          hist_hi = pos 7;
          profiles = false;
        });
        input = 0;
        queue = 20;
        threads = 1;
        sort = 0;
        sort_time = 100;
      } ∷ [];
    })
unfolding toml_on_literals graph_of run_table node_key linked node_of roi_rule stats_rule circular_rule file_rule
no_histogram = refl

trigger_that_ends_too_early : of_text (codes "[[node]]\nname = 'c'\nkind = 'circular'\ninput = 'driver'\ntrigger = 'A>'\n") ≡ Err (Calc (Unexpected 2))
unfolding toml_on_literals graph_of run_table node_key linked node_of roi_rule stats_rule circular_rule file_rule expression_of
    sign_in parts chain tokens_from symbol_at
trigger_that_ends_too_early = refl

-- a list's length comes before its items
eleven_sizes : of_text (codes "[[node]]\nname = 'r'\nkind = 'roi'\ninput = 'driver'\nsize = [1, 1, 1, 1, 1, 1, 1, 1, 1, 1, 4294967296]\n")
    ≡ Err (Range (codes "size") (pos 11))
unfolding toml_on_literals graph_of run_table node_key linked node_of roi_rule stats_rule circular_rule file_rule
eleven_sizes = refl

-- regions may be listed before the nodes that feed them
region_of_a_region : of_text
    (codes
    "[run]\nfeed = 'wait'\npool = 64\n[[node]]\nname = 'r'\nkind = 'roi'\ninput = 'q'\nbin = [2, 2]\ntype = 'UInt16'\n[[node]]\nname = 'q'\nkind = 'roi'\ninput = 'driver'\n") ≡ Ok (record {
      wait = true;
      limit = 64;
      nodes =
          record {
            name = codes "r";
            kind = Roi (record { min = []; size = []; bin = pos 2 ∷ pos 2 ∷ []; reverse = []; auto = []; scale = 1; out = Some UInt16 });
            input = 2;
            queue = 20;
            threads = 1;
            sort = 0;
            sort_time = 100;
          }
          ∷ record {
            name = codes "q";
            kind = Roi (record { min = []; size = []; bin = []; reverse = []; auto = []; scale = 1; out = None });
            input = 0;
            queue = 20;
            threads = 1;
            sort = 0;
            sort_time = 100;
          } ∷ [];
    })
unfolding toml_on_literals graph_of run_table node_key linked node_of roi_rule stats_rule circular_rule file_rule
region_of_a_region = refl
