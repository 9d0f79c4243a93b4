-- The demo run of three frames: its words, and its graph as a text of the graph format.
use Rattle.std.specs.Prelude.{◌≡◌, [], ◌∷◌, ◌++◌, codes, Some, None, Ok, refl}
use Rattle.toml.proofs.OnLiterals.{toml_on_literals}
use Rattle.toml.specs.Parse.{parse_document}
use Rattle.graph_conf.specs.Graphs.{graph_or_text, graph_of, run_table, node_key, linked}
use Rattle.graph_conf.specs.Nodes.{node_of, roi_rule, stats_rule, circular_rule, file_rule}
use Rattle.demo_laws.specs.Demo.{demo_graph}
use Rattle.replay_top.specs.RunCommand.{run_command_of, demo_run}

three_frames : run_command_of (codes "demo" ∷ codes "3" ∷ []) ≡ Some (demo_run 3)
three_frames = refl

no_frame : run_command_of (codes "demo" ∷ codes "0" ∷ []) ≡ None
no_frame = refl

too_many : run_command_of (codes "demo" ∷ codes "4097" ∷ []) ≡ None
too_many = refl

five_digits : run_command_of (codes "demo" ∷ codes "00003" ∷ []) ≡ None
five_digits = refl

its_graph : graph_or_text (parse_document (
    codes "[[node]]\nname = 'roi'\nkind = 'roi'\ninput = 'driver'\nqueue = 3\nthreads = 4\nsort = 3\nsort_time = 2147483647\nbin = [2, 2]\ntype = 'UInt16'\n"
    ++ codes "[[node]]\nname = 'stats'\nkind = 'stats'\ninput = 'roi'\nqueue = 3\nthreads = 4\nsort = 3\nsort_time = 2147483647\n"
    ++ codes "[[node]]\nname = 'file'\nkind = 'file'\ninput = 'stats'\nqueue = 3\nmode = 'stream'\ncount = 3\n")) ≡ Ok (demo_graph 3)
unfolding toml_on_literals graph_of run_table node_key linked node_of roi_rule stats_rule circular_rule file_rule
its_graph = refl
