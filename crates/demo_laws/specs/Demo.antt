-- The demo run: a stack of so many frames that a rule makes, and the graph that it goes through.
use Rattle.std.specs.Prelude.{ℕ, pos, false, List, [], ◌∷◌, Some, codes}
use Rattle.nd_base.specs.Array.{StackValue}
use Rattle.nd_base.specs.declared.array.SampleType.TheVariants.{UInt8, UInt16}
use Rattle.nd_base.specs.declared.form.Form.TheVariants.{Classic}
use Rattle.nd_base.specs.declared.graph.Graph.{Graph}
use Rattle.nd_base.specs.declared.graph.Kind.{Kind}
use Rattle.nd_base.specs.declared.graph.Kind.TheVariants.{Roi, Stats, File}
use Rattle.nd_base.specs.declared.graph.Mode.TheVariants.{Stream}
use Rattle.nd_base.specs.declared.graph.NodeRule.{NodeRule}
use Rattle.nd_stack.specs.Generated.{generated_stack}

-- so many frames of 64 by 48 samples
abbrev pub demo_stack : ℕ → StackValue
demo_stack frames = generated_stack frames 64 48 UInt8 1

-- no tick of a run is further from another than this, or else a result can be late
abbrev pub demo_span : ℕ
demo_span = 2147483647

-- four threads, and room for all frames in the queue and in the sort list
abbrev pub sorting_node : (name : List ℕ) → Kind → (input frames : ℕ) → NodeRule
sorting_node name kind input frames =
    record { name = name; kind = kind; input = input; queue = frames; threads = 4; sort = frames; sort_time = demo_span }

-- two by two samples are summed
abbrev pub demo_roi : ℕ → NodeRule
demo_roi frames =
    sorting_node (codes "roi") (Roi (record { min = []; size = []; bin = pos 2 ∷ pos 2 ∷ []; reverse = []; auto = []; scale = 1; out = Some UInt16 })) 0 frames

-- each region is measured
abbrev pub demo_stats : ℕ → NodeRule
demo_stats frames =
    sorting_node (codes "stats") (Stats (record { threshold = pos 0; border = 0; hist_size = 0; hist_lo = pos 0; hist_hi = pos 255; profiles = false })) 1 frames

-- and all are written to one file
abbrev pub demo_file : ℕ → NodeRule
demo_file frames = record {
  name = codes "file";
  kind = File (record { mode = Stream; count = frames; form = Classic });
  input = 2;
  queue = frames;
  threads = 1;
  sort = 0;
  sort_time = 100;
}

-- each node has room for all of them
abbrev pub demo_graph : ℕ → Graph
demo_graph frames = record { wait = false; limit = 0; nodes = demo_roi frames ∷ demo_stats frames ∷ demo_file frames ∷ [] }
