-- LAWS: the report of a run that has room for all its frames says that each came, was accepted and went out, everywhere.
use Rattle.std.specs.Prelude.{◌≡◌, ℕ, length, map}
use Rattle.std.specs.List.{count_by}
use Rattle.nd_base.specs.Array.{StackValue}
use Rattle.nd_base.specs.declared.graph.Graph.{Graph}
use Rattle.chain_plain.specs.Plans.{plan_of, makers_of}
use Rattle.flow_journal.specs.EntryTests.{says_regrown}
use Rattle.flow_journal.specs.Pasts.{Past}
use Rattle.run_report.specs.Report.{report}
use Rattle.run_report.specs.declared.counts.Counters.{Counters}
use Rattle.run_report.specs.declared.counts.NodeCount.{NodeCount}
use Rattle.demo_laws.specs.AmpleLaws.{IsAmpleRun}

-- so many frames came to the node and went out of it, in order
abbrev pub whole_count : ℕ → NodeCount
whole_count frames = record { offered = frames; accepted = frames; full = 0; pool = 0; sort = 0; out = frames; breaks = 0 }

-- they came to each node of the graph; storage was made anew for so many grants
abbrev pub whole_counters : (frames regrown : ℕ) → Graph → Counters
whole_counters frames regrown g =
    record {
      frames = frames;
      offered = frames;
      loaded = frames;
      refused = 0;
      breaks = 0;
      regrown = regrown;
      nodes = map (λ n. whole_count frames) g.nodes;
    }

-- only the storage that was made anew can differ from run to run
abbrev pub AmpleReportsAreWhole : Type 0
AmpleReportsAreWhole =
    (span : ℕ) (g : Graph) (stack : StackValue) (P : Past) → IsAmpleRun span g (makers_of g.nodes stack.shape) stack P
    → report (plan_of g stack) P ≡ whole_counters (length stack.arrays) (count_by says_regrown P) g
