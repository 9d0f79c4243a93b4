-- LAWS of the demo run.
use Rattle.std.specs.Prelude.{◌≡◌, ℕ, ◌≤◌}
use Rattle.std.specs.List.{count_by}
use Rattle.nd_base.specs.GraphRules.{IsGraph}
use Rattle.chain_plain.specs.Plans.{makers_of, plan_of}
use Rattle.flow_journal.specs.EntryTests.{says_regrown}
use Rattle.flow_journal.specs.Pasts.{Past}
use Rattle.flow_journal.specs.RunSetting.{setting_of}
use Rattle.run_laws.specs.PlainLaws.{IsSmooth}
use Rattle.run_laws.specs.Results.{IsFinishedRun}
use Rattle.run_report.specs.Report.{report}
use Rattle.demo_laws.specs.Ample.{AreTicksWithin}
use Rattle.demo_laws.specs.Demo.{demo_graph, demo_stack, demo_span}
use Rattle.demo_laws.specs.Reports.{whole_counters}

-- nothing was dropped and nothing came out of order, and so the report is this
pub record IsWholeDemo (frames : ℕ) (P : Past) : Type 0 where
  pub smooth : IsSmooth (demo_graph frames) (makers_of (demo_graph frames).nodes (demo_stack frames).shape) (demo_stack frames) P
  pub counts : report (plan_of (demo_graph frames) (demo_stack frames)) P ≡ whole_counters frames (count_by says_regrown P) (demo_graph frames)

-- of 1 to 4,096 frames it is a graph,
abbrev pub DemosAreGraphs : Type 0
DemosAreGraphs = (frames : ℕ) → 1 ≤ frames → frames ≤ 4096 → IsGraph (demo_graph frames)

-- and a finished run of it is whole, where its ticks are near to each other
abbrev pub DemosAreWhole : Type 0
DemosAreWhole =
    (frames : ℕ) (P : Past) → 1 ≤ frames → frames ≤ 4096
    → IsFinishedRun (setting_of (demo_graph frames) (makers_of (demo_graph frames).nodes (demo_stack frames).shape) (demo_stack frames).arrays) P
    → AreTicksWithin demo_span P → IsWholeDemo frames P
