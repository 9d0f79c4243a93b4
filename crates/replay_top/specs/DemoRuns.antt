-- What is known of a demo run, whatever its threads do.
use Rattle.std.specs.Prelude.{◌≡◌, ℕ, List, Option}
use Rattle.edge_traits.specs.Written.{with_written}
use Rattle.chain_plain.specs.Plans.{makers_of}
use Rattle.flow_journal.specs.Pasts.{Past}
use Rattle.run_laws.specs.PlainLaws.{IsSmooth}
use Rattle.run_report.specs.Text.{report_text}
use Rattle.demo_laws.specs.Ample.{AreTicksWithin}
use Rattle.demo_laws.specs.Demo.{demo_graph, demo_stack, demo_span}
use Rattle.demo_laws.specs.Reports.{whole_counters}
use Rattle.replay_top.specs.RunCommand.{RunCommand, Demo}

-- what it prints
abbrev pub demo_text : (frames : ℕ) → List ℕ
demo_text frames = report_text (demo_graph frames) (whole_counters frames 0 (demo_graph frames))

-- nothing was dropped, nothing came out of order, and this was printed
pub record IsDemoDone (frames : ℕ) (P : Past) (before after : Option (List ℕ)) : Type 0 where
  pub smooth : IsSmooth (demo_graph frames) (makers_of (demo_graph frames).nodes (demo_stack frames).shape) (demo_stack frames) P
  pub printed : after ≡ with_written before (demo_text frames)

-- so it is where no two ticks of the log are too far apart
abbrev pub IsDemoSteady : (before after : Option (List ℕ)) → RunCommand → Past → Type 0
IsDemoSteady before after c P = (frames : ℕ) → c.source ≡ Demo frames → AreTicksWithin demo_span P → IsDemoDone frames P before after
