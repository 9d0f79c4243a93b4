-- LAWS: in a run that has room for all its frames nothing is dropped, and nothing comes out of order.
use Rattle.std.specs.Prelude.{ℕ, List, length}
use Rattle.nd_base.specs.Array.{StackValue}
use Rattle.nd_base.specs.GraphRules.{IsGraph}
use Rattle.nd_base.specs.declared.graph.Graph.{Graph}
use Rattle.nd_base.specs.declared.plan.Maker.{Maker}
use Rattle.flow_journal.specs.Pasts.{Past}
use Rattle.flow_journal.specs.RunSetting.{setting_of}
use Rattle.run_laws.specs.PlainLaws.{IsSmooth}
use Rattle.run_laws.specs.Results.{IsFinishedRun}
use Rattle.demo_laws.specs.Ample.{IsAmple, HasIdsInTurn, AreTicksWithin}

-- this is a finished run of a graph that has room for all frames of the stack
pub record IsAmpleRun (span : ℕ) (g : Graph) (makers : List Maker) (stack : StackValue) (P : Past) : Type 0 where
  pub sound : IsGraph g
  pub ample : IsAmple (length stack.arrays) span g
  pub ids : HasIdsInTurn stack.arrays
  pub run : IsFinishedRun (setting_of g makers stack.arrays) P
  pub ticks : AreTicksWithin span P

abbrev pub AmpleRunsAreSmooth : Type 0
AmpleRunsAreSmooth = (span : ℕ) (g : Graph) (makers : List Maker) (stack : StackValue) (P : Past) → IsAmpleRun span g makers stack P → IsSmooth g makers stack P
