-- What a command leaves of its files where not all were written to their ends.
use Rattle.std.specs.Prelude.{ℕ, List, Option, None, Some}
use Rattle.nd_base.specs.Array.{StackValue}
use Rattle.nd_base.specs.declared.graph.Graph.{Graph}
use Rattle.edge_traits.specs.Files.{Files}
use Rattle.graph_files.specs.Interrupted.{AreInterrupted}
use Rattle.graph_files.specs.OutFiles.{OutFile}
use Rattle.plain_saver.specs.TornRuns.{IsTornRun}

-- a plain run: its graph and stack, and what the names of its files begin with
pub record PlainRun : Type 0 where
  pub graph : Graph
  pub stack : StackValue
  pub prefix : List ℕ

-- each file is as before, has a front of its bytes, or is whole; of the files of a plain run it is said, too, what was written of each group
abbrev pub AreLeft : (held : Option Files) → List OutFile → Option PlainRun → (now : Option Files) → Type 0
AreLeft held files None now = AreInterrupted held files now
AreLeft held files (Some r) now = IsTornRun r.graph r.stack r.prefix held now
