-- What is left of a plain run's files where the shelf has failed, or memory was wanting.
use Rattle.std.specs.Prelude.{ℕ, List, Option}
use Rattle.nd_base.specs.Array.{Array, StackValue}
use Rattle.nd_base.specs.declared.graph.Graph.{Graph}
use Rattle.edge_traits.specs.Files.{Files}
use Rattle.chain_plain.specs.OneThread.{arrays_out}
use Rattle.chain_plain.specs.PlainRun.{passed}
use Rattle.graph_files.specs.Interrupted.{AreInterrupted}
use Rattle.graph_files.specs.OutFiles.{plain_files}
use Rattle.graph_files.specs.TornGroups.{AreTornGroups}

-- of the arrays that go out of each file node the first were written
abbrev pub AreTornPlain : Graph → StackValue → (prefix : List ℕ) → (before now : Option Files) → Type 0
AreTornPlain g s prefix before now =
    (written : ℕ → List Array) × AreTornGroups g s prefix (λ v. arrays_out g.nodes s.arrays v (passed g s v)) written before now

-- each name has a front of its file, and the groups have what was written of them
pub record IsTornRun (g : Graph) (s : StackValue) (prefix : List ℕ) (before now : Option Files) : Type 0 where
  pub files : AreInterrupted before (plain_files g s prefix) now
  pub groups : AreTornPlain g s prefix before now
