-- The files of a run in which nothing was dropped and nothing came out of order.
use Rattle.std.specs.Prelude.{◌≡◌, ◌↔◌, ◌⊎◌, ℕ, List, [], ◌∷◌}
use Rattle.nd_base.specs.Array.{StackValue}
use Rattle.nd_base.specs.GraphRules.{IsGraph}
use Rattle.nd_base.specs.declared.graph.Graph.{Graph}
use Rattle.chain_plain.specs.Plans.{makers_of}
use Rattle.flow_journal.specs.Pasts.{Past}
use Rattle.run_laws.specs.PlainLaws.{IsSmooth, HasNoDealer, HasDistinctIds}
use Rattle.graph_files.specs.OutFiles.{OutFile, plain_files}
use Rattle.flow_saver.specs.HistoryFiles.{IsFileOf}

-- one of these files has this name and these bytes
abbrev pub IsAmong : List OutFile → (name bytes : List ℕ) → Type 0
IsAmong [] name bytes = ⊥
IsAmong (f ∷ fs) name bytes = ((f.name ≡ name) × (f.bytes ≡ bytes)) ⊎ IsAmong fs name bytes

-- The files of the log are those of the plain run, byte for byte: where the ids are distinct, no node deals, nothing was dropped, and neither the driver nor
-- a node broke the order.
abbrev pub SmoothFilesArePlain : Type 0
SmoothFilesArePlain = (g : Graph) (stack : StackValue) (prefix : List ℕ) (P : Past) (name bytes : List ℕ) → IsGraph g → HasNoDealer g → HasDistinctIds stack
    → IsSmooth g (makers_of g.nodes stack.shape) stack P → IsFileOf g stack prefix P name bytes ↔ IsAmong (plain_files g stack prefix) name bytes
