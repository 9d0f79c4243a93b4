-- What a role has given back as saved.
use Rattle.std.specs.Prelude.{ℕ, List, [], ◌∷◌}
use Rattle.nd_base.specs.Array.{Array, StackValue}
use Rattle.nd_base.specs.declared.frame.FrameName.{FrameName}
use Rattle.nd_base.specs.declared.graph.Graph.{Graph}
use Rattle.flow_journal.specs.declared.entry.Entry.TheVariants.{Saved}
use Rattle.flow_journal.specs.Pasts.{Past, frame, comes_at}
use Rattle.run_laws.specs.Results.{contents}

-- the arrays of a node that were given back as saved, in order
abbrev pub given_back : ℕ → Past → List FrameName
given_back v [] = []
given_back v (Saved r w m k ∷ P) = comes_at v w (frame m k) (given_back v P)
given_back v (e ∷ P) = given_back v P

-- and what they hold
abbrev pub written_by : Graph → StackValue → Past → ℕ → List Array
written_by g stack P v = contents g.nodes stack.arrays (given_back v P)
