-- Bytes that are kept back at nodes until they are written.
use Rattle.std.specs.Prelude.{◌≡◌, ℕ, ◌-◌, ◌≤◌, List, [], ◌++◌, Option, Some, slice_index_or, slice_set}
use Rattle.nd_base.specs.GraphRules.{rule_at}
use Rattle.nd_base.specs.declared.graph.Graph.{Graph}
use Rattle.nd_base.specs.declared.graph.Kind.{Kind}
use Rattle.nd_base.specs.declared.graph.Kind.TheVariants.{Roi, Stats, Circular, File, Scatter}
use Rattle.nd_base.specs.declared.graph.NodeRule.{NodeRule}
use Rattle.nd_base.specs.declared.graph.StatsRule.{StatsRule}
use Rattle.edge_traits.specs.Files.{Files, HasFile}

-- the bytes that are kept back at node v, where the first of these are those of node 1
abbrev pub text_at : List (List ℕ) → ℕ → List ℕ
text_at texts v = slice_index_or texts (v - 1) []

-- the same, where node v keeps back these bytes
abbrev pub with_text : List (List ℕ) → ℕ → List ℕ → List (List ℕ)
with_text texts v text = slice_set texts (v - 1) text

-- the name has a front of these bytes, which lacks just those that are kept back
abbrev pub HasFront : Option Files → (name kept whole : List ℕ) → Type 0
HasFront held name kept whole = (front : List ℕ) × (whole ≡ front ++ kept) × HasFile held name front

-- nothing is kept back at a statistics node any more, and nothing changes at any other
abbrev pub emptied_kind : Kind → List (List ℕ) → ℕ → List (List ℕ)
emptied_kind (Stats r) texts v = with_text texts v []
emptied_kind (Roi r) texts v = texts
emptied_kind (Circular r) texts v = texts
emptied_kind (File r) texts v = texts
emptied_kind Scatter texts v = texts

abbrev pub emptied : NodeRule → List (List ℕ) → ℕ → List (List ℕ)
emptied n texts v = emptied_kind n.kind texts v

-- nothing is kept back at the statistics nodes up to node j
abbrev pub AreEmptyTo : Graph → List (List ℕ) → (j : ℕ) → Type 0
AreEmptyTo g texts j = (v : ℕ) (n : NodeRule) (r : StatsRule) → v ≤ j → rule_at g.nodes v ≡ Some n → n.kind ≡ Stats r → text_at texts v ≡ []
