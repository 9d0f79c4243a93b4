-- What holds of the nodes of a graph together.
use Rattle.std.specs.Prelude.{◌≡◌, ◌≢◌, ℕ, ◌≤◌, List, length, sum_by, All, AllPairs, IsTrue}
use Rattle.nd_base.specs.declared.graph.NodeRule.{NodeRule}
use Rattle.nd_base.specs.GraphRules.{IsNode, is_source, source_of}

-- what a graph's nodes meet
pub record AreLinked (rules : List NodeRule) : Type 0 where
  pub nodes : All IsNode rules
  pub names : AllPairs (λ m n. m.name ≢ n.name) rules
  pub inputs : All (λ n. IsTrue (is_source rules n.input)) rules
  pub acyclic : (v : ℕ) → v ≤ length rules → source_of rules (length rules) v ≡ 0
  pub few : length rules ≤ 32
  pub threads : sum_by (λ n. n.threads) rules ≤ 64
