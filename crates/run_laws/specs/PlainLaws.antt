-- LAWS: without a drop and without a break a run puts out what the plain run does.
use Rattle.std.specs.Prelude.{◌≡◌, ◌≢◌, ℕ, ◌≤◌, false, List, AllPairs, length, map, Some}
use Rattle.std.specs.List.{All}
use Rattle.nd_base.specs.Array.{Array, StackValue}
use Rattle.nd_base.specs.declared.frame.FrameName.{FrameName}
use Rattle.nd_base.specs.declared.graph.Graph.{Graph}
use Rattle.nd_base.specs.declared.graph.Kind.TheVariants.{Scatter}
use Rattle.nd_base.specs.declared.graph.NodeRule.{NodeRule}
use Rattle.nd_base.specs.declared.plan.Maker.{Maker}
use Rattle.nd_base.specs.GraphRules.{IsGraph, rule_at}
use Rattle.chain_plain.specs.PlainRun.{passed, result_of}
use Rattle.flow_journal.specs.Pasts.{Past}
use Rattle.flow_journal.specs.Breaks.{breaks}
use Rattle.flow_journal.specs.RunSetting.{setting_of}
use Rattle.run_laws.specs.Drops.{has_drop}
use Rattle.run_laws.specs.Results.{IsFinishedRun, put_out, indices, contents, outcome}

-- nothing was dropped, and neither the driver nor a node broke the order
pub record IsSmooth (g : Graph) (makers : List Maker) (stack : StackValue) (P : Past) : Type 0 where
  pub run : IsFinishedRun (setting_of g makers stack.arrays) P
  pub kept : has_drop P ≡ false
  pub in_step : (v : ℕ) → v ≤ length g.nodes → breaks (setting_of g makers stack.arrays) v P ≡ 0

-- these frames are what node v puts out in the plain run: by their positions, and by what they hold and what is made of it
pub record ArePlain (g : Graph) (stack : StackValue) (v : ℕ) (out : List FrameName) : Type 0 where
  pub positions : indices out ≡ passed g stack v
  pub result : outcome g.nodes v (contents g.nodes stack.arrays out) ≡ result_of g stack v

-- no node deals its arrays out
abbrev pub HasNoDealer : Graph → Type 0
HasNoDealer g = All (λ (n : NodeRule). n.kind ≢ Scatter) g.nodes

-- no two frames of the stack have one id
abbrev pub HasDistinctIds : StackValue → Type 0
HasDistinctIds stack = AllPairs (λ a b. a ≢ b) (map (λ (a : Array). a.id) stack.arrays)

abbrev pub SmoothRunsArePlain : Type 0
SmoothRunsArePlain =
    (g : Graph) (makers : List Maker) (stack : StackValue) (P : Past) (v : ℕ) (n : NodeRule) → IsGraph g → rule_at g.nodes v ≡ Some n → HasNoDealer g
    → HasDistinctIds stack → IsSmooth g makers stack P → ArePlain g stack v (put_out (setting_of g makers stack.arrays) v P)
