-- What a node's table gives.
use Rattle.std.specs.Prelude.{ℕ, List}
use Rattle.nd_base.specs.declared.graph.NodeRule.{NodeRule}

-- what a node's `kind` says
pub data KindWord : Type 0 where
  roi : KindWord
  stats : KindWord
  circular : KindWord
  file : KindWord
  scatter : KindWord

-- a node whose input is still a name; its rule has 0 there
pub record Named : Type 0 where
  pub input : List ℕ
  pub rule : NodeRule
