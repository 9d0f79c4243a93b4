-- What a measure is made of.
use Rattle.std.specs.Prelude.{◌≡◌, ◌<◌, ◌≤◌, true, List, length, nat_lt}
use Rattle.std.specs.List.{list_all}
use Rattle.nd_base.specs.declared.array.Dim.{Dim}
use Rattle.nd_base.specs.declared.graph.StatsRule.{StatsRule}
use Rattle.nd_base.specs.GraphRules.{IsStats}
use Rattle.nd_base.specs.Shapes.{sample_count, most_samples}

-- a sound rule, and dimensions that an array may have
pub record IsFrame (rule : StatsRule) (dims : List Dim) : Type 0 where
  pub sound : IsStats rule
  pub some : 0 < length dims
  pub sizes : list_all (λ d. nat_lt 0 d.size) dims ≡ true
  pub few : sample_count dims ≤ most_samples
