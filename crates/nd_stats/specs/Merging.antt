-- The measures of two pieces of an array, and the measure of both.
use Rattle.std.specs.Prelude.{◌≡◌, ℕ, ◌+◌, ◌<◌, ◌≤◌, ℤ, List, [], ◌∷◌, ◌++◌, length}
use Rattle.nd_base.specs.declared.array.Dim.{Dim}
use Rattle.nd_base.specs.declared.graph.StatsRule.{StatsRule}
use Rattle.nd_base.specs.declared.measure.Measure.{Measure}
use Rattle.nd_base.specs.Shapes.{sample_count}
use Rattle.nd_stats.specs.Samples.{Sample, AreSmall}
use Rattle.nd_stats.specs.Measured.{measured}
use Rattle.nd_stats.specs.Frames.{IsFrame}

-- places that rise, from `from` on, and are all below `count`
abbrev pub AreRising : ℕ → ℕ → List Sample → Type 0
AreRising count from [] = Unit {0}
AreRising count from (s ∷ xs) = (from ≤ s.place) × (s.place < count) × AreRising count (s.place + 1) xs

-- two pieces of an array, and the rule that they are measured by
pub record Pieces : Type 0 where
  pub rule : StatsRule
  pub id : ℤ
  pub dims : List Dim
  pub first : List Sample
  pub later : List Sample

-- these are the measures of the two pieces; both pieces have samples, and those of the later one stand behind the others
pub record AreMeasures (p : Pieces) (a b : Measure) : Type 0 where
  pub frame : IsFrame p.rule p.dims
  pub some : 0 < length p.first
  pub more : 0 < length p.later
  pub rising : AreRising (sample_count p.dims) 0 (p.first ++ p.later)
  pub small : AreSmall (p.first ++ p.later)
  pub one : a ≡ measured p.rule p.id p.dims p.first
  pub two : b ≡ measured p.rule p.id p.dims p.later

-- these are the measures of some two pieces
unfoldable pub CanMerge : Measure → Measure → Type 0
CanMerge one two = (p : Pieces) × AreMeasures p one two

-- `both` is the measure of both pieces
unfoldable pub IsMerged : Measure → Measure → Measure → Type 0
IsMerged one two both = (p : Pieces) → AreMeasures p one two → both ≡ measured p.rule p.id p.dims (p.first ++ p.later)
