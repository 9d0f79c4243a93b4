-- Places with their indices.
use Rattle.std.specs.Prelude.{◌≡◌, ℕ, ◌/◌, List, drop}
use Rattle.nd_base.specs.declared.array.Dim.{Dim}
use Rattle.nd_stats.specs.declared.spot.Spot.{Spot}
use Rattle.nd_stats.specs.declared.spot.Plane.{Plane}
use Rattle.nd_base.specs.Places.{index_in, size_in}
use Rattle.nd_stats.specs.Samples.{is_at_border}

-- the sizes of dimensions 0 and 1
pub record IsPlane (dims : List Dim) (p : Plane) : Type 0 where
  pub width : p.width ≡ size_in dims 0
  pub height : p.height ≡ size_in dims 1

-- a place with its indices in dimensions 0 and 1, and whether its line, and its plane, is at the border
pub record IsSpot (border : ℕ) (dims : List Dim) (s : Spot) : Type 0 where
  pub x : s.x ≡ index_in dims 0 s.place
  pub y : s.y ≡ index_in dims 1 s.place
  pub line : s.line_at_border ≡ is_at_border border (drop 1 dims) (s.place / size_in dims 0)
  pub plane : s.plane_at_border ≡ is_at_border border (drop 2 dims) (s.place / size_in dims 0 / size_in dims 1)
