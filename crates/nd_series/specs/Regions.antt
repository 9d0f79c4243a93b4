-- The numbers of a region: those of the measure, with border 1, of the array that is cut out of the frame.
use Rattle.std.specs.Prelude.{pos, false, List, [], ◌∷◌, map, None}
use Rattle.nd_base.specs.declared.graph.RoiRule.{RoiRule}
use Rattle.nd_base.specs.declared.graph.StatsRule.{StatsRule}
use Rattle.nd_base.specs.declared.measure.Measure.{Measure}
use Rattle.nd_base.specs.Array.{Array}
use Rattle.nd_roi.specs.Region.{region}
use Rattle.nd_stats.specs.Samples.{placed}
use Rattle.nd_stats.specs.Measured.{measured}
use Rattle.nd_series.specs.declared.region.Box4.{Box4}
use Rattle.nd_series.specs.declared.row.Part.{Part}
use Rattle.nd_series.specs.declared.row.SeriesRow.{SeriesRow}

-- what a region cuts out: samples are neither binned nor divided, and keep their type
abbrev pub box_rule : Box4 → RoiRule
box_rule b = record {
  min = pos b.x ∷ pos b.y ∷ [];
  size = pos b.w ∷ pos b.h ∷ [];
  bin = [];
  reverse = [];
  auto = [];
  scale = 1;
  out = None;
}

-- what is measured of it: of the border the outermost samples, no histogram, and no profiles
abbrev pub edge_rule : StatsRule
edge_rule = record { threshold = pos 0; border = 1; hist_size = 0; hist_lo = pos 0; hist_hi = pos 0; profiles = false }

-- what a row has of a measure
abbrev pub part_of : Measure → Part
part_of m = record { min = m.min; max = m.max; total = m.total; border = m.border; border_n = m.border_n }

-- the numbers of a region of a frame
abbrev pub measured_part : Box4 → Array → Part
measured_part b a = let r = region (box_rule b) a in part_of (measured edge_rule r.id r.dims (placed 0 r.samples))

-- those of each region
abbrev pub row_of : List Box4 → Array → SeriesRow
row_of regions a = record { id = a.id; parts = map (λ b. measured_part b a) regions }
