-- The dimensions of a region.
use Rattle.nd_roi.specs.CutLaws.{region_dims-count, region_dims-has_dimensions}

pub ruleset shapes = (region_dims-count, region_dims-has_dimensions)
