use Rattle.std.proofs.Common.{◌≡◌, map, take}
use Rattle.nd_base.specs.Array.{Array}
use Rattle.nd_base.specs.Samples.{samples_of}
use Rattle.nd_series.specs.InPlace.{part_in}
use Rattle.nd_series.specs.Regions.{measured_part}
use Rattle.nd_series.proofs.region.region_parts.Given as goal

abbrev pub invariant-loop-region : goal.invariant-loop-region
invariant-loop-region l = record {
  in_place : l.parts.items ≡ map (λ b. part_in b l.dims (samples_of l.kind l.samples)) (take l.region-index l.regions);
  measured : (a : Array) → a.kind ≡ l.kind → a.dims ≡ l.dims → a.samples ≡ samples_of l.kind l.samples
      → l.parts.items ≡ map (λ b. measured_part b a) (take l.region-index l.regions);
}
