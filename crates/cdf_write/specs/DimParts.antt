-- The numbers that the global attributes list of each dimension.
use Rattle.std.specs.Prelude.{ℤ, pos, if◌then◌else◌}
use Rattle.nd_base.specs.declared.array.Dim.{Dim}
use Rattle.cdf_write.specs.declared.attributes.DimPart.{DimPart}
use Rattle.cdf_write.specs.declared.attributes.DimPart.TheVariants.{Size, Offset, Binning, Reverse}

abbrev pub part_of : DimPart → Dim → ℤ
part_of Size dim = pos dim.size
part_of Offset dim = dim.offset
part_of Binning dim = dim.binning
part_of Reverse dim = if dim.reverse then pos 1 else pos 0
