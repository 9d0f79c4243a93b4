use Rattle.std.proofs.Common.{◌≡◌, ◌++◌, map, take}
use Rattle.std.specs.List.{flat_map}
use Rattle.cdf_write.specs.Spelling.{signed_word}
use Rattle.cdf_write.specs.DimParts.{part_of}
use Rattle.cdf_write.proofs.attributes.push_dim_part.Given as goal

abbrev pub invariant-loop-dim : goal.invariant-loop-dim
invariant-loop-dim l = l.out.items ≡ l.initial.out.items ++ flat_map signed_word (map (part_of l.part) (take l.dim-index l.dims))
