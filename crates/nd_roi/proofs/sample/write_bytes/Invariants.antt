use Rattle.std.proofs.Common.{◌≡◌, take}
use Rattle.std.specs.List.{flat_map}
use Rattle.nd_base.specs.declared.array.SampleType.TheVariants.{UInt8}
use Rattle.nd_roi.specs.Walk.{bytes_of}
use Rattle.nd_roi.proofs.sample.write_bytes.Given as goal

abbrev pub invariant-loop-k : goal.invariant-loop-k
invariant-loop-k l = take l.k l.out ≡ flat_map (bytes_of UInt8) (take l.k l.sums)
