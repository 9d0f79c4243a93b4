use Rattle.std.proofs.Common.{◌≡◌, ◌++◌, take}
use Rattle.std.specs.List.{flat_map}
use Rattle.cdf_write.specs.Layout.{extra_attribute}
use Rattle.cdf_write.proofs.attributes.push_extras.Given as goal

abbrev pub invariant-loop-extra : goal.invariant-loop-extra
invariant-loop-extra l = l.out.items ≡ l.initial.out.items ++ flat_map extra_attribute (take l.extra-index l.extras)
