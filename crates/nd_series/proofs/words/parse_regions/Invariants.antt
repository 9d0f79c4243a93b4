use Rattle.std.proofs.Common.{◌≡◌, true, take}
use Rattle.std.specs.List.{list_all, flat_map}
use Rattle.std.specs.Option.{is_some, option_to_list}
use Rattle.nd_series.specs.Words.{region_in}
use Rattle.nd_series.proofs.words.parse_regions.Given as goal

abbrev pub invariant-loop-group : goal.invariant-loop-group
invariant-loop-group l = record {
  regions : list_all (λ g. is_some (region_in g.now)) (take l.group-index l.group-items) ≡ true;
  read : l.regions.items ≡ flat_map (λ g. option_to_list (region_in g.now)) (take l.group-index l.group-items);
}
