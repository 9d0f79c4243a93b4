use Rattle.nd_base.specs.PlaceLaws.{length-indices, place-indices, index_in-place}
use Rattle.nd_base.proofs.laws.places_have_indices.Goals as goal

pub returns-clause-count : goal.returns-clause-count
returns-clause-count c = length-indices

pub returns-clause-place : goal.returns-clause-place
returns-clause-place c = place-indices

pub returns-clause-index : goal.returns-clause-index
returns-clause-index c = index_in-place
