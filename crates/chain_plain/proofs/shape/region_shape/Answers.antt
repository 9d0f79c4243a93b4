use Rattle.nd_roi.specs.CutLaws.{region_dims-has_dimensions}
use Rattle.chain_plain.proofs.Rules.{region_few}
use Rattle.chain_plain.proofs.shape.region_shape.Goals as goal

pub returns-clause-dimensions : goal.returns-clause-dimensions
returns-clause-dimensions c =
    rw (c.new.ensures, c.in_ok-dims.ensures, c.as_slice.ensures) (region_dims-has_dimensions c.args.rule.now c.args.shape.now.dims c.requires.dimensions)

pub returns-clause-few : goal.returns-clause-few
returns-clause-few c =
    rw (c.new.ensures, c.in_ok-dims.ensures, c.as_slice.ensures) (region_few c.args.rule.now c.args.shape.now.dims c.requires.dimensions c.requires.few)
