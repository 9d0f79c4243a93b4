use Rattle.std.proofs.Common.{◌≡◌, ◌*◌, ◌/◌, ◌≤◌, length, drop, ap, sym, ◌∙◌, arith}
use Rattle.std.proofs.Math.Nat.{mul-le-mul}
use Rattle.nd_base.specs.Samples.{width, samples_of}
use Rattle.nd_base.specs.Shapes.{sample_count, most_samples}
use Rattle.nd_base.specs.ShapeLaws.{has_dimensions-none_empty}
use Rattle.nd_base.specs.SampleLaws.{width-positive, width-most}
use Rattle.nd_orient.specs.Orientation.{turned_samples}
use Rattle.nd_orient.proofs.Filled.{front_area, front_few, planes_are, planes_whole, filled_all}
use Rattle.nd_orient.proofs.samples.orient_samples.Goals as goal

pub overflow_mul-planes-2 : goal.overflow_mul-planes-2
overflow_mul-planes-2 c =
    let dims = c.args.dims.now in
    let few = front_few dims c.requires.two (has_dimensions-none_empty dims c.requires.dimensions) in
    let area : front_area dims ≤ most_samples = omega (arith, few, c.requires.few) in
    let bytes : front_area dims * width c.args.kind ≤ most_samples * 4 = mul-le-mul area (width-most c.args.kind) in
    rw c.width.ensures (omega (arith, bytes))

pub fill-requires-clause-few : goal.fill-requires-clause-few
fill-requires-clause-few c =
    let dims = c.args.dims.now in
    let few = front_few dims c.requires.two (has_dimensions-none_empty dims c.requires.dimensions) in
    omega (arith, few, c.requires.few)

pub fill-requires-clause-input : goal.fill-requires-clause-input
fill-requires-clause-input c =
    let dims = c.args.dims.now in
    rw c.width.ensures
    (planes_whole dims (width c.args.kind) (length c.args.input.now) c.requires.two (has_dimensions-none_empty dims c.requires.dimensions)
    (width-positive c.args.kind) c.requires.input)

pub fill-requires-clause-output : goal.fill-requires-clause-output
fill-requires-clause-output c =
    let dims = c.args.dims.now in
    rw c.width.ensures
    (c.requires.output ∙ sym c.requires.input
    ∙ planes_whole dims (width c.args.kind) (length c.args.input.now) c.requires.two (has_dimensions-none_empty dims c.requires.dimensions)
    (width-positive c.args.kind) c.requires.input)

pub returns : goal.returns
returns c =
    let dims = c.args.dims.now in
    let kind = c.args.kind in
    let planes = length c.args.input.now / (front_area dims * c.width.result) in
    let count : planes ≡ sample_count (drop 2 dims) = ap (λ w. length c.args.input.now / (front_area dims * w)) c.width.ensures
    ∙ planes_are dims (width kind) (length c.args.input.now) c.requires.two (has_dimensions-none_empty dims c.requires.dimensions) (width-positive kind)
    c.requires.input in
    let long : length c.fill.new.out ≡ length c.args.out.now = omega arith in
    filled_all kind c.turn_of.result dims c.args.input.now c.fill.new.out planes c.requires.two c.requires.input (long ∙ c.requires.output) count c.fill.ensures
    ∙ ap (λ t. turned_samples t dims (samples_of kind c.args.input.now)) c.turn_of.ensures
