use Rattle.std.proofs.Common.{rules, arith, ◌≡◌, List, length, Some, None, ap, sym, ◌∙◌}
use Rattle.nd_base.specs.declared.array.Dim.{Dim}
use Rattle.chain_plain.specs.declared.shape.Shape.{Shape}
use Rattle.nd_base.specs.GraphRules.{rule_at}
use Rattle.chain_plain.specs.Plans.{region_shape, stack_shape, shape_at}
use Rattle.chain_plain.specs.PassingLaws.{out_of-none, out_of-roi, out_of-other}
use Rattle.chain_plain.proofs.Rules.{stands, roi_sound, no_roi}
use Rattle.chain_plain.proofs.shape.+shape_at.Goals as goal

pub returns-in_default-clause-value : goal.returns-in_default-clause-value
returns-in_default-clause-value t c =
    let g = c.args.graph.now in
    let shape = c.args.shape.now in
    let none : None ≡ rule_at g.nodes c.args.node = c.in_default.ensures ∙ ap (λ ns. rule_at ns c.args.node) c.as_slice.ensures in
    let same : c.in_ok-dims.dims.items ≡ shape.dims = search rules in
    let with_dims : List Dim → Shape = λ d. record { kind = shape.kind; dims = d } in
    ap with_dims (c.new.ensures ∙ same) ∙ sym (out_of-none region_shape g.nodes (length g.nodes) c.args.node (stack_shape shape) none)

pub returns-in_default-clause-dimensions : goal.returns-in_default-clause-dimensions
returns-in_default-clause-dimensions t c =
    let same : c.in_ok-dims.dims.items ≡ c.args.shape.now.dims = search rules in
    rw (c.new.ensures, same) c.requires.dimensions

pub returns-in_default-clause-few : goal.returns-in_default-clause-few
returns-in_default-clause-few t c =
    let same : c.in_ok-dims.dims.items ≡ c.args.shape.now.dims = search rules in
    rw (c.new.ensures, same) c.requires.few

pub shape_at-requires : goal.shape_at-requires
shape_at-requires t c =
    let g = c.args.graph.now in
    let some : Some c.in-Some.rule.now ≡ rule_at g.nodes c.args.node = c.in-Some.ensures ∙ ap (λ ns. rule_at ns c.args.node) c.as_slice.ensures in
    let near = (stands g c.args.node c.in-Some.rule.now c.requires.graph some).nearer in
    (omega (arith, c.decreases, near), (c.requires.graph, (c.requires.dimensions, c.requires.few)))

pub region_shape-requires-clause-rule : goal.region_shape-requires-clause-rule
region_shape-requires-clause-rule t c =
    let g = c.args.graph.now in
    let some : Some c.in-Some.rule.now ≡ rule_at g.nodes c.args.node = c.in-Some.ensures ∙ ap (λ ns. rule_at ns c.args.node) c.as_slice.ensures in
    roi_sound c.in-Some.rule.now.kind c.in-Roi.roi (stands g c.args.node c.in-Some.rule.now c.requires.graph some).sound.kind c.in-Roi.is

pub returns-in-Roi-clause-value : goal.returns-in-Roi-clause-value
returns-in-Roi-clause-value t c =
    let g = c.args.graph.now in
    let some : Some c.in-Some.rule.now ≡ rule_at g.nodes c.args.node = c.in-Some.ensures ∙ ap (λ ns. rule_at ns c.args.node) c.as_slice.ensures in
    let made : shape_at g.nodes c.args.shape.now c.args.node ≡ region_shape c.in-Roi.roi c.in_ok-input.input =
    out_of-roi region_shape g c.args.node c.in-Some.rule.now c.in-Roi.roi (stack_shape c.args.shape.now) c.requires.graph some c.in-Roi.is
    ∙ ap (region_shape c.in-Roi.roi) (sym c.in_ok-input.ensures.value) in
    rw made c.region_shape.ensures.value

pub returns-in-Stats-clause-value : goal.returns-in-Stats-clause-value
returns-in-Stats-clause-value t c =
    let g = c.args.graph.now in
    let some : Some c.in-Some.rule.now ≡ rule_at g.nodes c.args.node = c.in-Some.ensures ∙ ap (λ ns. rule_at ns c.args.node) c.as_slice.ensures in
    c.in_ok-input.ensures.value
    ∙ sym (out_of-other region_shape g c.args.node c.in-Some.rule.now (stack_shape c.args.shape.now) c.requires.graph some
    (no_roi c.in-Some.rule.now.kind c.in-Stats.is))
