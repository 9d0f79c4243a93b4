use Rattle.std.proofs.Common.{arith, ◌≡◌, Some, None, ap, ◌∙◌}
use Rattle.std.specs.Prelude.{slice_get}
use Rattle.nd_roi.specs.Region.{region}
use Rattle.nd_base.specs.GraphRules.{rule_at}
use Rattle.chain_plain.proofs.Arrays.{array_of_none, array_of_roi, array_of_other, answers_some}
use Rattle.chain_plain.proofs.Rules.{stands, roi_sound, no_roi}
use Rattle.chain_plain.proofs.contents.+array_out_of.Goals as goal

pub returns-in_default : goal.returns-in_default
returns-in_default t c =
    let g = c.args.graph.now in
    let none : None ≡ rule_at g.nodes c.args.node = c.in_default.ensures ∙ ap (λ ns. rule_at ns c.args.node) c.as_slice.ensures in
    rw (array_of_none g.nodes c.args.node (slice_get c.args.stack.now.arrays c.args.index) none) c.array.ensures

pub array_out_of-requires : goal.array_out_of-requires
array_out_of-requires t c =
    let g = c.args.graph.now in
    let some : Some c.in-Some.rule.now ≡ rule_at g.nodes c.args.node = c.in-Some.ensures ∙ ap (λ ns. rule_at ns c.args.node) c.as_slice.ensures in
    let near = (stands g c.args.node c.in-Some.rule.now c.requires.graph some).nearer in
    (omega (arith, c.decreases, near), (c.requires.graph, c.requires.frame))

pub region_of-requires : goal.region_of-requires
region_of-requires t c =
    let g = c.args.graph.now in
    let some : Some c.in-Some.rule.now ≡ rule_at g.nodes c.args.node = c.in-Some.ensures ∙ ap (λ ns. rule_at ns c.args.node) c.as_slice.ensures in
    roi_sound c.in-Some.rule.now.kind c.in-Roi.roi (stands g c.args.node c.in-Some.rule.now c.requires.graph some).sound.kind c.in-Roi.is

pub returns-in-Roi : goal.returns-in-Roi
returns-in-Roi t c =
    let g = c.args.graph.now in
    let some : Some c.in-Some.rule.now ≡ rule_at g.nodes c.args.node = c.in-Some.ensures ∙ ap (λ ns. rule_at ns c.args.node) c.as_slice.ensures in
    answers_some c.region_of.result (region c.in-Roi.roi c.in_ok-input.input) _
    (array_of_roi g c.args.node c.in-Some.rule.now c.in-Roi.roi
    (slice_get c.args.stack.now.arrays c.args.index) c.in_ok-input.input c.requires.graph some c.in-Roi.is c.in_ok-input.ensures)
    c.region_of.ensures

pub returns-in-Stats : goal.returns-in-Stats
returns-in-Stats t c =
    let g = c.args.graph.now in
    let some : Some c.in-Some.rule.now ≡ rule_at g.nodes c.args.node = c.in-Some.ensures ∙ ap (λ ns. rule_at ns c.args.node) c.as_slice.ensures in
    array_of_other g c.args.node c.in-Some.rule.now (slice_get c.args.stack.now.arrays c.args.index) c.in_ok-input.input c.requires.graph some
    (no_roi c.in-Some.rule.now.kind c.in-Stats.is) c.in_ok-input.ensures
