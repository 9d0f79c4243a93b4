use Rattle.std.proofs.Common.{ap, sym, ◌∙◌}
use Rattle.nd_base.specs.declared.plan.Maker.{Maker}
use Rattle.chain_plain.specs.Plans.{maker_of, shape_at}
use Rattle.chain_plain.proofs.Found.{found_some, found_maker}
use Rattle.chain_plain.proofs.plans.maker_for.Goals as goal

pub unreachable-requires : goal.unreachable-requires
unreachable-requires c =
    let p = c.args.plan.now in
    found_some p.graph c.args.stack.now p c.as_slice.result.now c.args.node c.maker_number-number.result c.as_slice.ensures c.requires.plan
    c.maker_number-number.ensures c.in_default.ensures

pub returns-clause-number : goal.returns-clause-number
returns-clause-number c =
    let p = c.args.plan.now in
    let is =
    found_maker p.graph c.args.stack.now p c.as_slice.result.now c.args.node c.maker_number-number.result c.in-Some.maker.now c.requires.graph
    c.as_slice.ensures c.requires.plan c.maker_number-number.ensures c.in-Some.ensures in
    ap (λ (m : Maker). m.node) is ∙ c.maker_number-number.ensures

pub returns-clause-shape : goal.returns-clause-shape
returns-clause-shape c =
    let p = c.args.plan.now in
    let is =
    found_maker p.graph c.args.stack.now p c.as_slice.result.now c.args.node c.maker_number-number.result c.in-Some.maker.now c.requires.graph
    c.as_slice.ensures c.requires.plan c.maker_number-number.ensures c.in-Some.ensures in
    is ∙ ap (λ n. maker_of n (shape_at p.graph.nodes c.args.stack.now.shape c.args.node)) (sym (ap (λ (m : Maker). m.node) is))
