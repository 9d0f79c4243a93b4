use Rattle.std.proofs.Common.{arith, ◌≡◌, Some, None, length, ap, sym, ◌∙◌}
use Rattle.nd_base.specs.GraphRules.{rule_at}
use Rattle.chain_plain.specs.PassingLaws.{maker_within-none}
use Rattle.chain_plain.proofs.Rules.{stands}
use Rattle.chain_plain.proofs.Found.{maker_of_other}
use Rattle.chain_plain.proofs.plans.+maker_number.Goals as goal

pub returns-in_default : goal.returns-in_default
returns-in_default t c =
    let nodes = c.args.graph.now.nodes in
    let none : None ≡ rule_at nodes c.args.node = c.in_default.ensures ∙ ap (λ ns. rule_at ns c.args.node) c.as_slice.ensures in
    sym (maker_within-none nodes (length nodes) c.args.node none)

pub maker_number-requires : goal.maker_number-requires
maker_number-requires t c =
    let g = c.args.graph.now in
    let some : Some c.in-Some.rule.now ≡ rule_at g.nodes c.args.node = c.in-Some.ensures ∙ ap (λ ns. rule_at ns c.args.node) c.as_slice.ensures in
    let near = (stands g c.args.node c.in-Some.rule.now c.requires some).nearer in
    (omega (arith, c.decreases, near), c.requires)

pub returns : goal.returns
returns t c =
    let g = c.args.graph.now in
    let some : Some c.in-Some.rule.now ≡ rule_at g.nodes c.args.node = c.in-Some.ensures ∙ ap (λ ns. rule_at ns c.args.node) c.as_slice.ensures in
    c.maker_number.ensures ∙ sym (maker_of_other g c.args.node c.in-Some.rule.now c.requires some (sym c.makes_arrays.ensures ∙ c.if-makes_arrays.false))
