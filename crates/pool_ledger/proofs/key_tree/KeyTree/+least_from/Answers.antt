use Rattle.std.proofs.Common.{ap, sym, ◌∙◌}
use Rattle.pool_ledger.specs.Keys.{least_from}
use Rattle.pool_ledger.proofs.TreeKeys.{at_Fork, from_low, from_first, from_high}
use Rattle.pool_ledger.proofs.key_tree.KeyTree.+least_from.Goals as goal

pub returns-in-Some : goal.returns-in-Some
returns-in-Some t c =
    let f = at_Fork c.self.view_is c.self.invariant c.in-Fork.is in
    from_low _ _ _ _ _ c.args.bound c.in-Some.key f c.if-bound-least.false (ap (least_from c.args.bound) (sym c.deref.ensures) ∙ sym c.least_from.ensures
    ∙ c.in-Some.is)

pub returns-in-None : goal.returns-in-None
returns-in-None t c =
    let f = at_Fork c.self.view_is c.self.invariant c.in-Fork.is in
    c.first.ensures ∙ ap (least_from 0) c.deref-in-None.ensures
    ∙ from_first _ _ _ _ _ c.args.bound f c.if-bound-least.false c.if-bound-split.true (ap (least_from c.args.bound) (sym c.deref.ensures)
    ∙ sym c.least_from.ensures ∙ c.in-None.is)

pub returns-else-bound-split : goal.returns-else-bound-split
returns-else-bound-split t c =
    let f = at_Fork c.self.view_is c.self.invariant c.in-Fork.is in
    c.least_from-else-bound-split.ensures ∙ ap (least_from c.args.bound) c.deref-else-bound-split.ensures
    ∙ from_high _ _ _ _ _ c.args.bound f c.if-bound-least.false c.if-bound-split.false
