use Rattle.std.proofs.Common.{ap, sym, ◌∙◌}
use Rattle.pool_ledger.specs.Keys.{greatest_below}
use Rattle.pool_ledger.proofs.TreeKeys.{at_Fork, below_least, below_high, below_low, below_all}
use Rattle.pool_ledger.proofs.key_tree.KeyTree.+greatest_below.Goals as goal

pub returns-then-bound-least : goal.returns-then-bound-least
returns-then-bound-least t c =
    let f = at_Fork c.self.view_is c.self.invariant c.in-Fork.is in
    below_least _ _ _ _ _ c.args.bound f c.if-bound-least.true

pub returns-in-Some : goal.returns-in-Some
returns-in-Some t c =
    let f = at_Fork c.self.view_is c.self.invariant c.in-Fork.is in
    below_high _ _ _ _ _ c.args.bound c.in-Some.key f (ap (greatest_below c.args.bound) (sym c.deref.ensures) ∙ sym c.greatest_below.ensures ∙ c.in-Some.is)

pub returns-in-Some-greatest_below : goal.returns-in-Some-greatest_below
returns-in-Some-greatest_below t c =
    let f = at_Fork c.self.view_is c.self.invariant c.in-Fork.is in
    below_low _ _ _ _ _ c.args.bound c.in-Some-greatest_below.key f (ap (greatest_below c.args.bound) (sym c.deref.ensures) ∙ sym c.greatest_below.ensures
    ∙ c.in_default.is)
    (ap (greatest_below c.args.bound) (sym c.deref-in-Fork.ensures) ∙ sym c.greatest_below-in-Fork.ensures ∙ c.in-Some-greatest_below.is)

pub returns-in-None : goal.returns-in-None
returns-in-None t c =
    let f = at_Fork c.self.view_is c.self.invariant c.in-Fork.is in
    below_all _ _ _ _ _ c.args.bound f c.if-bound-least.false (ap (greatest_below c.args.bound) (sym c.deref.ensures) ∙ sym c.greatest_below.ensures
    ∙ c.in_default.is)
    (ap (greatest_below c.args.bound) (sym c.deref-in-Fork.ensures) ∙ sym c.greatest_below-in-Fork.ensures ∙ c.in-None.is)
