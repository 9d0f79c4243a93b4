use Rattle.std.proofs.Common.{◌∷◌, is_some, ap, sym, ◌∙◌}
use Rattle.pool_ledger.specs.Keys.{least_from}
use Rattle.pool_ledger.specs.KeyTrees.{keys}
use Rattle.pool_ledger.proofs.TreeKeys.{at_Fork, none_there, pulled_high, last_one}
use Rattle.pool_ledger.proofs.key_tree.KeyTree.+take_first.Goals as goal

pub invariant_of-self-then-is_some-2 : goal.invariant_of-self-then-is_some-2
invariant_of-self-then-is_some-2 t c =
    let f = at_Fork c.self.view_is c.self.invariant (sym c.replace.ensures.value ∙ c.in-Fork.is) in
    let low_empty = none_there c.in-Fork.low.value (ap (λ ks. is_some (least_from 0 ks)) (sym c.deref.ensures) ∙ ap is_some (sym c.first.ensures)
    ∙ sym c.is_some.ensures ∙ c.if-is_some.false) in
    (pulled_high _ _ _ _ _ c.take_first-next-then-is_some-2.result.key c.take_first-next-then-is_some-2.new.self f low_empty
    (sym c.deref_mut-then-is_some-2.ensures.value ∙ c.take_first-next-then-is_some-2.ensures)).1

pub returns-then-is_some-2 : goal.returns-then-is_some-2
returns-then-is_some-2 t c =
    let f = at_Fork c.self.view_is c.self.invariant (sym c.replace.ensures.value ∙ c.in-Fork.is) in
    let low_empty = none_there c.in-Fork.low.value (ap (λ ks. is_some (least_from 0 ks)) (sym c.deref.ensures) ∙ ap is_some (sym c.first.ensures)
    ∙ sym c.is_some.ensures ∙ c.if-is_some.false) in
    (pulled_high _ _ _ _ _ c.take_first-next-then-is_some-2.result.key c.take_first-next-then-is_some-2.new.self f low_empty
    (sym c.deref_mut-then-is_some-2.ensures.value ∙ c.take_first-next-then-is_some-2.ensures)).0

pub returns : goal.returns
returns t c =
    let f = at_Fork c.self.view_is c.self.invariant (sym c.replace.ensures.value ∙ c.in-Fork.is) in
    let low_empty = none_there c.in-Fork.low.value (ap (λ ks. is_some (least_from 0 ks)) (sym c.deref.ensures) ∙ ap is_some (sym c.first.ensures)
    ∙ sym c.is_some.ensures ∙ c.if-is_some.false) in
    let high_empty = none_there c.in-Fork.high.value (ap (λ ks. is_some (least_from 0 ks)) (sym c.deref-in-Fork.ensures)
    ∙ ap is_some (sym c.first-in-Fork.ensures) ∙ sym c.is_some-in-Fork.ensures ∙ c.if-is_some-2.false) in
    last_one _ _ _ _ _ f low_empty high_empty ∙ ap (λ n. c.in-Fork.key ∷ keys n) (sym c.replace.ensures.after)
