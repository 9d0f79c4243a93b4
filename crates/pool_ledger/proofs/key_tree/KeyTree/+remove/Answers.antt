use Rattle.std.proofs.Common.{◌≡◌, ap, sym, ◌∙◌, subst, rules}
use Rattle.pool_ledger.specs.Keys.{IsRising, without_key}
use Rattle.pool_ledger.proofs.TreeKeys.{at_Fork, shorter, in_low, in_high, out_low, out_high, out_first, has_key}
use Rattle.pool_ledger.proofs.key_tree.KeyTree.+remove.Goals as goal

pub remove-requires : goal.remove-requires
remove-requires t c =
    let f = at_Fork c.self.view_is c.self.invariant c.in-Fork.is in
    let less = (shorter _ _ _ _ _ f).0 in
    (search rules, ap (has_key c.args.key) c.deref_mut.ensures.value ∙ in_low _ _ _ _ _ c.args.key f c.requires c.if-key-least.true c.if-key-split.true)

pub returns-then-key-split : goal.returns-then-key-split
returns-then-key-split t c =
    let f = at_Fork c.self.view_is c.self.invariant c.in-Fork.is in
    (out_low _ _ _ _ _ c.args.key c.remove.new.self f c.if-key-least.true c.if-key-split.true (c.remove.ensures
    ∙ ap (without_key c.args.key) c.deref_mut.ensures.value)).is

pub invariant_of-self : goal.invariant_of-self
invariant_of-self t c =
    let f = at_Fork c.self.view_is c.self.invariant c.in-Fork.is in
    (out_low _ _ _ _ _ c.args.key c.remove.new.self f c.if-key-least.true c.if-key-split.true (c.remove.ensures
    ∙ ap (without_key c.args.key) c.deref_mut.ensures.value)).splits

pub remove-requires-then-key-least : goal.remove-requires-then-key-least
remove-requires-then-key-least t c =
    let f = at_Fork c.self.view_is c.self.invariant c.in-Fork.is in
    let less = (shorter _ _ _ _ _ f).1 in (
      search rules,
      ap (has_key c.args.key) c.deref_mut-then-key-least.ensures.value
          ∙ in_high _ _ _ _ _ c.args.key f c.requires c.if-key-least.true c.if-key-split.false,
    )

pub returns-then-key-least : goal.returns-then-key-least
returns-then-key-least t c =
    let f = at_Fork c.self.view_is c.self.invariant c.in-Fork.is in
    (out_high _ _ _ _ _ c.args.key c.remove-then-key-least.new.self f c.if-key-least.true c.if-key-split.false (c.remove-then-key-least.ensures
    ∙ ap (without_key c.args.key) c.deref_mut-then-key-least.ensures.value)).is

pub invariant_of-self-then-key-least : goal.invariant_of-self-then-key-least
invariant_of-self-then-key-least t c =
    let f = at_Fork c.self.view_is c.self.invariant c.in-Fork.is in
    (out_high _ _ _ _ _ c.args.key c.remove-then-key-least.new.self f c.if-key-least.true c.if-key-split.false (c.remove-then-key-least.ensures
    ∙ ap (without_key c.args.key) c.deref_mut-then-key-least.ensures.value)).splits

pub returns : goal.returns
returns t c =
    let f = at_Fork c.self.view_is c.self.invariant c.in-Fork.is in
    let same : c.in-Fork.least ≡ c.take_first.result.key = cc in
    out_first _ c.args.key c.take_first.result.key c.take_first.new.self (subst IsRising (sym f.is) f.splits.rising) (f.is
    ∙ c.take_first.ensures) (c.if-key-least.false ∙ same)
