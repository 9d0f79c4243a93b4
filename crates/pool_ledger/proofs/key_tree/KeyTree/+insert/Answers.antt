use Rattle.std.proofs.Common.{◌≡◌, ◌≢◌, ℕ, min, max, subst, ap, sym, ◌∙◌, rules}
use Rattle.std.specs.List.{AllByRecursion}
use Rattle.pool_ledger.specs.Keys.{with_key}
use Rattle.pool_ledger.proofs.TreeKeys.{at_Fork, shorter, Passes, passes-min, greater_absent, absent_low, absent_high, put_low, put_high}
use Rattle.pool_ledger.proofs.key_tree.KeyTree.+insert.Goals as goal

-- what was taken for the fork and what goes on
passes : (key least m g : ℕ) → g ≡ max key least → m ≡ min key least → Passes key least m g
passes key least m g e d = rw (e, d) (passes-min key least)

pub insert-requires : goal.insert-requires
insert-requires t c =
    let f = at_Fork c.self.view_is c.self.invariant c.in-Fork.is in
    let p = passes c.args.key c.in-Fork.least c.min.result c.max-greater.result c.max-greater.ensures c.min.ensures in
    let less = (shorter _ _ _ _ _ f).0 in
    let absent = absent_low _ _ c.max-greater.result (greater_absent _ _ _ _ _ c.args.key c.min.result c.max-greater.result f c.requires.absent p) in
    let there = subst (AllByRecursion (λ k. k ≢ c.max-greater.result)) (sym c.deref_mut.ensures.value) absent in
    (search rules, (there, (c.requires.low_empty, c.requires.high_empty)))

pub returns-then-greater-middle : goal.returns-then-greater-middle
returns-then-greater-middle t c =
    let f = at_Fork c.self.view_is c.self.invariant c.in-Fork.is in
    let p = passes c.args.key c.in-Fork.least c.min.result c.max-greater.result c.max-greater.ensures c.min.ensures in
    (put_low _ _ _ _ _ c.args.key c.min.result c.max-greater.result c.insert.new.self f c.requires.absent p c.if-greater-middle.true (c.insert.ensures
    ∙ ap (with_key c.max-greater.result) c.deref_mut.ensures.value)).is

pub invariant_of-self-then-greater-middle : goal.invariant_of-self-then-greater-middle
invariant_of-self-then-greater-middle t c =
    let f = at_Fork c.self.view_is c.self.invariant c.in-Fork.is in
    let p = passes c.args.key c.in-Fork.least c.min.result c.max-greater.result c.max-greater.ensures c.min.ensures in
    (put_low _ _ _ _ _ c.args.key c.min.result c.max-greater.result c.insert.new.self f c.requires.absent p c.if-greater-middle.true (c.insert.ensures
    ∙ ap (with_key c.max-greater.result) c.deref_mut.ensures.value)).splits

pub insert-requires-else-greater-middle : goal.insert-requires-else-greater-middle
insert-requires-else-greater-middle t c =
    let f = at_Fork c.self.view_is c.self.invariant c.in-Fork.is in
    let p = passes c.args.key c.in-Fork.least c.min.result c.max-greater.result c.max-greater.ensures c.min.ensures in
    let less = (shorter _ _ _ _ _ f).1 in
    let absent = absent_high _ _ c.max-greater.result (greater_absent _ _ _ _ _ c.args.key c.min.result c.max-greater.result f c.requires.absent p) in
    let there = subst (AllByRecursion (λ k. k ≢ c.max-greater.result)) (sym c.deref_mut-else-greater-middle.ensures.value) absent in
    (search rules, (there, (c.requires.low_empty, c.requires.high_empty)))

pub returns-else-greater-middle : goal.returns-else-greater-middle
returns-else-greater-middle t c =
    let f = at_Fork c.self.view_is c.self.invariant c.in-Fork.is in
    let p = passes c.args.key c.in-Fork.least c.min.result c.max-greater.result c.max-greater.ensures c.min.ensures in
    (put_high _ _ _ _ _ c.args.key c.min.result c.max-greater.result c.insert-else-greater-middle.new.self f c.requires.absent p c.if-greater-middle.false
    (c.insert-else-greater-middle.ensures ∙ ap (with_key c.max-greater.result) c.deref_mut-else-greater-middle.ensures.value)).is

pub invariant_of-self-else-greater-middle : goal.invariant_of-self-else-greater-middle
invariant_of-self-else-greater-middle t c =
    let f = at_Fork c.self.view_is c.self.invariant c.in-Fork.is in
    let p = passes c.args.key c.in-Fork.least c.min.result c.max-greater.result c.max-greater.ensures c.min.ensures in
    (put_high _ _ _ _ _ c.args.key c.min.result c.max-greater.result c.insert-else-greater-middle.new.self f c.requires.absent p c.if-greater-middle.false
    (c.insert-else-greater-middle.ensures ∙ ap (with_key c.max-greater.result) c.deref_mut-else-greater-middle.ensures.value)).splits
