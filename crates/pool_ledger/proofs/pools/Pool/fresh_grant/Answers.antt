use Rattle.std.proofs.Common.{◌≡◌, ◌+◌, ◌<◌, ◌^◌, true, false, unwrap_or, length, ap, sym, ◌∙◌, arith, rules}
use Rattle.pool_ledger.specs.Keys.{least_from}
use Rattle.pool_ledger.specs.Grants.{passes}
use Rattle.pool_ledger.specs.Ledger.{Ledger}
use Rattle.pool_ledger.proofs.Missing.{first_unused}
use Rattle.pool_ledger.proofs.Sound.{standing_fits}
use Rattle.pool_ledger.proofs.Walks.{picked_start, picked_next, picked_count, NextPick, Chosen, chosen_within, chosen_all, chosen_grant}
use Rattle.pool_ledger.proofs.pools.Pool.fresh_grant.Goals as goal
use Rattle.pool_ledger.proofs.pools.Pool.fresh_grant.Goals.{in-Some, in-None, else-loop-self-test, then-loop-self-test+in_default}

pub loop-self-init : goal.loop-self-init
loop-self-init c =
    let ss = c.self.inside.slots.items in
    let keys = c.least_from.ensures ∙ ap (least_from 0) c.self.invariant.unused_keys in
    let first : c.match-least_from.number ≡ first_unused 0 ss =
    elim c.match-least_from.branch [
      | in-Some w ↦ w.number-is ∙ ap (λ o. unwrap_or o (0 + length ss)) (sym w.in-Some.is ∙ keys)
      | in-None w ↦
          let long : w.len.result ≡ 0 + length ss = search rules in
          w.number-is ∙ long ∙ ap (λ o. unwrap_or o (0 + length ss)) (sym w.in-None.is ∙ keys)
    ] in
    picked_start c.self.inside c.args.n c.match-least_from.number c.self.invariant first

pub passes_limit-requires : goal.passes_limit-requires
passes_limit-requires c =
    let s = c.self.invariant in
    let fits = standing_fits c.self.inside.slots.items c.self.inside.room s.in_range s.slots_fit s.room_fits in
    let small : c.args.n < 2 ^ 32 = search rules in
    omega (arith, s.standing_is, c.loop-self.invariant.bounded)

next : (c : goal.After-min-number)
    → NextPick c.self.inside c.args.n c.loop-self.standing c.loop-self.number c.loop-self.below c.loop-self.given_up c.in-Some-greatest_below.key
next c =
    let over : passes c.self.inside.limit (c.loop-self.standing + c.args.n) ≡ true =
    ap (λ (p : Ledger). passes p.limit (c.loop-self.standing + c.args.n)) c.self.view_is ∙ sym c.passes_limit.ensures ∙ c.loop-self-test.true in
    picked_next c.self.inside c.args.n c.loop-self.standing c.loop-self.number c.loop-self.below c.loop-self.given_up c.in-Some-greatest_below.key
    c.self.invariant c.greatest_below.ensures.rising c.loop-self.invariant over (sym c.greatest_below.ensures.found ∙ c.in-Some-greatest_below.is)

pub overflow_add-given_up : goal.overflow_add-given_up
overflow_add-given_up c =
    let p = (next c).picked in
    let most = picked_count c.self.inside c.args.n _ _ _ _ c.self.invariant p in
    omega (arith, c.self.invariant.room_fits)

pub loop-self-smaller : goal.loop-self-smaller
loop-self-smaller c = (next c).less

pub loop-self-preserved : goal.loop-self-preserved
loop-self-preserved c = rw (c.saturating_sub-standing.ensures, c.min-number.ensures) (next c).picked

pub returns : goal.returns
returns c =
    let p = c.args.self.now in
    let chosen : Chosen p c.args.n c.loop-self.number c.loop-self.given_up =
    elim c.loop-self-test.branch [
      | else-loop-self-test w ↦
          let under : passes c.self.inside.limit (c.loop-self.standing + c.args.n) ≡ false =
          ap (λ (q : Ledger). passes q.limit (c.loop-self.standing + c.args.n)) c.self.view_is ∙ sym c.passes_limit.ensures ∙ w.loop-self-test.false in
          chosen_within c.self.inside p c.args.n c.loop-self.standing c.loop-self.number c.loop-self.below c.loop-self.given_up c.self.view_is
          c.self.invariant c.loop-self.invariant under
      | then-loop-self-test+in_default w ↦
          chosen_all c.self.inside p c.args.n c.loop-self.standing c.loop-self.number c.loop-self.below c.loop-self.given_up c.self.view_is
          c.self.invariant c.loop-self.invariant (sym w.greatest_below.ensures.found ∙ w.in_default.is)
    ] in
    rw (chosen_grant p c.args.n c.loop-self.number c.loop-self.given_up chosen, chosen.given)
