use Rattle.std.proofs.Common.{◌≡◌, ◌++◌, length, vec_len, ap, ◌∙◌, rules}
use Rattle.std.specs.Option.{option_to_list}
use Rattle.std.proofs.lemmas.List.Elements.{All-pop}
use Rattle.std.specs.Prelude.{Some}
use Rattle.flow_roles.specs.TurnPasses.{IsPassOf}
use Rattle.flow_roles.proofs.TurnJoins.{first-joined, next-joined, all-joined, popped-none, nothing-left}
use Rattle.flow_roles.proofs.turn_desk.join_all.Goals as goal

pub loop-pass-init : goal.loop-pass-init
loop-pass-init g c =
    first-joined (λ p. p.inner) c.args.desk.now.id c.args.passes.items c.pop.new.self.items c.unwrap-inner.result
    (c.pop.ensures.items ∙ ap (λ o. c.pop.new.self.items ++ option_to_list o) c.unwrap-inner.ensures) c.requires.ours

pub join-requires : goal.join-requires
join-requires g c =
    let j = c.loop-pass.invariant in (
      j.own,
      (All-pop (λ p. IsPassOf c.args.desk.now.id p.inner) c.loop-pass.passes.items c.pop-in-loop-pass.new.self.items
          (Some c.in-Some.pass) c.in-Some.ensures.items j.ours).1.0,
    )

pub loop-pass-preserved : goal.loop-pass-preserved
loop-pass-preserved g c =
    next-joined (λ p. p.inner) c.args.desk.now.id c.args.passes.items c.loop-pass.passes.items c.pop-in-loop-pass.new.self.items
    c.in-Some.pass c.loop-pass.keep c.join.new.keep
    c.loop-pass.invariant c.in-Some.ensures.items c.join.ensures.pass c.join.ensures.seen

pub returns-clause-lock : goal.returns-clause-lock
returns-clause-lock g c = c.loop-pass.invariant.own

pub returns-clause-roles : goal.returns-clause-roles
returns-clause-roles g c =
    let none = popped-none c.pop-in-loop-pass.result (vec_len c.loop-pass.passes) c.in_default.not-Some c.pop-in-loop-pass.ensures.variant in
    let few : length c.loop-pass.passes.items ≡ vec_len c.loop-pass.passes = search rules in
    let all =
    all-joined (λ p. p.inner) c.args.desk.now.id c.args.passes.items c.loop-pass.passes.items c.loop-pass.keep c.loop-pass.invariant
    (nothing-left c.loop-pass.passes.items (few ∙ none)) in
    let many : length c.args.passes.items ≡ vec_len c.args.passes = search rules in
    all.0 ∙ many

pub returns-clause-each : goal.returns-clause-each
returns-clause-each g c =
    let none = popped-none c.pop-in-loop-pass.result (vec_len c.loop-pass.passes) c.in_default.not-Some c.pop-in-loop-pass.ensures.variant in
    let few : length c.loop-pass.passes.items ≡ vec_len c.loop-pass.passes = search rules in
    (all-joined (λ p. p.inner) c.args.desk.now.id c.args.passes.items c.loop-pass.passes.items c.loop-pass.keep c.loop-pass.invariant
    (nothing-left c.loop-pass.passes.items (few ∙ none))).1

pub returns-clause-seen : goal.returns-clause-seen
returns-clause-seen g c =
    let none = popped-none c.pop-in-loop-pass.result (vec_len c.loop-pass.passes) c.in_default.not-Some c.pop-in-loop-pass.ensures.variant in
    let few : length c.loop-pass.passes.items ≡ vec_len c.loop-pass.passes = search rules in
    (all-joined (λ p. p.inner) c.args.desk.now.id c.args.passes.items c.loop-pass.passes.items c.loop-pass.keep c.loop-pass.invariant
    (nothing-left c.loop-pass.passes.items (few ∙ none))).2
