use Rattle.std.proofs.Common.{◌≡◌, ◌<◌, ◌++◌, length, vec_len, refl, sym, ap, subst, ◌∙◌, arith, rules}
use Rattle.std.specs.Option.{option_to_list}
use Rattle.flow_roles.specs.TurnPasses.{known_by, IsPassOf}
use Rattle.flow_run.specs.Seats.{AreReady}
use Rattle.flow_run.proofs.Parting.{seats-length}
use Rattle.flow_roles.proofs.Lists.{parted}
use Rattle.flow_run.proofs.Seating.{first-dealt, rest-dealt, last-dealt, ready-dealt}
use Rattle.flow_run.proofs.seats.deal.Goals as goal

pub returns-clause-feeder : goal.returns-clause-feeder
returns-clause-feeder g c =
    let whole = c.pop.ensures.items ∙ ap (λ o. c.pop.new.self.items ++ option_to_list o) c.unwrap-last.ensures in
    let few : length c.pop.new.self.items ≡ vec_len c.pop.new.self = search rules in
    let some : 0 < length c.pop.new.self.items =
    omega (arith, few, c.requires.many.0, c.pop.ensures.cases, c.pop.ensures.len, ap (λ o. length (option_to_list o)) c.unwrap-last.ensures) in
    let begins = parted c.pop.new.self.items c.remove.new.self.items c.remove.result some c.remove.ensures.value c.remove.ensures.by_index.2 in
    let f =
    c.requires.fresh 0 c.remove.result
    (first-dealt c.args.passes.items c.pop.new.self.items c.remove.new.self.items c.remove.result c.unwrap-last.result whole begins) in
    (refl, refl, f.0, f.1)

pub returns-clause-seats : goal.returns-clause-seats
returns-clause-seats g c =
    let few : length c.remove.new.self.items ≡ vec_len c.remove.new.self = search rules in
    let all : length c.in_ok-worker_seats.field-0.items ≡ vec_len c.in_ok-worker_seats.field-0 = search rules in
    let rest : vec_len c.remove.new.self ≡ length c.args.nodes.now =
    omega (arith, c.requires.many.0, c.remove.ensures.len, c.pop.ensures.len, ap (λ o. length (option_to_list o)) c.unwrap-last.ensures) in
    sym all ∙ (ap length c.in_ok-worker_seats.ensures ∙ seats-length _ _ _ _ 1 c.args.nodes.now c.remove.new.self.items (few ∙ rest))

pub returns-clause-workers : goal.returns-clause-workers
returns-clause-workers g c =
    let whole = c.pop.ensures.items ∙ ap (λ o. c.pop.new.self.items ++ option_to_list o) c.unwrap-last.ensures in
    let few : length c.pop.new.self.items ≡ vec_len c.pop.new.self = search rules in
    let some : 0 < length c.pop.new.self.items =
    omega (arith, few, c.requires.many.0, c.pop.ensures.len, ap (λ o. length (option_to_list o)) c.unwrap-last.ensures) in
    let begins = parted c.pop.new.self.items c.remove.new.self.items c.remove.result some c.remove.ensures.value c.remove.ensures.by_index.2 in
    subst (λ xs. AreReady (λ p. IsPassOf c.args.desk.now.id p.inner) (λ p. known_by p.inner p.said) 1 c.args.nodes.now xs) (sym c.in_ok-worker_seats.ensures)
    (ready-dealt (λ p. IsPassOf c.args.desk.now.id p.inner) (λ p. known_by p.inner p.said) c.args.nodes.now c.remove.new.self.items
    (λ k p at. c.requires.fresh _ p
    (rest-dealt c.args.passes.items c.pop.new.self.items c.remove.new.self.items c.remove.result c.unwrap-last.result whole begins k p at)))

pub returns-clause-last : goal.returns-clause-last
returns-clause-last g c =
    let whole = c.pop.ensures.items ∙ ap (λ o. c.pop.new.self.items ++ option_to_list o) c.unwrap-last.ensures in
    let few : length c.pop.new.self.items ≡ vec_len c.pop.new.self = search rules in
    let some : 0 < length c.pop.new.self.items =
    omega (arith, few, c.requires.many.0, c.pop.ensures.len, ap (λ o. length (option_to_list o)) c.unwrap-last.ensures) in
    let begins = parted c.pop.new.self.items c.remove.new.self.items c.remove.result some c.remove.ensures.value c.remove.ensures.by_index.2 in
    let left : length c.remove.new.self.items ≡ vec_len c.remove.new.self = search rules in
    let rest : length c.remove.new.self.items ≡ length c.args.nodes.now =
    omega (arith, left, c.requires.many.0, c.remove.ensures.len, c.pop.ensures.len, ap (λ o. length (option_to_list o)) c.unwrap-last.ensures) in
    c.requires.fresh _ c.unwrap-last.result (last-dealt c.args.passes.items c.pop.new.self.items c.remove.new.self.items c.remove.result c.unwrap-last.result
    whole begins (length c.args.nodes.now) rest)
