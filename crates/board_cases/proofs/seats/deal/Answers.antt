use Rattle.std.proofs.Common.{◌≡◌, ◌<◌, ◌++◌, length, vec_len, refl, ap, ◌∙◌, arith, rules}
use Rattle.std.specs.Option.{option_to_list}
use Rattle.board_rules.specs.RunMeasures.{run_setting}
use Rattle.flow_roles.specs.TurnPasses.{known_by, IsPassOf}
use Rattle.flow_roles.specs.Workers.{workers}
use Rattle.board_cases.specs.Seats.{workers_of}
use Rattle.flow_roles.proofs.Lists.{parted}
use Rattle.board_cases.proofs.Dealing.{seated}
use Rattle.board_cases.proofs.seats.deal.Goals as goal

pub returns : goal.returns
returns g c =
    let s = run_setting g.R.Run.graph g.R.Run.stack in
    let whole = c.pop.ensures.items ∙ ap (λ o. c.pop.new.self.items ++ option_to_list o) c.unwrap-last.ensures in
    let few : length c.pop.new.self.items ≡ vec_len c.pop.new.self = search rules in
    let one = ap (λ o. length (option_to_list o)) c.unwrap-last.ensures in
    let some : 0 < length c.pop.new.self.items = omega (arith, few, c.requires.many, c.pop.ensures.len, one) in
    let begins =
    parted c.pop.new.self.items c.remove-first.new.self.items c.remove-first.result some c.remove-first.ensures.value c.remove-first.ensures.by_index.2 in
    let left : length c.remove-first.new.self.items ≡ vec_len c.remove-first.new.self = search rules in
    let rest : length c.remove-first.new.self.items ≡ length (workers s) =
    omega (arith, left, c.requires.many, ap length c.requires.nodes, c.remove-first.ensures.len, c.pop.ensures.len, one) in
    seated (λ p. IsPassOf c.args.desk.now.id p.inner)
    (λ p. known_by p.inner p.said) g.R.Run.graph g.R.Run.stack c.args.passes.items c.pop.new.self.items c.remove-first.new.self.items
    c.remove-first.result c.unwrap-last.result whole begins rest c.requires.fresh _ refl
    (c.in_ok-seat_workers.ensures ∙ ap (λ ns. workers_of ns c.remove-first.new.self.items) c.requires.nodes) refl
