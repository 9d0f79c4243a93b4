use Rattle.std.proofs.Common.{◌≡◌, ◌<◌, length, vec_len, ap, sym, subst, arith, rules}
use Rattle.std.specs.Prelude.{All}
use Rattle.board_rules.specs.RunMeasures.{run_setting}
use Rattle.flow_roles.specs.TurnPasses.{known_by, IsPassOf}
use Rattle.flow_drain.proofs.TakingBack.{few-roles}
use Rattle.flow_roles.proofs.Workers.{workers-many}
use Rattle.board_cases.proofs.Leaving.{all-ours, passes-many, drain-from}
use Rattle.board_cases.proofs.board.play.Goals as goal

pub overflow_cast-last : goal.overflow_cast-last
overflow_cast-last g c =
    let s = run_setting g.R.Run.graph g.R.Run.stack in
    let all : length c.in_ok-nodes.nodes.items ≡ vec_len c.in_ok-nodes.nodes = search rules in
    omega (arith, c.len.ensures, all, ap length c.in_ok-nodes.ensures, workers-many s, few-roles g.R.Run.graph g.R.Run.stack c.requires.graph)

pub overflow_add-last : goal.overflow_add-last
overflow_add-last g c =
    let s = run_setting g.R.Run.graph g.R.Run.stack in
    let all : length c.in_ok-nodes.nodes.items ≡ vec_len c.in_ok-nodes.nodes = search rules in
    omega (arith, c.len.ensures, all, ap length c.in_ok-nodes.ensures, workers-many s, few-roles g.R.Run.graph g.R.Run.stack c.requires.graph)

pub overflow_add-last-2 : goal.overflow_add-last-2
overflow_add-last-2 g c =
    let s = run_setting g.R.Run.graph g.R.Run.stack in
    let all : length c.in_ok-nodes.nodes.items ≡ vec_len c.in_ok-nodes.nodes = search rules in
    omega (arith, c.len.ensures, all, ap length c.in_ok-nodes.ensures, workers-many s, few-roles g.R.Run.graph g.R.Run.stack c.requires.graph)

pub make_all-requires-clause-last : goal.make_all-requires-clause-last
make_all-requires-clause-last g c =
    let s = run_setting g.R.Run.graph g.R.Run.stack in
    let all : length c.in_ok-nodes.nodes.items ≡ vec_len c.in_ok-nodes.nodes = search rules in
    omega (arith, c.len.ensures, all, ap length c.in_ok-nodes.ensures, workers-many s)

pub finish-requires-clause-role : goal.finish-requires-clause-role
finish-requires-clause-role g c =
    let s = run_setting g.R.Run.graph g.R.Run.stack in
    let all : length c.in_ok-nodes.nodes.items ≡ vec_len c.in_ok-nodes.nodes = search rules in
    omega (arith, c.len.ensures, all, ap length c.in_ok-nodes.ensures, workers-many s)

pub take_back-board-requires-clause-ours : goal.take_back-board-requires-clause-ours
take_back-board-requires-clause-ours g c =
    subst (λ ps. All (λ p. IsPassOf c.in_ok-desk.desk.id p.inner) ps) (sym c.in_ok-passes.ensures.passes)
    (all-ours (λ p. IsPassOf c.in_ok-desk.desk.id p.inner)
    (λ p. known_by p.inner p.said) g.R.Run.graph g.R.Run.stack c.make_all.new.seats c.in_ok-make_all.ensures)

pub take_back-board-requires-clause-all : goal.take_back-board-requires-clause-all
take_back-board-requires-clause-all g c =
    let s = run_setting g.R.Run.graph g.R.Run.stack in
    let all : length c.in_ok-nodes.nodes.items ≡ vec_len c.in_ok-nodes.nodes = search rules in
    let many =
    passes-many (λ p. IsPassOf c.in_ok-desk.desk.id p.inner)
    (λ p. known_by p.inner p.said) g.R.Run.graph g.R.Run.stack c.make_all.new.seats c.in_ok-make_all.ensures in
    let is = ap length c.in_ok-passes.ensures.passes in
    let len : length c.in_ok-passes.passes.items ≡ vec_len c.in_ok-passes.passes = search rules in
    let some : 0 < vec_len c.in_ok-passes.passes = omega (arith, many, is, len) in
    let same : vec_len c.in_ok-passes.passes ≡ c.in_ok-desk.desk.seats =
    omega (arith, many, is, len, c.in_ok-desk.ensures.seats.0, c.len.ensures, all, ap length c.in_ok-nodes.ensures, workers-many s) in
    (some, same)

pub finish-requires-clause-ends : goal.finish-requires-clause-ends
finish-requires-clause-ends g c =
    let s = run_setting g.R.Run.graph g.R.Run.stack in
    let all : length c.in_ok-nodes.nodes.items ≡ vec_len c.in_ok-nodes.nodes = search rules in
    drain-from (λ p. IsPassOf c.in_ok-desk.desk.id p.inner)
    (λ p. known_by p.inner p.said) g.R.Run.graph g.R.Run.stack c.make_all.new.seats c.in_ok-make_all.ensures
    _ c.in_ok-passes.passes.items c.in_ok-passes.lefts.items c.in_ok-passes.ensures.passes c.in_ok-passes.ensures.lefts c.take_back-board.ensures.moves
    (λ r high. c.take_back-board.ensures.others r
    (omega (arith, high, c.in_ok-desk.ensures.seats.0, c.len.ensures, all, ap length c.in_ok-nodes.ensures, workers-many s)))
    c.in_ok-passes.ensures.piece
