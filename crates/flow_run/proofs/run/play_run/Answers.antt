use Rattle.std.proofs.Common.{◌≡◌, suc, ◌<◌, ◌∷◌, length, vec_len, ap, sym, subst, ◌∙◌, arith, rules}
use Rattle.std.specs.Prelude.{All}
use Rattle.std.specs.List.{list_all}
use Rattle.std.proofs.lemmas.Bool.{and_parts}
use Rattle.board_rules.specs.RunMeasures.{run_setting}
use Rattle.flow_roles.specs.TurnPasses.{known_by, IsPassOf, HasMade}
use Rattle.flow_drain.proofs.TakingBack.{few-roles}
use Rattle.flow_roles.specs.Workers.{workers}
use Rattle.flow_saver.specs.KeptNames.{IsGroupName}
use Rattle.flow_saver.proofs.KeptNames.{kept-all}
use Rattle.flow_run.specs.Seats.{is_back}
use Rattle.flow_run.specs.Joined.{IsJoined}
use Rattle.flow_run.specs.Runs.{outside}
use Rattle.flow_roles.proofs.Workers.{workers-many}
use Rattle.flow_run.proofs.Sharing.{came-back, first-fed, if-ok, back-many, back-ours, joined-from, fed-from, has-run, made-last, leaves-from, passes}
use Rattle.flow_run.proofs.Finishing.{run-notes}
use Rattle.flow_run.proofs.run.play_run.Goals as goal

pub overflow_cast-role : goal.overflow_cast-role
overflow_cast-role g c =
    let s = run_setting g.R.Run.graph g.R.Run.stack in
    let all : length c.in_ok-nodes.nodes.items ≡ vec_len c.in_ok-nodes.nodes = search rules in
    omega (arith, c.len.ensures, all, ap length c.in_ok-nodes.ensures, workers-many s, few-roles g.R.Run.graph g.R.Run.stack c.requires.graph)

pub overflow_add-role : goal.overflow_add-role
overflow_add-role g c =
    let s = run_setting g.R.Run.graph g.R.Run.stack in
    let all : length c.in_ok-nodes.nodes.items ≡ vec_len c.in_ok-nodes.nodes = search rules in
    omega (arith, c.len.ensures, all, ap length c.in_ok-nodes.ensures, workers-many s, few-roles g.R.Run.graph g.R.Run.stack c.requires.graph)

pub overflow_add-role-2 : goal.overflow_add-role-2
overflow_add-role-2 g c =
    let s = run_setting g.R.Run.graph g.R.Run.stack in
    let all : length c.in_ok-nodes.nodes.items ≡ vec_len c.in_ok-nodes.nodes = search rules in
    omega (arith, c.len.ensures, all, ap length c.in_ok-nodes.ensures, workers-many s, few-roles g.R.Run.graph g.R.Run.stack c.requires.graph)

pub run_roles-pass-requires-clause-role : goal.run_roles-pass-requires-clause-role
run_roles-pass-requires-clause-role g c κs within =
    let s = run_setting g.R.Run.graph g.R.Run.stack in
    let all : length c.in_ok-nodes.nodes.items ≡ vec_len c.in_ok-nodes.nodes = search rules in
    omega (arith, c.len.ensures, all, ap length c.in_ok-nodes.ensures, workers-many s)

pub gather-passes-requires-clause-back : goal.gather-passes-requires-clause-back
gather-passes-requires-clause-back g c =
    let s = run_setting g.R.Run.graph g.R.Run.stack in
    let e = c.run_roles-pass.ensures in
    let a = c.in_ok-feeder.workers-is in
    let b = c.in_ok-feeder.ensures.seats in
    let d = c.as_slice.ensures.value in
    let f = c.in_ok-nodes.ensures in
    let n : vec_len c.in_ok-feeder.field-0.workers ≡ length (workers s) = cc in
    let few : length c.run_roles-pass.new.workers.items ≡ vec_len c.run_roles-pass.new.workers = search rules in
    let came =
    came-back (λ p. IsPassOf c.in_ok-desk.desk.id p.inner) (λ p. known_by p.inner p.said) s c.run_roles-pass.new.feeder c.run_roles-pass.new.workers.items
    (few ∙ (e.many ∙ n)) e.fed e.back in
    and_parts (is_back c.run_roles-pass.new.feeder) (list_all is_back c.run_roles-pass.new.workers.items) came.all

pub take_back-board-requires-clause-ours : goal.take_back-board-requires-clause-ours
take_back-board-requires-clause-ours g c =
    let s = run_setting g.R.Run.graph g.R.Run.stack in
    let e = c.run_roles-pass.ensures in
    let a = c.in_ok-feeder.workers-is in
    let b = c.in_ok-feeder.ensures.seats in
    let d = c.as_slice.ensures.value in
    let f = c.in_ok-nodes.ensures in
    let n : vec_len c.in_ok-feeder.field-0.workers ≡ length (workers s) = cc in
    let few : length c.run_roles-pass.new.workers.items ≡ vec_len c.run_roles-pass.new.workers = search rules in
    let many = few ∙ (e.many ∙ n) in
    let came =
    came-back (λ p. IsPassOf c.in_ok-desk.desk.id p.inner)
    (λ p. known_by p.inner p.said) s c.run_roles-pass.new.feeder c.run_roles-pass.new.workers.items many e.fed e.back in
    subst (λ ps. All (λ p. IsPassOf c.in_ok-desk.desk.id p.inner) ps) (sym c.gather-passes.ensures.passes)
    (back-ours (λ p. IsPassOf c.in_ok-desk.desk.id p.inner) (λ p. known_by p.inner p.said) s
    (c.run_roles-pass.new.feeder ∷ c.run_roles-pass.new.workers.items) (ap suc many) came c.run_roles-pass.result.pass e.end.0)

pub take_back-board-requires-clause-all : goal.take_back-board-requires-clause-all
take_back-board-requires-clause-all g c =
    let s = run_setting g.R.Run.graph g.R.Run.stack in
    let e = c.run_roles-pass.ensures in
    let a = c.in_ok-feeder.workers-is in
    let b = c.in_ok-feeder.ensures.seats in
    let d = c.as_slice.ensures.value in
    let f = c.in_ok-nodes.ensures in
    let n : vec_len c.in_ok-feeder.field-0.workers ≡ length (workers s) = cc in
    let few : length c.run_roles-pass.new.workers.items ≡ vec_len c.run_roles-pass.new.workers = search rules in
    let many = few ∙ (e.many ∙ n) in
    let came =
    came-back (λ p. IsPassOf c.in_ok-desk.desk.id p.inner)
    (λ p. known_by p.inner p.said) s c.run_roles-pass.new.feeder c.run_roles-pass.new.workers.items many e.fed e.back in
    let back =
    back-many (λ p. IsPassOf c.in_ok-desk.desk.id p.inner) (λ p. known_by p.inner p.said) s
    (c.run_roles-pass.new.feeder ∷ c.run_roles-pass.new.workers.items) (ap suc many) came c.run_roles-pass.result.pass in
    let is = ap length c.gather-passes.ensures.passes in
    let len : length c.gather-passes.result.0.items ≡ vec_len c.gather-passes.result.0 = search rules in
    let all : length c.in_ok-nodes.nodes.items ≡ vec_len c.in_ok-nodes.nodes = search rules in
    let some : 0 < vec_len c.gather-passes.result.0 = omega (arith, back, is, len) in
    let same : vec_len c.gather-passes.result.0 ≡ c.in_ok-desk.desk.seats =
    omega (arith, back, is, len, c.in_ok-desk.ensures.seats.0, c.len.ensures, all, ap length c.in_ok-nodes.ensures, workers-many s) in
    (some, same)

pub finish_run-requires-clause-role : goal.finish_run-requires-clause-role
finish_run-requires-clause-role g c =
    let s = run_setting g.R.Run.graph g.R.Run.stack in
    let all : length c.in_ok-nodes.nodes.items ≡ vec_len c.in_ok-nodes.nodes = search rules in
    omega (arith, c.len.ensures, all, ap length c.in_ok-nodes.ensures, workers-many s)

pub finish_run-requires-clause-joined : goal.finish_run-requires-clause-joined
finish_run-requires-clause-joined g c =
    let s = run_setting g.R.Run.graph g.R.Run.stack in
    let e = c.run_roles-pass.ensures in
    let a = c.in_ok-feeder.workers-is in
    let b = c.in_ok-feeder.ensures.seats in
    let d = c.as_slice.ensures.value in
    let f = c.in_ok-nodes.ensures in
    let n : vec_len c.in_ok-feeder.field-0.workers ≡ length (workers s) = cc in
    let few : length c.run_roles-pass.new.workers.items ≡ vec_len c.run_roles-pass.new.workers = search rules in
    let many = few ∙ (e.many ∙ n) in
    let came =
    came-back (λ p. IsPassOf c.in_ok-desk.desk.id p.inner)
    (λ p. known_by p.inner p.said) s c.run_roles-pass.new.feeder c.run_roles-pass.new.workers.items many e.fed e.back in
    let board = g.B.BoardCalls.shown c.take_back-board.result in
    let made = subst (λ ps. All (λ p. HasMade board (known_by p.inner p.said)) ps) c.gather-passes.ensures.passes c.take_back-board.ensures.moves in
    let all : length c.in_ok-nodes.nodes.items ≡ vec_len c.in_ok-nodes.nodes = search rules in (
      passes (λ p. IsPassOf c.in_ok-desk.desk.id p.inner) (λ p. known_by p.inner p.said) s
          (c.run_roles-pass.new.feeder ∷ c.run_roles-pass.new.workers.items) (ap suc many) came c.run_roles-pass.result.pass,
      (
        known_by c.run_roles-pass.result.pass.inner c.run_roles-pass.result.pass.said,
        subst (λ ls. IsJoined s board (passes (λ p. IsPassOf c.in_ok-desk.desk.id p.inner) (λ p. known_by p.inner p.said) s
            (c.run_roles-pass.new.feeder ∷ c.run_roles-pass.new.workers.items) (ap suc many) came c.run_roles-pass.result.pass) ls
            (known_by c.run_roles-pass.result.pass.inner c.run_roles-pass.result.pass.said)) (sym c.gather-passes.ensures.lefts)
            (joined-from (λ p. IsPassOf c.in_ok-desk.desk.id p.inner) (λ p. known_by p.inner p.said) s
            (c.run_roles-pass.new.feeder ∷ c.run_roles-pass.new.workers.items) (ap suc many) came c.run_roles-pass.result.pass board made
            c.take_back-board.ensures.legal c.take_back-board.ensures.drained c.take_back-board.ensures.storage
            (λ r high. c.take_back-board.ensures.others r
            (omega (arith, high, c.in_ok-desk.ensures.seats.0, c.len.ensures, all, ap length c.in_ok-nodes.ensures, workers-many s)))
            e.end.1.role e.end.1.moves),
      ),
    )

pub finish_run-requires-clause-left : goal.finish_run-requires-clause-left
finish_run-requires-clause-left g c =
    let s = run_setting g.R.Run.graph g.R.Run.stack in
    let e = c.run_roles-pass.ensures in
    let a = c.in_ok-feeder.workers-is in
    let b = c.in_ok-feeder.ensures.seats in
    let d = c.as_slice.ensures.value in
    let f = c.in_ok-nodes.ensures in
    let n : vec_len c.in_ok-feeder.field-0.workers ≡ length (workers s) = cc in
    let few : length c.run_roles-pass.new.workers.items ≡ vec_len c.run_roles-pass.new.workers = search rules in
    let many = few ∙ (e.many ∙ n) in
    let came =
    came-back (λ p. IsPassOf c.in_ok-desk.desk.id p.inner)
    (λ p. known_by p.inner p.said) s c.run_roles-pass.new.feeder c.run_roles-pass.new.workers.items many e.fed e.back in
    let board = g.B.BoardCalls.shown c.take_back-board.result in
    let made = subst (λ ps. All (λ p. HasMade board (known_by p.inner p.said)) ps) c.gather-passes.ensures.passes c.take_back-board.ensures.moves in
    let last =
    made-last (λ p. IsPassOf c.in_ok-desk.desk.id p.inner) (λ p. known_by p.inner p.said) s
    (c.run_roles-pass.new.feeder ∷ c.run_roles-pass.new.workers.items) (ap suc many) came c.run_roles-pass.result.pass board made in (
      c.requires.files.0,
      (
        g.K.Shelf.held c.args.shelf.now,
        leaves-from g.R.Run.graph g.R.Run.stack c.requires.files.0 (g.K.Shelf.held c.args.shelf.now)
            (known_by c.run_roles-pass.result.pass.inner c.run_roles-pass.result.pass.said) c.run_roles-pass.result.left
            c.run_roles-pass.result.files c.run_roles-pass.result.fault (g.K.Shelf.held c.run_roles-pass.new.shelf) board last c.take_back-board.ensures.legal
            c.take_back-board.ensures.drained (e.end.1.leaves c.requires.files.0 c.requires.files.1),
      ),
    )

pub returns-clause-run : goal.returns-clause-run
returns-clause-run g c =
    let s = run_setting g.R.Run.graph g.R.Run.stack in
    let e = c.run_roles-pass.ensures in
    let a = c.in_ok-feeder.workers-is in
    let b = c.in_ok-feeder.ensures.seats in
    let d = c.as_slice.ensures.value in
    let f = c.in_ok-nodes.ensures in
    let n : vec_len c.in_ok-feeder.field-0.workers ≡ length (workers s) = cc in
    let few : length c.run_roles-pass.new.workers.items ≡ vec_len c.run_roles-pass.new.workers = search rules in
    let many = few ∙ (e.many ∙ n) in
    let came =
    came-back (λ p. IsPassOf c.in_ok-desk.desk.id p.inner)
    (λ p. known_by p.inner p.said) s c.run_roles-pass.new.feeder c.run_roles-pass.new.workers.items many e.fed e.back in
    let board = g.B.BoardCalls.shown c.take_back-board.result in
    let made = subst (λ ps. All (λ p. HasMade board (known_by p.inner p.said)) ps) c.gather-passes.ensures.passes c.take_back-board.ensures.moves in
    let last =
    made-last (λ p. IsPassOf c.in_ok-desk.desk.id p.inner) (λ p. known_by p.inner p.said) s
    (c.run_roles-pass.new.feeder ∷ c.run_roles-pass.new.workers.items) (ap suc many) came c.run_roles-pass.result.pass board made in
    let old = g.C.Clock.coming c.args.clock.now in
    let now = g.C.Clock.coming c.run_roles-pass.new.clock in
    has-run g.R.Run.graph g.R.Run.stack c.args.files
    (outside (g.K.Shelf.held c.args.shelf.now) (g.K.Shelf.faults c.args.shelf.now) old)
    (outside (g.K.Shelf.held c.finish_run.new.shelf) (g.K.Shelf.faults c.finish_run.new.shelf) (g.C.Clock.coming c.finish_run.new.clock))
    (g.N.Watch.watched c.args.watch.now) (g.N.Watch.watched c.run_roles-pass.new.watch) c.finish_run.result
    c.finish_run.ensures.finished c.finish_run.ensures.measures
    (if-ok c.finish_run.result _ _
    (λ end h prefix is. h prefix (g.K.Shelf.held c.args.shelf.now)
    (leaves-from g.R.Run.graph g.R.Run.stack prefix (g.K.Shelf.held c.args.shelf.now)
    (known_by c.run_roles-pass.result.pass.inner c.run_roles-pass.result.pass.said) c.run_roles-pass.result.left
    c.run_roles-pass.result.files c.run_roles-pass.result.fault
    (g.K.Shelf.held c.run_roles-pass.new.shelf) board last c.take_back-board.ensures.legal c.take_back-board.ensures.drained (e.end.1.leaves prefix is)))
    c.finish_run.ensures.files)
    (if-ok c.finish_run.result _ _ (λ end h. h (g.K.Shelf.faults c.args.shelf.now) e.fault) c.finish_run.ensures.fault)
    c.finish_run.ensures.roles
    (if-ok c.finish_run.result _ _
    (λ end h. h old (fed-from (λ p. IsPassOf c.in_ok-desk.desk.id p.inner) (λ p. known_by p.inner p.said) s
    (c.run_roles-pass.new.feeder ∷ c.run_roles-pass.new.workers.items) (ap suc many) came c.run_roles-pass.result.pass board made old now
    (first-fed (λ p. known_by p.inner p.said) s old now c.run_roles-pass.new.feeder c.run_roles-pass.new.workers.items e.ticks)))
    c.finish_run.ensures.ticks)
    c.finish_run.ensures.storage
    (if-ok c.finish_run.result _ _
    (λ end h. run-notes s end.log.past board (known_by c.run_roles-pass.result.pass.inner c.run_roles-pass.result.pass.said)
    c.run_roles-pass.result.want _ _ last h e.notes) c.finish_run.ensures.begins)

pub returns-clause-elsewhere : goal.returns-clause-elsewhere
returns-clause-elsewhere g c =
    let s = run_setting g.R.Run.graph g.R.Run.stack in
    let e = c.run_roles-pass.ensures in
    let a = c.in_ok-feeder.workers-is in
    let b = c.in_ok-feeder.ensures.seats in
    let d = c.as_slice.ensures.value in
    let f = c.in_ok-nodes.ensures in
    let n : vec_len c.in_ok-feeder.field-0.workers ≡ length (workers s) = cc in
    let few : length c.run_roles-pass.new.workers.items ≡ vec_len c.run_roles-pass.new.workers = search rules in
    let many = few ∙ (e.many ∙ n) in
    let came =
    came-back (λ p. IsPassOf c.in_ok-desk.desk.id p.inner)
    (λ p. known_by p.inner p.said) s c.run_roles-pass.new.feeder c.run_roles-pass.new.workers.items many e.fed e.back in
    let board = g.B.BoardCalls.shown c.take_back-board.result in
    let made = subst (λ ps. All (λ p. HasMade board (known_by p.inner p.said)) ps) c.gather-passes.ensures.passes c.take_back-board.ensures.moves in
    let last =
    made-last (λ p. IsPassOf c.in_ok-desk.desk.id p.inner) (λ p. known_by p.inner p.said) s
    (c.run_roles-pass.new.feeder ∷ c.run_roles-pass.new.workers.items) (ap suc many) came c.run_roles-pass.result.pass board made in
    λ prefix is. c.finish_run.ensures.elsewhere prefix (g.K.Shelf.held c.args.shelf.now)
    (leaves-from g.R.Run.graph g.R.Run.stack prefix (g.K.Shelf.held c.args.shelf.now)
    (known_by c.run_roles-pass.result.pass.inner c.run_roles-pass.result.pass.said) c.run_roles-pass.result.left
    c.run_roles-pass.result.files c.run_roles-pass.result.fault
    (g.K.Shelf.held c.run_roles-pass.new.shelf) board last c.take_back-board.ensures.legal c.take_back-board.ensures.drained (e.end.1.leaves prefix is))

pub returns-in_err-nodes-clause-elsewhere : goal.returns-in_err-nodes-clause-elsewhere
returns-in_err-nodes-clause-elsewhere g c prefix is = kept-all (IsGroupName g.R.Run.graph prefix) (g.K.Shelf.held c.args.shelf.now)

pub returns-in_err-joined-clause-elsewhere : goal.returns-in_err-joined-clause-elsewhere
returns-in_err-joined-clause-elsewhere g c prefix is = kept-all (IsGroupName g.R.Run.graph prefix) (g.K.Shelf.held c.args.shelf.now)

pub returns-in_err-lefts-clause-elsewhere : goal.returns-in_err-lefts-clause-elsewhere
returns-in_err-lefts-clause-elsewhere g c prefix is = kept-all (IsGroupName g.R.Run.graph prefix) (g.K.Shelf.held c.args.shelf.now)

pub returns-in_err-desk-clause-elsewhere : goal.returns-in_err-desk-clause-elsewhere
returns-in_err-desk-clause-elsewhere g c prefix is = kept-all (IsGroupName g.R.Run.graph prefix) (g.K.Shelf.held c.args.shelf.now)

pub returns-in_err-feeder-clause-elsewhere : goal.returns-in_err-feeder-clause-elsewhere
returns-in_err-feeder-clause-elsewhere g c prefix is = kept-all (IsGroupName g.R.Run.graph prefix) (g.K.Shelf.held c.args.shelf.now)

pub returns-clause-home : goal.returns-clause-home
returns-clause-home g c = c.run_roles-pass.ensures.home
