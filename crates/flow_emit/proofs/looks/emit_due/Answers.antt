use Rattle.flow_journal.specs.Following.{look}
use Rattle.board_rules.specs.RunMeasures.{run_setting}
use Rattle.flow_emit.proofs.Offering.{node-number}
use Rattle.flow_emit.proofs.Leaves.{left-emitted, left-next, left-legal, left-out}
use Rattle.flow_emit.proofs.Waits.{look-offers}
use Rattle.flow_emit.proofs.looks.emit_due.Goals as goal

pub pass_on-requires-clause-from : goal.pass_on-requires-clause-from
pass_on-requires-clause-from g c =
    let s = run_setting g.F.Of.Run.graph g.F.Of.Run.stack in
    let v = c.args.node in
    left-emitted s v (look s v) c.in-Some.name c.args.course.now c.leave_due.new.self (c.leave_due.ensures.some c.in-Some.name c.in-Some.is)

pub pass_on-requires-clause-node : goal.pass_on-requires-clause-node
pass_on-requires-clause-node g c = node-number (run_setting g.F.Of.Run.graph g.F.Of.Run.stack) c.args.node c.requires.node

pub pass_on-requires-clause-next : goal.pass_on-requires-clause-next
pass_on-requires-clause-next g c =
    let s = run_setting g.F.Of.Run.graph g.F.Of.Run.stack in
    let v = c.args.node in
    left-next s v (look s v) c.in-Some.name c.args.course.now c.leave_due.new.self (c.leave_due.ensures.some c.in-Some.name c.in-Some.is)

pub pass_on-requires-clause-legal : goal.pass_on-requires-clause-legal
pass_on-requires-clause-legal g c =
    let s = run_setting g.F.Of.Run.graph g.F.Of.Run.stack in
    let v = c.args.node in
    left-legal s v (look s v) c.in-Some.name c.args.course.now c.leave_due.new.self (c.leave_due.ensures.some c.in-Some.name c.in-Some.is) c.requires.legal

pub returns-clause-some : goal.returns-clause-some
returns-clause-some g c =
    let s = run_setting g.F.Of.Run.graph g.F.Of.Run.stack in
    let v = c.args.node in
    λ t. left-out s v (look s v) c.in-Some.name c.args.course.now c.leave_due.new.self c.pass_on.new.course (look-offers s v c.in-Some.name)
    (c.leave_due.ensures.some c.in-Some.name c.in-Some.is) c.pass_on.ensures
