use Rattle.board_rules.specs.RunMeasures.{run_setting, run_measure}
use Rattle.flow_roles.specs.declared.operation.DeskOp.TheVariants as op
use Rattle.flow_roles.specs.declared.operation.DeskReply.TheVariants as reply
use Rattle.flow_roles.specs.Operations.{frames_of}
use Rattle.flow_roles.proofs.Replied.{both-replied}
use Rattle.flow_roles.proofs.desk.Desk.put_take.Goals as goal

pub returns-clause-called : goal.returns-clause-called
returns-clause-called g c =
    let fs = frames_of g.F.Named.name_of g.F.Held.parts g.F.Held.bytes_of (run_measure g.F.Of.Run.graph g.F.Of.Run.stack) in
    both-replied fs (run_setting g.F.Of.Run.graph g.F.Of.Run.stack) (op.Put c.args.role c.args.done) (op.Take c.args.role c.args.node)
    c.call_both-first.result.0 c.call_both-first.result.1 (reply.Put c.in-Put.put) (reply.Take c.in-Take.taken) _ _
    c.in-Put.is c.in-Take.is c.call_both-first.ensures.called
