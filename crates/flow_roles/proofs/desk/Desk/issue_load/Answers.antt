use Rattle.board_rules.specs.RunMeasures.{run_setting, run_measure}
use Rattle.flow_roles.specs.declared.operation.DeskOp.TheVariants as op
use Rattle.flow_roles.specs.declared.operation.DeskReply.TheVariants as reply
use Rattle.flow_roles.specs.Operations.{frames_of}
use Rattle.flow_roles.proofs.Replied.{both-replied}
use Rattle.flow_roles.proofs.desk.Desk.issue_load.Goals as goal

pub returns-clause-called : goal.returns-clause-called
returns-clause-called g c =
    let fs = frames_of g.F.Named.name_of g.F.Held.parts g.F.Held.bytes_of (run_measure g.F.Of.Run.graph g.F.Of.Run.stack) in
    both-replied fs (run_setting g.F.Of.Run.graph g.F.Of.Run.stack) (op.Issue c.args.role c.args.frame) (op.Load c.args.role c.args.tick)
    c.call_both-first.result.0 c.call_both-first.result.1 (reply.Issue c.in-Issue.issued) (reply.Load c.in-Load.loaded) _ _
    c.in-Issue.is c.in-Load.is c.call_both-first.ensures.called
