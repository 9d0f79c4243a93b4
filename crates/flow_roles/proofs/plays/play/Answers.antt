use Rattle.board_rules.specs.RunMeasures.{run_setting, run_measure}
use Rattle.flow_roles.specs.Operations.{frames_of}
use Rattle.flow_roles.proofs.Playing.{issue_by, put_by, saved_by}
use Rattle.flow_roles.proofs.plays.play.Goals as goal

pub issue-requires-clause-whole : goal.issue-requires-clause-whole
issue-requires-clause-whole g c =
    issue_by (frames_of g.F.Named.name_of g.F.Held.parts g.F.Held.bytes_of (run_measure g.F.Of.Run.graph g.F.Of.Run.stack))
    (run_setting g.F.Of.Run.graph g.F.Of.Run.stack)
    (g.B.BoardCalls.shown c.args.board.now) c.args.op c.in-Issue.role c.in-Issue.frame c.in-Issue.is c.requires

pub put-requires-clause-of_job : goal.put-requires-clause-of_job
put-requires-clause-of_job g c =
    put_by (frames_of g.F.Named.name_of g.F.Held.parts g.F.Held.bytes_of (run_measure g.F.Of.Run.graph g.F.Of.Run.stack))
    (run_setting g.F.Of.Run.graph g.F.Of.Run.stack)
    (g.B.BoardCalls.shown c.args.board.now) c.args.op c.in-Put.role c.in-Put.done c.in-Put.is c.requires

pub saved-requires-clause-brings : goal.saved-requires-clause-brings
saved-requires-clause-brings g c =
    saved_by (frames_of g.F.Named.name_of g.F.Held.parts g.F.Held.bytes_of (run_measure g.F.Of.Run.graph g.F.Of.Run.stack))
    (run_setting g.F.Of.Run.graph g.F.Of.Run.stack)
    (g.B.BoardCalls.shown c.args.board.now) c.args.op c.in-Saved.role c.in-Saved.frame c.in-Saved.is c.requires
