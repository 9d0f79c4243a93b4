use Rattle.std.proofs.Common.{refl}
use Rattle.board_rules.specs.RunMeasures.{run_setting}
use Rattle.flow_drain.proofs.Growth.{no-move}
use Rattle.flow_drain.proofs.Works.{may-put, put-taken, put-idle, put-moves}
use Rattle.flow_drain.proofs.working.work_on.Goals as goal

pub put-requires-clause-of_job : goal.put-requires-clause-of_job
put-requires-clause-of_job g c =
    may-put g.R.Run.graph g.R.Run.stack
    (g.B.BoardCalls.shown c.args.board.now) c.args.role c.args.node c.requires.role c.args.input c.args.blank c.requires.job c.in-Ok.done c.in-Ok.ensures.done

pub unreachable-requires : goal.unreachable-requires
unreachable-requires g c =
    put-taken g.R.Run.graph g.R.Run.stack (g.B.BoardCalls.shown c.args.board.now) c.args.role c.args.node c.requires.role c.args.input c.args.blank
    c.requires.job c.in-Ok.done c.in-Ok.ensures.done (Unit {0}) _ c.in_default-put.field-0 c.in_default-put.ensures.gives

pub returns-in_default-clause-moves : goal.returns-in_default-clause-moves
returns-in_default-clause-moves g c =
    λ tick. no-move (run_setting g.R.Run.graph g.R.Run.stack) tick (g.B.BoardCalls.shown c.args.board.now) (g.B.BoardCalls.shown c.args.board.now) refl

pub returns-clause-legal : goal.returns-clause-legal
returns-clause-legal g c =
    (put-idle g.R.Run.graph g.R.Run.stack (g.B.BoardCalls.shown c.args.board.now) c.args.role c.args.node c.requires.role c.args.input c.args.blank
    c.requires.job c.in-Ok.done c.in-Ok.ensures.done _ c.in-Ok-put.field-0 c.in-Ok-put.ensures.gives).legal

pub returns-clause-idle : goal.returns-clause-idle
returns-clause-idle g c =
    put-idle g.R.Run.graph g.R.Run.stack (g.B.BoardCalls.shown c.args.board.now) c.args.role c.args.node c.requires.role c.args.input c.args.blank
    c.requires.job c.in-Ok.done c.in-Ok.ensures.done _ c.in-Ok-put.field-0 c.in-Ok-put.ensures.gives

pub returns-clause-moves : goal.returns-clause-moves
returns-clause-moves g c =
    λ tick. put-moves g.R.Run.graph g.R.Run.stack (g.B.BoardCalls.shown c.args.board.now) c.args.role c.args.node c.requires.role c.args.input c.args.blank
    c.requires.job c.in-Ok.done c.in-Ok.ensures.done _ c.in-Ok-put.field-0 tick c.in-Ok-put.ensures.gives
