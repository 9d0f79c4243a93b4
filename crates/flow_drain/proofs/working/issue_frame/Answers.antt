use Rattle.std.proofs.Common.{length}
use Rattle.board_rules.specs.RunMeasures.{run_setting}
use Rattle.flow_roles.specs.Feeder.{name_of}
use Rattle.flow_roles.proofs.Results.{frame-index, frame-room}
use Rattle.flow_drain.proofs.Feeds.{issue-taken, issue-idle, issue-moves, whole-frame}
use Rattle.flow_drain.proofs.working.issue_frame.Goals as goal

pub frame_on-frame-requires-clause-frame : goal.frame_on-frame-requires-clause-frame
frame_on-frame-requires-clause-frame g c = frame-index g.R.Run.graph g.R.Run.stack c.args.stack.now c.args.index c.requires.stack c.requires.loaded.there

pub frame_on-frame-requires-clause-room : goal.frame_on-frame-requires-clause-room
frame_on-frame-requires-clause-room g c = frame-room g.R.Run.graph g.R.Run.stack c.args.stack.now (length c.args.blank) c.requires.stack c.requires.loaded.room

pub issue-requires-clause-whole : goal.issue-requires-clause-whole
issue-requires-clause-whole g c =
    whole-frame (run_setting g.R.Run.graph g.R.Run.stack) (g.B.BoardCalls.shown c.args.board.now) c.args.role c.args.index
    (length c.args.blank) c.requires.role c.requires.loaded
    c.frame_on-frame.result c.frame_on-frame.ensures.parts

pub unreachable-requires : goal.unreachable-requires
unreachable-requires g c =
    issue-taken (run_setting g.R.Run.graph g.R.Run.stack) (g.B.BoardCalls.shown c.args.board.now) c.args.role c.args.index
    (length c.args.blank) c.requires.role c.requires.loaded
    (Unit {0}) name_of c.frame_on-frame.result _ c.in_default.field-0 c.frame_on-frame.ensures.name c.in_default.ensures.gives

pub returns-clause-idle : goal.returns-clause-idle
returns-clause-idle g c =
    issue-idle (run_setting g.R.Run.graph g.R.Run.stack) (g.B.BoardCalls.shown c.args.board.now) c.args.role c.args.index
    (length c.args.blank) c.requires.role c.requires.loaded
    name_of c.frame_on-frame.result _ c.in-Ok.field-0 c.in-Ok.ensures.gives

pub returns-clause-moves : goal.returns-clause-moves
returns-clause-moves g c = λ tick.
    issue-moves (run_setting g.R.Run.graph g.R.Run.stack) (g.B.BoardCalls.shown c.args.board.now) c.args.role c.args.index
    (length c.args.blank) c.requires.role c.requires.loaded
    name_of c.frame_on-frame.result _ c.in-Ok.field-0 tick c.in-Ok.ensures.gives
