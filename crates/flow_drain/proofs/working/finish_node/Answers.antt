use Rattle.board_rules.specs.RunMeasures.{run_setting}
use Rattle.flow_drain.proofs.Rounds.{off-first, off-moves, off-still, off-on, off-empty, more-entries, node-moves, node-still, node-quiet}
use Rattle.flow_drain.proofs.Works.{settle-idle}
use Rattle.flow_drain.proofs.working.finish_node.Goals as goal

pub queue-init : goal.queue-init
queue-init g c =
    off-first (run_setting g.R.Run.graph g.R.Run.stack) c.args.node (g.B.BoardCalls.shown c.args.board.now) c.requires.idle

pub returns-in_err-work_once-clause-moves : goal.returns-in_err-work_once-clause-moves
returns-in_err-work_once-clause-moves g c =
    off-moves (run_setting g.R.Run.graph g.R.Run.stack) c.args.node (g.B.BoardCalls.shown c.args.board.now)
    (g.B.BoardCalls.shown c.queue.board) c.queue.invariant (g.B.BoardCalls.shown c.work_once.new.board) c.work_once.ensures.moves

pub returns-in_err-work_once-clause-still : goal.returns-in_err-work_once-clause-still
returns-in_err-work_once-clause-still g c =
    λ done. off-still (run_setting g.R.Run.graph g.R.Run.stack) c.args.node (g.B.BoardCalls.shown c.args.board.now)
    (g.B.BoardCalls.shown c.queue.board) c.queue.invariant (g.B.BoardCalls.shown c.work_once.new.board) c.work_once.ensures.still
    (off-empty (run_setting g.R.Run.graph g.R.Run.stack) c.args.node (g.B.BoardCalls.shown c.args.board.now) c.requires.idle done)

pub queue-smaller : goal.queue-smaller
queue-smaller g c =
    more-entries (run_setting g.R.Run.graph g.R.Run.stack) (g.B.BoardCalls.shown c.queue.board)
    (g.B.BoardCalls.shown c.work_once.new.board) c.work_once.ensures.legal (c.in_ok-work_once.ensures.some c.if-branch.true)

pub queue-preserved : goal.queue-preserved
queue-preserved g c =
    off-on (run_setting g.R.Run.graph g.R.Run.stack) c.args.node (g.B.BoardCalls.shown c.args.board.now) (g.B.BoardCalls.shown c.queue.board) c.queue.invariant
    (g.B.BoardCalls.shown c.work_once.new.board) c.in_ok-work_once.ensures.idle c.work_once.ensures.moves c.work_once.ensures.still

pub returns-clause-legal : goal.returns-clause-legal
returns-clause-legal g c =
    (settle-idle (run_setting g.R.Run.graph g.R.Run.stack) c.args.role c.args.node (g.B.BoardCalls.shown c.work_once.new.board)
    (g.B.BoardCalls.shown c.settle.new.self) c.settle.result c.requires.role c.requires.node c.in_ok-work_once.ensures.idle c.settle.ensures.gives).legal

pub returns-clause-idle : goal.returns-clause-idle
returns-clause-idle g c =
    settle-idle (run_setting g.R.Run.graph g.R.Run.stack) c.args.role c.args.node (g.B.BoardCalls.shown c.work_once.new.board)
    (g.B.BoardCalls.shown c.settle.new.self) c.settle.result c.requires.role c.requires.node c.in_ok-work_once.ensures.idle c.settle.ensures.gives

pub returns-clause-moves : goal.returns-clause-moves
returns-clause-moves g c =
    node-moves (run_setting g.R.Run.graph g.R.Run.stack) c.args.node c.args.role (g.B.BoardCalls.shown c.args.board.now)
    (g.B.BoardCalls.shown c.work_once.new.board) (g.B.BoardCalls.shown c.settle.new.self) c.settle.result c.requires.idle
    (off-on (run_setting g.R.Run.graph g.R.Run.stack) c.args.node (g.B.BoardCalls.shown c.args.board.now) (g.B.BoardCalls.shown c.queue.board) c.queue.invariant
    (g.B.BoardCalls.shown c.work_once.new.board) c.in_ok-work_once.ensures.idle c.work_once.ensures.moves c.work_once.ensures.still) c.requires.role
    (c.in_ok-work_once.ensures.none c.if-branch.false) c.settle.ensures.gives

pub returns-clause-quiet : goal.returns-clause-quiet
returns-clause-quiet g c =
    node-quiet (run_setting g.R.Run.graph g.R.Run.stack) c.args.node c.args.role (g.B.BoardCalls.shown c.args.board.now)
    (g.B.BoardCalls.shown c.work_once.new.board) (g.B.BoardCalls.shown c.settle.new.self) c.settle.result c.requires.idle
    (off-on (run_setting g.R.Run.graph g.R.Run.stack) c.args.node (g.B.BoardCalls.shown c.args.board.now) (g.B.BoardCalls.shown c.queue.board) c.queue.invariant
    (g.B.BoardCalls.shown c.work_once.new.board) c.in_ok-work_once.ensures.idle c.work_once.ensures.moves c.work_once.ensures.still) c.requires.role
    (c.in_ok-work_once.ensures.none c.if-branch.false) c.settle.ensures.gives

pub returns-clause-still : goal.returns-clause-still
returns-clause-still g c =
    node-still (run_setting g.R.Run.graph g.R.Run.stack) c.args.node c.args.role (g.B.BoardCalls.shown c.args.board.now)
    (g.B.BoardCalls.shown c.work_once.new.board) (g.B.BoardCalls.shown c.settle.new.self) c.settle.result c.requires.idle
    (off-on (run_setting g.R.Run.graph g.R.Run.stack) c.args.node (g.B.BoardCalls.shown c.args.board.now) (g.B.BoardCalls.shown c.queue.board) c.queue.invariant
    (g.B.BoardCalls.shown c.work_once.new.board) c.in_ok-work_once.ensures.idle c.work_once.ensures.moves c.work_once.ensures.still) c.requires.role
    (c.in_ok-work_once.ensures.none c.if-branch.false) c.settle.ensures.gives
