use Rattle.board_rules.specs.RunMeasures.{run_setting}
use Rattle.flow_drain.proofs.Rounds.{below-first, below-moves, below-still, below-on, counted-node}
use Rattle.flow_drain.proofs.working.work_round.Goals as goal

pub loop-node-init : goal.loop-node-init
loop-node-init g c =
    below-first (run_setting g.R.Run.graph g.R.Run.stack) (g.B.BoardCalls.shown c.args.board.now) c.requires.idle

pub finish_node-requires-clause-node : goal.finish_node-requires-clause-node
finish_node-requires-clause-node g c =
    counted-node g.R.Run.graph g.R.Run.stack c.args.plan.now c.as_slice.result.now c.loop-node.node c.requires.plan c.as_slice.ensures
    c.loop-node.auto.node c.loop-node-test.true

pub returns-in_err-finish_node-clause-moves : goal.returns-in_err-finish_node-clause-moves
returns-in_err-finish_node-clause-moves g c =
    below-moves (run_setting g.R.Run.graph g.R.Run.stack) c.loop-node.node (g.B.BoardCalls.shown c.args.board.now) (g.B.BoardCalls.shown c.loop-node.board)
    (g.B.BoardCalls.shown c.finish_node.new.board) c.loop-node.invariant c.finish_node.ensures.moves

pub returns-in_err-finish_node-clause-still : goal.returns-in_err-finish_node-clause-still
returns-in_err-finish_node-clause-still g c =
    below-still (run_setting g.R.Run.graph g.R.Run.stack) c.loop-node.node (g.B.BoardCalls.shown c.args.board.now) (g.B.BoardCalls.shown c.loop-node.board)
    (g.B.BoardCalls.shown c.finish_node.new.board) c.loop-node.invariant c.finish_node.ensures.moves (counted-node g.R.Run.graph g.R.Run.stack c.args.plan.now
    c.as_slice.result.now c.loop-node.node c.requires.plan c.as_slice.ensures c.loop-node.auto.node c.loop-node-test.true) c.finish_node.ensures.still

pub loop-node-preserved : goal.loop-node-preserved
loop-node-preserved g c =
    below-on (run_setting g.R.Run.graph g.R.Run.stack) c.loop-node.node (g.B.BoardCalls.shown c.args.board.now) (g.B.BoardCalls.shown c.loop-node.board)
    (g.B.BoardCalls.shown c.finish_node.new.board) c.loop-node.invariant c.finish_node.ensures.moves c.in_ok-finish_node.ensures.idle
    (counted-node g.R.Run.graph g.R.Run.stack c.args.plan.now c.as_slice.result.now c.loop-node.node c.requires.plan c.as_slice.ensures c.loop-node.auto.node
    c.loop-node-test.true) c.in_ok-finish_node.ensures.quiet c.finish_node.ensures.still
