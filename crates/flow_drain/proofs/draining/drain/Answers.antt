use Rattle.std.proofs.Common.{◌≡◌, ap, sym, ◌∙◌, length}
use Rattle.board_rules.specs.States.{past}
use Rattle.board_rules.specs.RunMeasures.{run_setting}
use Rattle.flow_roles.specs.Feeder.{name_of}
use Rattle.flow_drain.specs.Drains.{taken_back}
use Rattle.flow_drain.proofs.Growth.{no-move, grown, begins-on}
use Rattle.flow_drain.proofs.TakingBack.{taken-none, back-begins}
use Rattle.flow_drain.proofs.Rounds.{more-entries}
use Rattle.flow_drain.proofs.Quiet.{finished-drained, drains-first, fed-moves, fed-still, round-moves, round-still, round-on, round-longer, round-same}
use Rattle.flow_drain.proofs.Quiet.{round-drained, still-from}
use Rattle.flow_drain.proofs.draining.drain.Goals as goal

pub returns-then-finished-clause-done : goal.returns-then-finished-clause-done
returns-then-finished-clause-done g c =
    (finished-drained (run_setting g.R.Run.graph g.R.Run.stack) (past (g.B.BoardCalls.shown c.args.board.now)) c.finished.ensures.legal
    (sym c.finished.ensures.finished ∙ c.if-finished.true))

pub returns-then-finished-clause-moves : goal.returns-then-finished-clause-moves
returns-then-finished-clause-moves g c =
    no-move (run_setting g.R.Run.graph g.R.Run.stack) c.args.tick (taken_back name_of (run_setting g.R.Run.graph g.R.Run.stack) 0 c.args.ends.items
    (g.B.BoardCalls.shown c.args.board.now)) (g.B.BoardCalls.shown c.args.board.now) (sym (taken-none name_of (run_setting g.R.Run.graph g.R.Run.stack) 0
    c.args.ends.items (g.B.BoardCalls.shown c.args.board.now) (finished-drained (run_setting g.R.Run.graph g.R.Run.stack)
    (past (g.B.BoardCalls.shown c.args.board.now)) c.finished.ensures.legal (sym c.finished.ensures.finished ∙ c.if-finished.true)).free))

pub rounds-init : goal.rounds-init
rounds-init g c =
    drains-first (run_setting g.R.Run.graph g.R.Run.stack) c.args.tick
    (taken_back name_of (run_setting g.R.Run.graph g.R.Run.stack) 0 c.args.ends.items (g.B.BoardCalls.shown c.args.board.now))
    (g.B.BoardCalls.shown c.take_back_all-role.new.board) c.take_back_all-role.ensures.board c.take_back_all-role.ensures.idle

pub returns-in_err-feed_one-clause-moves : goal.returns-in_err-feed_one-clause-moves
returns-in_err-feed_one-clause-moves g c =
    fed-moves (run_setting g.R.Run.graph g.R.Run.stack) c.args.tick
    (taken_back name_of (run_setting g.R.Run.graph g.R.Run.stack) 0 c.args.ends.items (g.B.BoardCalls.shown c.args.board.now))
    (g.B.BoardCalls.shown c.rounds.board) (g.B.BoardCalls.shown c.feed_one.new.board) c.rounds.invariant c.feed_one.ensures.moves c.feed_one.ensures.still

pub returns-in_err-feed_one-clause-still : goal.returns-in_err-feed_one-clause-still
returns-in_err-feed_one-clause-still g c =
    λ drained. still-from name_of (run_setting g.R.Run.graph g.R.Run.stack) c.args.ends.items (g.B.BoardCalls.shown c.args.board.now) drained _
    (fed-still (run_setting g.R.Run.graph g.R.Run.stack) c.args.tick
    (taken_back name_of (run_setting g.R.Run.graph g.R.Run.stack) 0 c.args.ends.items (g.B.BoardCalls.shown c.args.board.now))
    (g.B.BoardCalls.shown c.rounds.board) (g.B.BoardCalls.shown c.feed_one.new.board) c.rounds.invariant c.feed_one.ensures.moves c.feed_one.ensures.still)

pub returns-in_err-work_round-clause-moves : goal.returns-in_err-work_round-clause-moves
returns-in_err-work_round-clause-moves g c =
    round-moves (run_setting g.R.Run.graph g.R.Run.stack) c.args.tick (taken_back name_of (run_setting g.R.Run.graph g.R.Run.stack) 0 c.args.ends.items
    (g.B.BoardCalls.shown c.args.board.now)) (g.B.BoardCalls.shown c.rounds.board) (g.B.BoardCalls.shown c.feed_one.new.board) c.rounds.invariant
    c.feed_one.ensures.moves c.feed_one.ensures.still (g.B.BoardCalls.shown c.work_round.new.board) c.work_round.ensures.moves c.work_round.ensures.still

pub returns-in_err-work_round-clause-still : goal.returns-in_err-work_round-clause-still
returns-in_err-work_round-clause-still g c =
    λ drained. still-from name_of (run_setting g.R.Run.graph g.R.Run.stack) c.args.ends.items (g.B.BoardCalls.shown c.args.board.now) drained _
    (round-still (run_setting g.R.Run.graph g.R.Run.stack) c.args.tick (taken_back name_of (run_setting g.R.Run.graph g.R.Run.stack) 0 c.args.ends.items
    (g.B.BoardCalls.shown c.args.board.now)) (g.B.BoardCalls.shown c.rounds.board) (g.B.BoardCalls.shown c.feed_one.new.board) c.rounds.invariant
    c.feed_one.ensures.moves c.feed_one.ensures.still (g.B.BoardCalls.shown c.work_round.new.board) c.work_round.ensures.moves c.work_round.ensures.still)

pub returns-then-progress-before-clause-done : goal.returns-then-progress-before-clause-done
returns-then-progress-before-clause-done g c =
    let few : length (past (g.B.BoardCalls.shown c.work_round.new.board)) ≡ length (past (g.B.BoardCalls.shown c.rounds.board)) =
    sym (ap (λ p. p.entries) c.progress.ensures) ∙ (c.if-progress-before.true ∙ ap (λ p. p.entries) c.progress-before.ensures) in
    let same =
    round-same (run_setting g.R.Run.graph g.R.Run.stack) c.args.tick (taken_back name_of (run_setting g.R.Run.graph g.R.Run.stack) 0 c.args.ends.items
    (g.B.BoardCalls.shown c.args.board.now)) (g.B.BoardCalls.shown c.rounds.board) (g.B.BoardCalls.shown c.feed_one.new.board) c.rounds.invariant
    c.feed_one.ensures.moves c.feed_one.ensures.still (g.B.BoardCalls.shown c.work_round.new.board) c.work_round.ensures.moves c.work_round.ensures.still few in
    round-drained g.R.Run.graph g.R.Run.stack (g.B.BoardCalls.shown c.rounds.board) (g.B.BoardCalls.shown c.feed_one.new.board)
    (g.B.BoardCalls.shown c.work_round.new.board) c.requires.graph c.rounds.invariant.idle same.1 same.0
    c.in_ok-feed_one.ensures.fed c.in_ok-work_round.ensures.quiet

pub returns-then-progress-before-clause-moves : goal.returns-then-progress-before-clause-moves
returns-then-progress-before-clause-moves g c =
    round-moves (run_setting g.R.Run.graph g.R.Run.stack) c.args.tick (taken_back name_of (run_setting g.R.Run.graph g.R.Run.stack) 0 c.args.ends.items
    (g.B.BoardCalls.shown c.args.board.now)) (g.B.BoardCalls.shown c.rounds.board) (g.B.BoardCalls.shown c.feed_one.new.board) c.rounds.invariant
    c.feed_one.ensures.moves c.feed_one.ensures.still (g.B.BoardCalls.shown c.work_round.new.board) c.work_round.ensures.moves c.work_round.ensures.still

pub returns-then-progress-before-clause-still : goal.returns-then-progress-before-clause-still
returns-then-progress-before-clause-still g c =
    λ drained. still-from name_of (run_setting g.R.Run.graph g.R.Run.stack) c.args.ends.items (g.B.BoardCalls.shown c.args.board.now) drained _
    (round-still (run_setting g.R.Run.graph g.R.Run.stack) c.args.tick (taken_back name_of (run_setting g.R.Run.graph g.R.Run.stack) 0 c.args.ends.items
    (g.B.BoardCalls.shown c.args.board.now)) (g.B.BoardCalls.shown c.rounds.board) (g.B.BoardCalls.shown c.feed_one.new.board) c.rounds.invariant
    c.feed_one.ensures.moves c.feed_one.ensures.still (g.B.BoardCalls.shown c.work_round.new.board) c.work_round.ensures.moves c.work_round.ensures.still)

pub rounds-smaller : goal.rounds-smaller
rounds-smaller g c =
    more-entries (run_setting g.R.Run.graph g.R.Run.stack) (g.B.BoardCalls.shown c.rounds.board)
    (g.B.BoardCalls.shown c.work_round.new.board) c.work_round.ensures.legal (round-longer (run_setting g.R.Run.graph g.R.Run.stack) c.args.tick
    (taken_back name_of (run_setting g.R.Run.graph g.R.Run.stack) 0 c.args.ends.items (g.B.BoardCalls.shown c.args.board.now))
    (g.B.BoardCalls.shown c.rounds.board) (g.B.BoardCalls.shown c.feed_one.new.board) c.rounds.invariant c.feed_one.ensures.moves c.feed_one.ensures.still
    (g.B.BoardCalls.shown c.work_round.new.board) c.work_round.ensures.moves c.work_round.ensures.still
    (λ few. c.if-progress-before.false (ap (λ p. p.entries) c.progress.ensures ∙ (few ∙ sym (ap (λ p. p.entries) c.progress-before.ensures)))))

pub rounds-preserved : goal.rounds-preserved
rounds-preserved g c =
    round-on (run_setting g.R.Run.graph g.R.Run.stack) c.args.tick
    (taken_back name_of (run_setting g.R.Run.graph g.R.Run.stack) 0 c.args.ends.items (g.B.BoardCalls.shown c.args.board.now))
    (g.B.BoardCalls.shown c.rounds.board) (g.B.BoardCalls.shown c.feed_one.new.board) c.rounds.invariant c.feed_one.ensures.moves c.feed_one.ensures.still
    (g.B.BoardCalls.shown c.work_round.new.board) c.work_round.ensures.moves c.work_round.ensures.still c.in_ok-work_round.ensures.idle

pub returns-in_err-feed_one-clause-begins : goal.returns-in_err-feed_one-clause-begins
returns-in_err-feed_one-clause-begins g c =
    begins-on (g.B.BoardCalls.shown c.args.board.now) (taken_back name_of (run_setting g.R.Run.graph g.R.Run.stack) 0 c.args.ends.items
    (g.B.BoardCalls.shown c.args.board.now)) (g.B.BoardCalls.shown c.feed_one.new.board)
    (back-begins name_of (run_setting g.R.Run.graph g.R.Run.stack) 0 c.args.ends.items (g.B.BoardCalls.shown c.args.board.now))
    (grown (run_setting g.R.Run.graph g.R.Run.stack) c.args.tick (taken_back name_of (run_setting g.R.Run.graph g.R.Run.stack) 0 c.args.ends.items
    (g.B.BoardCalls.shown c.args.board.now)) (g.B.BoardCalls.shown c.feed_one.new.board) (fed-moves (run_setting g.R.Run.graph g.R.Run.stack) c.args.tick
    (taken_back name_of (run_setting g.R.Run.graph g.R.Run.stack) 0 c.args.ends.items (g.B.BoardCalls.shown c.args.board.now))
    (g.B.BoardCalls.shown c.rounds.board) (g.B.BoardCalls.shown c.feed_one.new.board) c.rounds.invariant c.feed_one.ensures.moves c.feed_one.ensures.still))

pub returns-in_err-work_round-clause-begins : goal.returns-in_err-work_round-clause-begins
returns-in_err-work_round-clause-begins g c =
    begins-on (g.B.BoardCalls.shown c.args.board.now) (taken_back name_of (run_setting g.R.Run.graph g.R.Run.stack) 0 c.args.ends.items
    (g.B.BoardCalls.shown c.args.board.now)) (g.B.BoardCalls.shown c.work_round.new.board)
    (back-begins name_of (run_setting g.R.Run.graph g.R.Run.stack) 0 c.args.ends.items (g.B.BoardCalls.shown c.args.board.now))
    (grown (run_setting g.R.Run.graph g.R.Run.stack) c.args.tick (taken_back name_of (run_setting g.R.Run.graph g.R.Run.stack) 0 c.args.ends.items
    (g.B.BoardCalls.shown c.args.board.now)) (g.B.BoardCalls.shown c.work_round.new.board) (round-moves (run_setting g.R.Run.graph g.R.Run.stack) c.args.tick
    (taken_back name_of (run_setting g.R.Run.graph g.R.Run.stack) 0 c.args.ends.items (g.B.BoardCalls.shown c.args.board.now))
    (g.B.BoardCalls.shown c.rounds.board) (g.B.BoardCalls.shown c.feed_one.new.board) c.rounds.invariant c.feed_one.ensures.moves c.feed_one.ensures.still
    (g.B.BoardCalls.shown c.work_round.new.board) c.work_round.ensures.moves c.work_round.ensures.still))

pub returns-then-progress-before-clause-begins : goal.returns-then-progress-before-clause-begins
returns-then-progress-before-clause-begins g c =
    begins-on (g.B.BoardCalls.shown c.args.board.now) (taken_back name_of (run_setting g.R.Run.graph g.R.Run.stack) 0 c.args.ends.items
    (g.B.BoardCalls.shown c.args.board.now)) (g.B.BoardCalls.shown c.work_round.new.board)
    (back-begins name_of (run_setting g.R.Run.graph g.R.Run.stack) 0 c.args.ends.items (g.B.BoardCalls.shown c.args.board.now))
    (grown (run_setting g.R.Run.graph g.R.Run.stack) c.args.tick (taken_back name_of (run_setting g.R.Run.graph g.R.Run.stack) 0 c.args.ends.items
    (g.B.BoardCalls.shown c.args.board.now)) (g.B.BoardCalls.shown c.work_round.new.board) (round-moves (run_setting g.R.Run.graph g.R.Run.stack) c.args.tick
    (taken_back name_of (run_setting g.R.Run.graph g.R.Run.stack) 0 c.args.ends.items (g.B.BoardCalls.shown c.args.board.now))
    (g.B.BoardCalls.shown c.rounds.board) (g.B.BoardCalls.shown c.feed_one.new.board) c.rounds.invariant c.feed_one.ensures.moves c.feed_one.ensures.still
    (g.B.BoardCalls.shown c.work_round.new.board) c.work_round.ensures.moves c.work_round.ensures.still))
