use Rattle.std.proofs.Common.{refl, length, arith, ap, ◌∙◌}
use Rattle.board_rules.specs.declared.answers.Take.TheVariants.{Idle, Ended, OutOfMemory}
use Rattle.board_rules.specs.States.{past}
use Rattle.board_rules.specs.RunMeasures.{run_setting}
use Rattle.flow_journal.specs.Queued.{queued}
use Rattle.flow_roles.specs.Feeder.{name_of, parts_of}
use Rattle.flow_drain.proofs.Growth.{no-move, moves-on, moves-longer}
use Rattle.flow_drain.proofs.Works.{node-sound, take-left, take-same, take-ended, take-idle, take-next, none-next, has-work, job-moves, job-longer}
use Rattle.flow_drain.proofs.Works.{drop-idle, drop-moves, drop-longer, drop-next}
use Rattle.flow_drain.proofs.working.work_once.Goals as goal

pub work_on-requires-clause-job : goal.work_on-requires-clause-job
work_on-requires-clause-job g c =
    has-work _ g.R.Run.graph g.R.Run.stack (g.B.BoardCalls.shown c.args.board.now) (g.B.BoardCalls.shown c.take.new.self) c.args.role c.args.node c.in-Job.node
    c.requires.graph c.requires.node c.requires.role c.requires.idle c.in-Job.input c.in-Job.blank c.in-Job.ensures.gives c.in-Job.ensures.lent

pub returns-in_err-work_on-in-Job-clause-moves : goal.returns-in_err-work_on-in-Job-clause-moves
returns-in_err-work_on-in-Job-clause-moves g c =
    λ tick. moves-on (run_setting g.R.Run.graph g.R.Run.stack) tick (g.B.BoardCalls.shown c.args.board.now) (g.B.BoardCalls.shown c.take.new.self)
    (g.B.BoardCalls.shown c.work_on.new.board) (job-moves _ g.R.Run.graph g.R.Run.stack (g.B.BoardCalls.shown c.args.board.now)
    (g.B.BoardCalls.shown c.take.new.self) c.args.role c.args.node c.in-Job.node c.requires.graph c.requires.node c.requires.role c.requires.idle c.in-Job.input
    c.in-Job.blank c.in-Job.ensures.gives tick) (c.work_on.ensures.moves tick)

pub returns-in_err-work_on-in-Job-clause-still : goal.returns-in_err-work_on-in-Job-clause-still
returns-in_err-work_on-in-Job-clause-still g c =
    λ none. absurd (none-next c.in-Job.input.name _ none (take-next _ name_of parts_of length (run_setting g.R.Run.graph g.R.Run.stack)
    (g.B.BoardCalls.shown c.args.board.now) (g.B.BoardCalls.shown c.take.new.self) c.args.role c.args.node c.requires.role c.requires.idle c.in-Job.node
    c.in-Job.input c.in-Job.blank c.in-Job.ensures.gives))

pub returns-in_ok-work_on-in-Job-clause-moves : goal.returns-in_ok-work_on-in-Job-clause-moves
returns-in_ok-work_on-in-Job-clause-moves g c =
    λ tick. moves-on (run_setting g.R.Run.graph g.R.Run.stack) tick (g.B.BoardCalls.shown c.args.board.now) (g.B.BoardCalls.shown c.take.new.self)
    (g.B.BoardCalls.shown c.work_on.new.board) (job-moves _ g.R.Run.graph g.R.Run.stack (g.B.BoardCalls.shown c.args.board.now)
    (g.B.BoardCalls.shown c.take.new.self) c.args.role c.args.node c.in-Job.node c.requires.graph c.requires.node c.requires.role c.requires.idle c.in-Job.input
    c.in-Job.blank c.in-Job.ensures.gives tick) (c.work_on.ensures.moves tick)

pub returns-in_ok-work_on-in-Job-clause-still : goal.returns-in_ok-work_on-in-Job-clause-still
returns-in_ok-work_on-in-Job-clause-still g c =
    λ none. absurd (none-next c.in-Job.input.name _ none (take-next _ name_of parts_of length (run_setting g.R.Run.graph g.R.Run.stack)
    (g.B.BoardCalls.shown c.args.board.now) (g.B.BoardCalls.shown c.take.new.self) c.args.role c.args.node c.requires.role c.requires.idle c.in-Job.node
    c.in-Job.input c.in-Job.blank c.in-Job.ensures.gives))

pub returns-in_ok-work_on-in-Job-clause-some : goal.returns-in_ok-work_on-in-Job-clause-some
returns-in_ok-work_on-in-Job-clause-some g c =
    λ some. omega (
      arith,
      job-longer _ g.R.Run.graph g.R.Run.stack (g.B.BoardCalls.shown c.args.board.now) (g.B.BoardCalls.shown c.take.new.self) c.args.role c.args.node
          c.in-Job.node c.requires.graph c.requires.node c.requires.role c.requires.idle c.in-Job.input c.in-Job.blank c.in-Job.ensures.gives,
      moves-longer (run_setting g.R.Run.graph g.R.Run.stack) 0 (g.B.BoardCalls.shown c.take.new.self)
          (g.B.BoardCalls.shown c.work_on.new.board) (c.work_on.ensures.moves 0),
    )

pub returns-in-PoolDrop-clause-legal : goal.returns-in-PoolDrop-clause-legal
returns-in-PoolDrop-clause-legal g c =
    (drop-idle _ g.R.Run.graph g.R.Run.stack (g.B.BoardCalls.shown c.args.board.now)
    (g.B.BoardCalls.shown c.take.new.self) c.args.role c.args.node _ _ c.requires.node c.requires.role c.requires.idle c.in-PoolDrop.ensures.gives).legal

pub returns-in-PoolDrop-clause-idle : goal.returns-in-PoolDrop-clause-idle
returns-in-PoolDrop-clause-idle g c =
    drop-idle _ g.R.Run.graph g.R.Run.stack (g.B.BoardCalls.shown c.args.board.now)
    (g.B.BoardCalls.shown c.take.new.self) c.args.role c.args.node _ _ c.requires.node c.requires.role c.requires.idle c.in-PoolDrop.ensures.gives

pub returns-in-PoolDrop-clause-moves : goal.returns-in-PoolDrop-clause-moves
returns-in-PoolDrop-clause-moves g c =
    drop-moves _ g.R.Run.graph g.R.Run.stack (g.B.BoardCalls.shown c.args.board.now)
    (g.B.BoardCalls.shown c.take.new.self) c.args.role c.args.node _ _ c.requires.node c.requires.role c.requires.idle c.in-PoolDrop.ensures.gives

pub returns-in-PoolDrop-clause-some : goal.returns-in-PoolDrop-clause-some
returns-in-PoolDrop-clause-some g c =
    λ some. drop-longer _ g.R.Run.graph g.R.Run.stack (g.B.BoardCalls.shown c.args.board.now)
    (g.B.BoardCalls.shown c.take.new.self) c.args.role c.args.node _ _ c.requires.node c.requires.role c.requires.idle c.in-PoolDrop.ensures.gives

pub returns-in-PoolDrop-clause-still : goal.returns-in-PoolDrop-clause-still
returns-in-PoolDrop-clause-still g c =
    λ none. absurd (drop-next _ g.R.Run.graph g.R.Run.stack (g.B.BoardCalls.shown c.args.board.now)
    (g.B.BoardCalls.shown c.take.new.self) c.args.role c.args.node _ _ c.requires.node c.requires.role c.requires.idle c.in-PoolDrop.ensures.gives none)

pub returns-in-Idle-clause-moves : goal.returns-in-Idle-clause-moves
returns-in-Idle-clause-moves g c =
    λ tick. no-move (run_setting g.R.Run.graph g.R.Run.stack) tick (g.B.BoardCalls.shown c.args.board.now) (g.B.BoardCalls.shown c.take.new.self)
    (take-same _ name_of parts_of length (run_setting g.R.Run.graph g.R.Run.stack) (g.B.BoardCalls.shown c.args.board.now)
    (g.B.BoardCalls.shown c.take.new.self) c.args.role c.args.node c.requires.role c.requires.idle Idle refl c.in-Idle.ensures.gives)

pub returns-in-Idle-clause-none : goal.returns-in-Idle-clause-none
returns-in-Idle-clause-none g c =
    λ none. ap (λ b. queued c.args.node (past b))
    (take-same _ name_of parts_of length (run_setting g.R.Run.graph g.R.Run.stack) (g.B.BoardCalls.shown c.args.board.now)
    (g.B.BoardCalls.shown c.take.new.self) c.args.role c.args.node c.requires.role c.requires.idle Idle refl c.in-Idle.ensures.gives)
    ∙ take-idle _ name_of parts_of length (run_setting g.R.Run.graph g.R.Run.stack) (g.B.BoardCalls.shown c.args.board.now)
    (g.B.BoardCalls.shown c.take.new.self) c.args.role c.args.node c.requires.role c.requires.idle
    (node-sound g.R.Run.graph g.R.Run.stack c.args.node c.requires.graph c.requires.node) c.in-Idle.ensures.gives

pub returns-in-Ended-clause-moves : goal.returns-in-Ended-clause-moves
returns-in-Ended-clause-moves g c =
    λ tick. no-move (run_setting g.R.Run.graph g.R.Run.stack) tick (g.B.BoardCalls.shown c.args.board.now) (g.B.BoardCalls.shown c.take.new.self)
    (take-same _ name_of parts_of length (run_setting g.R.Run.graph g.R.Run.stack) (g.B.BoardCalls.shown c.args.board.now)
    (g.B.BoardCalls.shown c.take.new.self) c.args.role c.args.node c.requires.role c.requires.idle Ended refl c.in-Ended.ensures.gives)

pub returns-in-Ended-clause-none : goal.returns-in-Ended-clause-none
returns-in-Ended-clause-none g c =
    λ none. ap (λ b. queued c.args.node (past b))
    (take-same _ name_of parts_of length (run_setting g.R.Run.graph g.R.Run.stack) (g.B.BoardCalls.shown c.args.board.now)
    (g.B.BoardCalls.shown c.take.new.self) c.args.role c.args.node c.requires.role c.requires.idle Ended refl c.in-Ended.ensures.gives)
    ∙ take-ended _ name_of parts_of length (run_setting g.R.Run.graph g.R.Run.stack) (g.B.BoardCalls.shown c.args.board.now)
    (g.B.BoardCalls.shown c.take.new.self) c.args.role c.args.node c.requires.role c.requires.idle c.in-Ended.ensures.gives

pub returns-in-OutOfMemory-clause-moves : goal.returns-in-OutOfMemory-clause-moves
returns-in-OutOfMemory-clause-moves g c =
    λ tick. no-move (run_setting g.R.Run.graph g.R.Run.stack) tick (g.B.BoardCalls.shown c.args.board.now) (g.B.BoardCalls.shown c.take.new.self)
    (take-same _ name_of parts_of length (run_setting g.R.Run.graph g.R.Run.stack) (g.B.BoardCalls.shown c.args.board.now)
    (g.B.BoardCalls.shown c.take.new.self) c.args.role c.args.node c.requires.role c.requires.idle OutOfMemory refl c.in-OutOfMemory.ensures.gives)

pub unreachable-requires : goal.unreachable-requires
unreachable-requires g c =
    take-left _ name_of parts_of length (run_setting g.R.Run.graph g.R.Run.stack) (g.B.BoardCalls.shown c.args.board.now)
    (g.B.BoardCalls.shown c.take.new.self) c.args.role c.args.node c.requires.role c.requires.idle c.in-Left.ensures.gives
