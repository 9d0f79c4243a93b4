use Rattle.std.proofs.Common.{refl, length, inl, inr}
use Rattle.board_rules.specs.declared.answers.Load.TheVariants.{NotYet, OutOfMemory}
use Rattle.board_rules.specs.RunMeasures.{run_setting}
use Rattle.flow_roles.specs.Feeder.{parts_of}
use Rattle.flow_drain.proofs.Growth.{no-move}
use Rattle.flow_drain.proofs.Feeds.{load-same, loaded-holds, loaded-on, loaded-other, loaded-unfed, refused-idle, refused-on, refused-other, refused-unfed}
use Rattle.flow_drain.proofs.Feeds.{waits-by, ended-idle, ended-on, ended-fed, ended-still, same-idle}
use Rattle.flow_drain.proofs.working.feed_one.Goals as goal

pub issue_frame-requires-clause-loaded : goal.issue_frame-requires-clause-loaded
issue_frame-requires-clause-loaded g c =
    loaded-holds parts_of length (run_setting g.R.Run.graph g.R.Run.stack) (g.B.BoardCalls.shown c.args.board.now)
    (g.B.BoardCalls.shown c.load.new.self) c.args.role c.args.tick refl c.requires.role
    c.requires.idle c.in-Loaded.index c.in-Loaded.blank c.in-Loaded.ensures.gives c.in-Loaded.ensures.room

pub returns-in-Loaded-clause-moves : goal.returns-in-Loaded-clause-moves
returns-in-Loaded-clause-moves g c =
    loaded-on parts_of length (run_setting g.R.Run.graph g.R.Run.stack) (g.B.BoardCalls.shown c.args.board.now)
    (g.B.BoardCalls.shown c.load.new.self) c.args.role c.args.tick c.requires.role c.requires.idle (λ f. refl) c.in-Loaded.index c.in-Loaded.blank
    (g.B.BoardCalls.shown c.issue_frame.new.board) c.in-Loaded.ensures.gives (c.issue_frame.ensures.moves c.args.tick)

pub returns-in-Loaded-clause-fed : goal.returns-in-Loaded-clause-fed
returns-in-Loaded-clause-fed g c =
    λ same. absurd (loaded-other parts_of length (run_setting g.R.Run.graph g.R.Run.stack) (g.B.BoardCalls.shown c.args.board.now)
    (g.B.BoardCalls.shown c.load.new.self) c.args.role c.args.tick c.requires.role c.requires.idle (λ f. refl) c.in-Loaded.index c.in-Loaded.blank
    (g.B.BoardCalls.shown c.issue_frame.new.board) c.in-Loaded.ensures.gives (c.issue_frame.ensures.moves c.args.tick) same)

pub returns-in-Loaded-clause-still : goal.returns-in-Loaded-clause-still
returns-in-Loaded-clause-still g c =
    λ fed. absurd (loaded-unfed parts_of length (run_setting g.R.Run.graph g.R.Run.stack) (g.B.BoardCalls.shown c.args.board.now) (g.B.BoardCalls.shown
    c.load.new.self) c.args.role c.args.tick c.requires.role c.requires.idle c.in-Loaded.index c.in-Loaded.blank c.in-Loaded.ensures.gives fed)

pub returns-in-Ended-clause-idle : goal.returns-in-Ended-clause-idle
returns-in-Ended-clause-idle g c =
    ended-idle parts_of length (run_setting g.R.Run.graph g.R.Run.stack) (g.B.BoardCalls.shown c.args.board.now)
    (g.B.BoardCalls.shown c.load.new.self) c.args.role c.args.tick c.requires.role c.requires.idle
    (g.B.BoardCalls.shown c.close.new.self) c.close.result c.in-Ended.ensures.gives c.close.ensures.gives

pub returns-in-Ended-clause-moves : goal.returns-in-Ended-clause-moves
returns-in-Ended-clause-moves g c =
    ended-on parts_of length (run_setting g.R.Run.graph g.R.Run.stack) (g.B.BoardCalls.shown c.args.board.now)
    (g.B.BoardCalls.shown c.load.new.self) c.args.role c.args.tick c.requires.role c.requires.idle
    (g.B.BoardCalls.shown c.close.new.self) c.close.result c.in-Ended.ensures.gives c.close.ensures.gives

pub returns-in-Ended-clause-fed : goal.returns-in-Ended-clause-fed
returns-in-Ended-clause-fed g c =
    λ same. inl (ended-fed parts_of length (run_setting g.R.Run.graph g.R.Run.stack) (g.B.BoardCalls.shown c.args.board.now)
    (g.B.BoardCalls.shown c.load.new.self) c.args.role c.args.tick c.requires.role c.requires.idle
    (g.B.BoardCalls.shown c.close.new.self) c.close.result c.in-Ended.ensures.gives c.close.ensures.gives same)

pub returns-in-Ended-clause-still : goal.returns-in-Ended-clause-still
returns-in-Ended-clause-still g c =
    λ fed. ended-still parts_of length (run_setting g.R.Run.graph g.R.Run.stack) (g.B.BoardCalls.shown c.args.board.now)
    (g.B.BoardCalls.shown c.load.new.self) c.args.role c.args.tick c.requires.role c.requires.idle
    (g.B.BoardCalls.shown c.close.new.self) c.close.result c.in-Ended.ensures.gives c.close.ensures.gives fed

pub returns-in-Refused-clause-idle : goal.returns-in-Refused-clause-idle
returns-in-Refused-clause-idle g c =
    refused-idle parts_of length (run_setting g.R.Run.graph g.R.Run.stack) (g.B.BoardCalls.shown c.args.board.now)
    (g.B.BoardCalls.shown c.load.new.self) c.args.role c.args.tick c.requires.role c.requires.idle refl _ _ c.in-Refused.ensures.gives

pub returns-in-Refused-clause-moves : goal.returns-in-Refused-clause-moves
returns-in-Refused-clause-moves g c =
    refused-on parts_of length (run_setting g.R.Run.graph g.R.Run.stack) (g.B.BoardCalls.shown c.args.board.now)
    (g.B.BoardCalls.shown c.load.new.self) c.args.role c.args.tick c.requires.role c.requires.idle _ _ c.in-Refused.ensures.gives

pub returns-in-Refused-clause-fed : goal.returns-in-Refused-clause-fed
returns-in-Refused-clause-fed g c =
    λ same. absurd (refused-other parts_of length (run_setting g.R.Run.graph g.R.Run.stack) (g.B.BoardCalls.shown c.args.board.now)
    (g.B.BoardCalls.shown c.load.new.self) c.args.role c.args.tick c.requires.role c.requires.idle _ _ c.in-Refused.ensures.gives same)

pub returns-in-Refused-clause-still : goal.returns-in-Refused-clause-still
returns-in-Refused-clause-still g c =
    λ fed. absurd (refused-unfed parts_of length (run_setting g.R.Run.graph g.R.Run.stack) (g.B.BoardCalls.shown c.args.board.now)
    (g.B.BoardCalls.shown c.load.new.self) c.args.role c.args.tick c.requires.role c.requires.idle _ _ c.in-Refused.ensures.gives fed)

pub returns-in-NotYet-clause-idle : goal.returns-in-NotYet-clause-idle
returns-in-NotYet-clause-idle g c =
    same-idle (run_setting g.R.Run.graph g.R.Run.stack) (g.B.BoardCalls.shown c.args.board.now) (g.B.BoardCalls.shown c.load.new.self)
    (load-same parts_of length (run_setting g.R.Run.graph g.R.Run.stack) (g.B.BoardCalls.shown c.args.board.now)
    (g.B.BoardCalls.shown c.load.new.self) c.args.role c.args.tick NotYet refl c.in-NotYet.ensures.gives) c.requires.idle

pub returns-in-NotYet-clause-moves : goal.returns-in-NotYet-clause-moves
returns-in-NotYet-clause-moves g c =
    no-move (run_setting g.R.Run.graph g.R.Run.stack) c.args.tick (g.B.BoardCalls.shown c.args.board.now) (g.B.BoardCalls.shown c.load.new.self)
    (load-same parts_of length (run_setting g.R.Run.graph g.R.Run.stack) (g.B.BoardCalls.shown c.args.board.now)
    (g.B.BoardCalls.shown c.load.new.self) c.args.role c.args.tick NotYet refl c.in-NotYet.ensures.gives)

pub returns-in-NotYet-clause-still : goal.returns-in-NotYet-clause-still
returns-in-NotYet-clause-still g c =
    λ fed. load-same parts_of length (run_setting g.R.Run.graph g.R.Run.stack) (g.B.BoardCalls.shown c.args.board.now)
    (g.B.BoardCalls.shown c.load.new.self) c.args.role c.args.tick NotYet refl c.in-NotYet.ensures.gives

pub returns-in-OutOfMemory-clause-idle : goal.returns-in-OutOfMemory-clause-idle
returns-in-OutOfMemory-clause-idle g c =
    same-idle (run_setting g.R.Run.graph g.R.Run.stack) (g.B.BoardCalls.shown c.args.board.now) (g.B.BoardCalls.shown c.load.new.self)
    (load-same parts_of length (run_setting g.R.Run.graph g.R.Run.stack) (g.B.BoardCalls.shown c.args.board.now)
    (g.B.BoardCalls.shown c.load.new.self) c.args.role c.args.tick OutOfMemory refl c.in-OutOfMemory.ensures.gives) c.requires.idle

pub returns-in-OutOfMemory-clause-moves : goal.returns-in-OutOfMemory-clause-moves
returns-in-OutOfMemory-clause-moves g c =
    no-move (run_setting g.R.Run.graph g.R.Run.stack) c.args.tick (g.B.BoardCalls.shown c.args.board.now) (g.B.BoardCalls.shown c.load.new.self)
    (load-same parts_of length (run_setting g.R.Run.graph g.R.Run.stack) (g.B.BoardCalls.shown c.args.board.now)
    (g.B.BoardCalls.shown c.load.new.self) c.args.role c.args.tick OutOfMemory refl c.in-OutOfMemory.ensures.gives)

pub returns-in-OutOfMemory-clause-still : goal.returns-in-OutOfMemory-clause-still
returns-in-OutOfMemory-clause-still g c =
    λ fed. load-same parts_of length (run_setting g.R.Run.graph g.R.Run.stack) (g.B.BoardCalls.shown c.args.board.now)
    (g.B.BoardCalls.shown c.load.new.self) c.args.role c.args.tick OutOfMemory refl c.in-OutOfMemory.ensures.gives

pub returns-in-NotYet-clause-fed : goal.returns-in-NotYet-clause-fed
returns-in-NotYet-clause-fed g c =
    λ same. inr (waits-by parts_of length (run_setting g.R.Run.graph g.R.Run.stack) (g.B.BoardCalls.shown c.args.board.now)
    (g.B.BoardCalls.shown c.load.new.self) c.args.role c.args.tick c.requires.role c.requires.idle c.in-NotYet.ensures.gives)
