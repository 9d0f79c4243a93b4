use Rattle.std.proofs.Common.{length}
use Rattle.board_rules.specs.RunMeasures.{run_setting}
use Rattle.flow_roles.specs.Feeder.{name_of}
use Rattle.flow_roles.proofs.FeederCalls.{issue-goes}
use Rattle.flow_roles.proofs.Results.{frame-room}
use Rattle.board_cases.proofs.feeding.issue_frame.Goals as goal

pub frame_on-frame-requires-clause-room : goal.frame_on-frame-requires-clause-room
frame_on-frame-requires-clause-room g c = frame-room g.R.Run.graph g.R.Run.stack c.args.stack.now (length c.args.blank) c.requires.stack c.requires.loaded.room

pub returns-clause-issued : goal.returns-clause-issued
returns-clause-issued g c =
    let s = run_setting g.R.Run.graph g.R.Run.stack in
    issue-goes name_of s c.args.index (length c.args.blank) c.frame_on-frame.result c.in-Ok.field-0 _ _ c.requires.loaded c.in-Ok.ensures.called
