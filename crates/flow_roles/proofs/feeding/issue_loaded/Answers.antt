use Rattle.std.proofs.Common.{refl, length, subst, Ok, Result}
use Rattle.frame_store.specs.Sealed.{Sealed}
use Rattle.board_rules.specs.declared.answers.NotYours.{NotYours}
use Rattle.board_rules.specs.Feeding.{IssueGives}
use Rattle.board_rules.specs.RunMeasures.{run_setting}
use Rattle.flow_roles.specs.Lasts.{said_given}
use Rattle.flow_roles.specs.Passes.{Called}
use Rattle.flow_roles.specs.Feeder.{name_of}
use Rattle.flow_roles.proofs.Calls.{still-owned, still-active, role-after}
use Rattle.flow_roles.proofs.FeederCalls.{issue-goes, issue-takes}
use Rattle.flow_roles.proofs.FeederRounds.{loads-next, issues-then}
use Rattle.flow_roles.proofs.Results.{frame-index, frame-room, issue-whole}
use Rattle.flow_roles.proofs.feeding.issue_loaded.Goals as goal

pub frame_on-frame-requires-clause-frame : goal.frame_on-frame-requires-clause-frame
frame_on-frame-requires-clause-frame g c = frame-index g.R.Run.graph g.R.Run.stack c.args.stack.now c.args.index c.requires.stack c.requires.loaded.there

pub frame_on-frame-requires-clause-room : goal.frame_on-frame-requires-clause-room
frame_on-frame-requires-clause-room g c = frame-room g.R.Run.graph g.R.Run.stack c.args.stack.now (length c.args.blank) c.requires.stack c.requires.loaded.room

pub issue_load-issued-requires-clause-whole : goal.issue_load-issued-requires-clause-whole
issue_load-issued-requires-clause-whole g c =
    λ is. issue-whole _ (length c.args.blank) c.frame_on-frame.result c.requires.loaded.granted c.frame_on-frame.ensures.parts

pub unreachable-requires : goal.unreachable-requires
unreachable-requires g c =
    let s = run_setting g.R.Run.graph g.R.Run.stack in
    let both = c.issue_load-issued.ensures.called in
    issue-takes (Unit {0}) name_of s c.args.index
    (length c.args.blank) c.frame_on-frame.result c.in_default.field-0 _ _ c.requires.loaded c.frame_on-frame.ensures.name
    (subst (λ (x : Result (Unit {0}) (NotYours Sealed)). Called s (λ old new. IssueGives name_of s old 0 c.frame_on-frame.result x new) (said_given x)
    (g.D.Desk.knows c.args.pass.now) both.middle) c.in_default.is both.first)

pub returns-clause-fed : goal.returns-clause-fed
returns-clause-fed g c =
    let s = run_setting g.R.Run.graph g.R.Run.stack in
    let both = c.issue_load-issued.ensures.called in
    let frame = c.frame_on-frame.result in
    let p = g.D.Desk.knows c.args.pass.now in
    let one = subst (λ (x : Result (Unit {0}) (NotYours Sealed)). Called s (λ old new. IssueGives name_of s old 0 frame x new) (said_given x) p both.middle)
    c.in-Ok.is both.first in
    λ first old f. loads-next s first both.middle _ old _ _ c.tick-tick.result c.issue_load-issued.result.1
    (issues-then s first p both.middle old _ frame (Ok c.in-Ok.field-0) c.requires.active one f) c.tick-tick.ensures
    (issue-goes name_of s c.args.index (length c.args.blank) frame c.in-Ok.field-0 _ _ c.requires.loaded one)
    (still-active _ _ _ _ _ 0 c.requires.loaded.role one refl refl c.requires.active) both.second c.issue_load-issued.ensures.room

pub returns-clause-owned : goal.returns-clause-owned
returns-clause-owned g c =
    let s = run_setting g.R.Run.graph g.R.Run.stack in
    let both = c.issue_load-issued.ensures.called in
    let one = subst (λ (x : Result (Unit {0}) (NotYours Sealed)). Called s (λ old new. IssueGives name_of s old 0 c.frame_on-frame.result x new) (said_given x)
    (g.D.Desk.knows c.args.pass.now) both.middle) c.in-Ok.is both.first in
    λ all. still-owned _ _ _ _ _ 0 (role-after _ _ _ _ _ 0 c.requires.loaded.role one) both.second refl
    (still-owned _ _ _ _ _ 0 c.requires.loaded.role one refl all)
