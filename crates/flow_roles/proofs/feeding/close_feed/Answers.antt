use Rattle.std.proofs.Common.{refl}
use Rattle.board_rules.specs.declared.answers.Settled.TheVariants.{Done, NotYet}
use Rattle.board_rules.specs.RunMeasures.{run_setting}
use Rattle.flow_roles.specs.FeederTicks.{closes}
use Rattle.flow_roles.proofs.Calls.{still-owned, still-active}
use Rattle.flow_roles.proofs.FeederCalls.{close-goes, close-ends}
use Rattle.flow_roles.proofs.FeederRounds.{fed-free}
use Rattle.flow_roles.proofs.feeding.close_feed.Goals as goal

pub load_next-requires-clause-nothing : goal.load_next-requires-clause-nothing
load_next-requires-clause-nothing g c = close-goes (run_setting g.R.Run.graph g.R.Run.stack) _ _ c.requires.nothing c.in-NotYet.ensures.called

pub load_next-requires-clause-active : goal.load_next-requires-clause-active
load_next-requires-clause-active g c = still-active _ _ _ _ _ 0 c.requires.nothing.role c.in-NotYet.ensures.called refl refl c.requires.active

pub returns-in-Done-clause-fed : goal.returns-in-Done-clause-fed
returns-in-Done-clause-fed g c =
    let s = run_setting g.R.Run.graph g.R.Run.stack in
    let e = close-ends s _ _ c.requires.nothing c.in-Done.ensures.called in
    λ first old f. fed-free s first _ old _ c.ended.result c.ended.ensures e.0 e.1
    (still-active _ _ _ _ _ 0 c.requires.nothing.role c.in-Done.ensures.called refl refl c.requires.active).0
    (f.0, f.1, closes f.0 _ _ Done f.2 c.requires.active c.in-Done.ensures.called)

pub returns-in-NotYet-clause-fed : goal.returns-in-NotYet-clause-fed
returns-in-NotYet-clause-fed g c =
    λ first old f. c.load_next.ensures.fed first old (f.0, f.1, closes f.0 _ _ NotYet f.2 c.requires.active c.in-NotYet.ensures.called)

pub returns-in-Done-clause-owned : goal.returns-in-Done-clause-owned
returns-in-Done-clause-owned g c = still-owned _ _ _ _ _ 0 c.requires.nothing.role c.in-Done.ensures.called refl

pub returns-in-NotYet-clause-owned : goal.returns-in-NotYet-clause-owned
returns-in-NotYet-clause-owned g c =
    λ all. c.load_next.ensures.owned (still-owned _ _ _ _ _ 0 c.requires.nothing.role c.in-NotYet.ensures.called refl all)
