use Rattle.std.proofs.Common.{ℕ, List, refl, length, subst}
use Rattle.board_rules.specs.declared.answers.Load.{Load}
use Rattle.board_rules.specs.declared.answers.Load.TheVariants.{Left, Busy, Ended, NotYet, OutOfMemory, Loaded}
use Rattle.board_rules.specs.RunMeasures.{run_setting}
use Rattle.flow_roles.specs.RoleMoves.{feeder_logs}
use Rattle.flow_roles.specs.RoleEnds.{feeder_ends}
use Rattle.flow_roles.specs.Feeder.{name_of, parts_of, HasAskedLoad}
use Rattle.flow_roles.proofs.Calls.{still-owned, still-active, wanted-once, role-after}
use Rattle.flow_roles.proofs.RoleCalls.{leave-free, feeder-quiet}
use Rattle.flow_roles.proofs.FeederCalls.{load-goes, load-left-seen, load-refuses, load-loads}
use Rattle.flow_roles.proofs.FeederRounds.{answered, went-on, left-wanting, fed-free}
use Rattle.flow_roles.proofs.feeding.feed_round.Goals as goal

pub load_next-requires-clause-nothing : goal.load_next-requires-clause-nothing
load_next-requires-clause-nothing g c =
    let s = run_setting g.R.Run.graph g.R.Run.stack in
    let q = (subst (λ (x : Load (List ℕ)). HasAskedLoad (run_setting g.R.Run.graph g.R.Run.stack) c.requires.asked.0 x (g.D.Desk.knows c.args.pass.now))
    c.in-Busy.is c.requires.asked.1).0 in
    load-goes parts_of length s c.requires.asked.0 _ _ q.nothing Busy refl q.called

pub load_next-requires-in-NotYet-clause-nothing : goal.load_next-requires-in-NotYet-clause-nothing
load_next-requires-in-NotYet-clause-nothing g c =
    let s = run_setting g.R.Run.graph g.R.Run.stack in
    let q = (subst (λ (x : Load (List ℕ)). HasAskedLoad (run_setting g.R.Run.graph g.R.Run.stack) c.requires.asked.0 x (g.D.Desk.knows c.args.pass.now))
    c.in-NotYet.is c.requires.asked.1).0 in
    load-goes parts_of length s c.requires.asked.0 _ _ q.nothing NotYet refl q.called

pub close_feed-requires-clause-nothing : goal.close_feed-requires-clause-nothing
close_feed-requires-clause-nothing g c =
    let s = run_setting g.R.Run.graph g.R.Run.stack in
    let q = (subst (λ (x : Load (List ℕ)). HasAskedLoad (run_setting g.R.Run.graph g.R.Run.stack) c.requires.asked.0 x (g.D.Desk.knows c.args.pass.now))
    c.in-Ended.is c.requires.asked.1).0 in
    load-goes parts_of length s c.requires.asked.0 _ _ q.nothing Ended refl q.called

pub load_next-requires-in-Refused-clause-nothing : goal.load_next-requires-in-Refused-clause-nothing
load_next-requires-in-Refused-clause-nothing g c =
    let s = run_setting g.R.Run.graph g.R.Run.stack in
    let q = (subst (λ (x : Load (List ℕ)). HasAskedLoad (run_setting g.R.Run.graph g.R.Run.stack) c.requires.asked.0 x (g.D.Desk.knows c.args.pass.now))
    c.in-Refused.is c.requires.asked.1).0 in
    load-refuses parts_of length s c.requires.asked.0 _ _ q.nothing _ _ q.called

pub load_next-requires-clause-active : goal.load_next-requires-clause-active
load_next-requires-clause-active g c =
    let q = (subst (λ (x : Load (List ℕ)). HasAskedLoad (run_setting g.R.Run.graph g.R.Run.stack) c.requires.asked.0 x (g.D.Desk.knows c.args.pass.now))
    c.in-Busy.is c.requires.asked.1).0 in
    still-active _ _ _ _ _ 0 q.nothing.role q.called refl refl q.active

pub load_next-requires-in-NotYet-clause-active : goal.load_next-requires-in-NotYet-clause-active
load_next-requires-in-NotYet-clause-active g c =
    let q = (subst (λ (x : Load (List ℕ)). HasAskedLoad (run_setting g.R.Run.graph g.R.Run.stack) c.requires.asked.0 x (g.D.Desk.knows c.args.pass.now))
    c.in-NotYet.is c.requires.asked.1).0 in
    still-active _ _ _ _ _ 0 q.nothing.role q.called refl refl q.active

pub close_feed-requires-clause-active : goal.close_feed-requires-clause-active
close_feed-requires-clause-active g c =
    let q = (subst (λ (x : Load (List ℕ)). HasAskedLoad (run_setting g.R.Run.graph g.R.Run.stack) c.requires.asked.0 x (g.D.Desk.knows c.args.pass.now))
    c.in-Ended.is c.requires.asked.1).0 in
    still-active _ _ _ _ _ 0 q.nothing.role q.called refl refl q.active

pub load_next-requires-in-Refused-clause-active : goal.load_next-requires-in-Refused-clause-active
load_next-requires-in-Refused-clause-active g c =
    let q = (subst (λ (x : Load (List ℕ)). HasAskedLoad (run_setting g.R.Run.graph g.R.Run.stack) c.requires.asked.0 x (g.D.Desk.knows c.args.pass.now))
    c.in-Refused.is c.requires.asked.1).0 in
    still-active _ _ _ _ _ 0 q.nothing.role q.called refl refl q.active

pub issue_loaded-requires-clause-active : goal.issue_loaded-requires-clause-active
issue_loaded-requires-clause-active g c =
    let q = (subst (λ (x : Load (List ℕ)). HasAskedLoad (run_setting g.R.Run.graph g.R.Run.stack) c.requires.asked.0 x (g.D.Desk.knows c.args.pass.now))
    c.in-Loaded.is c.requires.asked.1).0 in
    still-active _ _ _ _ _ 0 q.nothing.role q.called refl refl q.active

pub issue_loaded-requires-clause-loaded : goal.issue_loaded-requires-clause-loaded
issue_loaded-requires-clause-loaded g c =
    let s = run_setting g.R.Run.graph g.R.Run.stack in
    let asked = (subst (λ (x : Load (List ℕ)). HasAskedLoad (run_setting g.R.Run.graph g.R.Run.stack) c.requires.asked.0 x (g.D.Desk.knows c.args.pass.now))
    c.in-Loaded.is c.requires.asked.1) in
    load-loads parts_of length s c.requires.asked.0 _ _ asked.0.nothing c.in-Loaded.index c.in-Loaded.blank asked.0.called asked.1

pub returns-in-Left-clause-fed : goal.returns-in-Left-clause-fed
returns-in-Left-clause-fed g c =
    let s = run_setting g.R.Run.graph g.R.Run.stack in
    λ first old f. (let u = answered s first _ old _ c.args.answer Left c.in-Left.is f in
    let q = u.3.0 in
    fed-free s first _ old _ c.ended.result c.ended.ensures (load-goes parts_of length s u.0 _ _ q.nothing Left refl q.called)
    (load-left-seen parts_of length s u.0 _ _ q.nothing q.called) (still-active _ _ _ _ _ 0 q.nothing.role q.called refl refl q.active).0
    (went-on s first _ old _ Left refl u))

pub returns-in-Busy-clause-fed : goal.returns-in-Busy-clause-fed
returns-in-Busy-clause-fed g c =
    let s = run_setting g.R.Run.graph g.R.Run.stack in
    λ first old f. c.load_next.ensures.fed first old (went-on s first _ old _ Busy refl (answered s first _ old _ c.args.answer _ c.in-Busy.is f))

pub returns-in-NotYet-clause-fed : goal.returns-in-NotYet-clause-fed
returns-in-NotYet-clause-fed g c =
    let s = run_setting g.R.Run.graph g.R.Run.stack in
    λ first old f. c.load_next-in-NotYet.ensures.fed first old (went-on s first _ old _ NotYet refl (answered s first _ old _ c.args.answer _ c.in-NotYet.is f))

pub returns-in-Ended-clause-fed : goal.returns-in-Ended-clause-fed
returns-in-Ended-clause-fed g c =
    let s = run_setting g.R.Run.graph g.R.Run.stack in
    λ first old f. c.close_feed.ensures.fed first old (went-on s first _ old _ Ended refl (answered s first _ old _ c.args.answer _ c.in-Ended.is f))

pub returns-in-Refused-clause-fed : goal.returns-in-Refused-clause-fed
returns-in-Refused-clause-fed g c =
    let s = run_setting g.R.Run.graph g.R.Run.stack in
    λ first old f. c.load_next-in-Refused.ensures.fed first old (went-on s first _ old _ _ refl (answered s first _ old _ c.args.answer _ c.in-Refused.is f))

pub returns-in-Loaded-clause-fed : goal.returns-in-Loaded-clause-fed
returns-in-Loaded-clause-fed g c =
    let s = run_setting g.R.Run.graph g.R.Run.stack in
    λ first old f. c.issue_loaded.ensures.fed first old (went-on s first _ old _ (Loaded c.in-Loaded.index c.in-Loaded.blank) refl (answered s first _ old _ c.args.answer _ c.in-Loaded.is f))

pub returns-in-OutOfMemory-clause-fed : goal.returns-in-OutOfMemory-clause-fed
returns-in-OutOfMemory-clause-fed g c =
    let s = run_setting g.R.Run.graph g.R.Run.stack in
    λ first old f. (let u = answered s first _ old _ c.args.answer OutOfMemory c.in-OutOfMemory.is f in
    let q = u.3.0 in (
      leave-free name_of parts_of length s feeder_logs feeder_ends 0 _ _ c.nothing.result
          (load-goes parts_of length s u.0 _ _ q.nothing OutOfMemory refl q.called) feeder-quiet refl (λ P h. h) c.nothing.ensures
          (wanted-once _ _ _ _ _ 0 q.nothing.role q.called refl q.active) c.leave.ensures.called,
      left-wanting s first _ old _ _ OutOfMemory refl u c.leave.ensures.called,
    ))

pub returns-in-OutOfMemory-clause-owned : goal.returns-in-OutOfMemory-clause-owned
returns-in-OutOfMemory-clause-owned g c =
    let q = (subst (λ (x : Load (List ℕ)). HasAskedLoad (run_setting g.R.Run.graph g.R.Run.stack) c.requires.asked.0 x (g.D.Desk.knows c.args.pass.now))
    c.in-OutOfMemory.is c.requires.asked.1).0 in
    still-owned _ _ _ _ _ 0 (role-after _ _ _ _ _ 0 q.nothing.role q.called) c.leave.ensures.called refl
