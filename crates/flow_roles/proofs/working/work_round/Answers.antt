use Rattle.std.proofs.Common.{ℕ, List, refl, length, subst}
use Rattle.frame_store.specs.Sealed.{Sealed}
use Rattle.board_rules.specs.declared.answers.Take.{Take}
use Rattle.board_rules.specs.declared.answers.Take.TheVariants.{Left, Ended, Idle, OutOfMemory}
use Rattle.board_rules.specs.RunMeasures.{run_setting}
use Rattle.flow_roles.specs.RoleMoves.{worker_logs}
use Rattle.flow_roles.specs.RoleEnds.{worker_ends}
use Rattle.flow_roles.specs.Feeder.{name_of, parts_of}
use Rattle.flow_roles.specs.Worker.{HasAskedTake}
use Rattle.flow_roles.proofs.Calls.{still-active, wanted-once, role-after}
use Rattle.flow_roles.proofs.RoleCalls.{gone-free, leave-free, worker-quiet}
use Rattle.flow_roles.proofs.WorkerCalls.{take-goes, take-left-seen, take-ended-seen, take-isnt-busy, take-drops, take-works}
use Rattle.flow_roles.proofs.working.work_round.Goals as goal

pub returns-in-Left-clause-gone : goal.returns-in-Left-clause-gone
returns-in-Left-clause-gone g c =
    let s = run_setting g.R.Run.graph g.R.Run.stack in
    let r = c.args.role in
    let v = c.args.node in
    let q = (subst (λ (x : Take Sealed (List ℕ) _). HasAskedTake (run_setting g.R.Run.graph g.R.Run.stack) c.args.role c.args.node x (g.D.Desk.knows c.args.pass.now))
    c.in-Left.is c.requires.asked).0 in
    gone-free name_of parts_of length (λ a p. HasAskedTake s r v a p) s (worker_logs v) (worker_ends v) r _ c.ended.result c.ended.ensures
    (take-goes name_of parts_of length s r v _ _ q.nothing Left refl q.called) (take-left-seen name_of parts_of length s r v _ _ q.nothing q.called)
    (still-active _ _ _ _ _ r q.nothing.role q.called refl refl q.active).0

pub returns-in-Ended-clause-gone : goal.returns-in-Ended-clause-gone
returns-in-Ended-clause-gone g c =
    let s = run_setting g.R.Run.graph g.R.Run.stack in
    let r = c.args.role in
    let v = c.args.node in
    let q = (subst (λ (x : Take Sealed (List ℕ) _). HasAskedTake (run_setting g.R.Run.graph g.R.Run.stack) c.args.role c.args.node x (g.D.Desk.knows c.args.pass.now))
    c.in-Ended.is c.requires.asked).0 in
    gone-free name_of parts_of length (λ a p. HasAskedTake s r v a p) s (worker_logs v) (worker_ends v) r _ c.ended-in-Ended.result c.ended-in-Ended.ensures
    (take-goes name_of parts_of length s r v _ _ q.nothing Ended refl q.called) (take-ended-seen name_of parts_of length s r v _ _ q.nothing q.called)
    (still-active _ _ _ _ _ r q.nothing.role q.called refl refl q.active).0

pub unreachable-requires : goal.unreachable-requires
unreachable-requires g c =
    let s = run_setting g.R.Run.graph g.R.Run.stack in
    let r = c.args.role in
    let v = c.args.node in
    let q = (subst (λ (x : Take Sealed (List ℕ) _). HasAskedTake (run_setting g.R.Run.graph g.R.Run.stack) c.args.role c.args.node x (g.D.Desk.knows c.args.pass.now))
    c.in-Busy.is c.requires.asked).0 in
    take-isnt-busy name_of parts_of length s r v _ _ q.nothing q.called

pub settle_or_wait-requires-clause-nothing : goal.settle_or_wait-requires-clause-nothing
settle_or_wait-requires-clause-nothing g c =
    let s = run_setting g.R.Run.graph g.R.Run.stack in
    let r = c.args.role in
    let v = c.args.node in
    let q = (subst (λ (x : Take Sealed (List ℕ) _). HasAskedTake (run_setting g.R.Run.graph g.R.Run.stack) c.args.role c.args.node x (g.D.Desk.knows c.args.pass.now))
    c.in-Idle.is c.requires.asked).0 in
    take-goes name_of parts_of length s r v _ _ q.nothing Idle refl q.called

pub returns-in-Idle-clause-gone : goal.returns-in-Idle-clause-gone
returns-in-Idle-clause-gone g c =
    let s = run_setting g.R.Run.graph g.R.Run.stack in
    let r = c.args.role in
    let v = c.args.node in
    let q = (subst (λ (x : Take Sealed (List ℕ) _). HasAskedTake (run_setting g.R.Run.graph g.R.Run.stack) c.args.role c.args.node x (g.D.Desk.knows c.args.pass.now))
    c.in-Idle.is c.requires.asked).0 in
    let active = still-active _ _ _ _ _ r q.nothing.role q.called refl refl q.active in (
      record {
        before = _;
        nothing = c.settle_or_wait.ensures.nothing;
        active = still-active _ _ _ _ _ r (role-after _ _ _ _ _ r q.nothing.role q.called) c.settle_or_wait.ensures.tried refl refl active;
        called = c.take.ensures.called;
      },
      c.take.ensures.lent,
    )

pub returns-in-PoolDrop-clause-gone : goal.returns-in-PoolDrop-clause-gone
returns-in-PoolDrop-clause-gone g c =
    let s = run_setting g.R.Run.graph g.R.Run.stack in
    let r = c.args.role in
    let v = c.args.node in
    let q = (subst (λ (x : Take Sealed (List ℕ) _). HasAskedTake (run_setting g.R.Run.graph g.R.Run.stack) c.args.role c.args.node x (g.D.Desk.knows c.args.pass.now))
    c.in-PoolDrop.is c.requires.asked).0 in (
      record {
        before = _;
        nothing = take-drops name_of parts_of length s r v _ _ q.nothing _ _ q.called;
        active = still-active _ _ _ _ _ r q.nothing.role q.called refl refl q.active;
        called = c.take-in-PoolDrop.ensures.called;
      },
      c.take-in-PoolDrop.ensures.lent,
    )

pub returns-in-OutOfMemory-clause-gone : goal.returns-in-OutOfMemory-clause-gone
returns-in-OutOfMemory-clause-gone g c =
    let s = run_setting g.R.Run.graph g.R.Run.stack in
    let r = c.args.role in
    let v = c.args.node in
    let q = (subst (λ (x : Take Sealed (List ℕ) _). HasAskedTake (run_setting g.R.Run.graph g.R.Run.stack) c.args.role c.args.node x (g.D.Desk.knows c.args.pass.now))
    c.in-OutOfMemory.is c.requires.asked).0 in
    leave-free name_of parts_of length s (worker_logs v) (worker_ends v) r _ _ c.nothing.result
    (take-goes name_of parts_of length s r v _ _ q.nothing OutOfMemory refl q.called) (worker-quiet v) refl
    (λ P h. h) c.nothing.ensures (wanted-once _ _ _ _ _ r q.nothing.role q.called refl q.active) c.leave.ensures.called

pub work_on-requires-clause-job : goal.work_on-requires-clause-job
work_on-requires-clause-job g c κs within =
    let s = run_setting g.R.Run.graph g.R.Run.stack in
    let r = c.args.role in
    let v = c.args.node in
    let asked = (subst (λ (x : Take Sealed (List ℕ) _). HasAskedTake (run_setting g.R.Run.graph g.R.Run.stack) c.args.role c.args.node x (g.D.Desk.knows c.args.pass.now))
    c.in-Job.is c.requires.asked) in
    take-works g.R.Run.graph g.R.Run.stack r v c.in-Job.node c.in-Job.input _ _ c.requires.graph
    c.requires.node asked.0.nothing c.in-Job.blank asked.0.called asked.1
