use denote.Exit.{no}
use denote.Param.Send.{param_send, param_sync, arg_send, arg_sync}
use Rattle.std.proofs.Common.{get_or}
use Rattle.board_rules.specs.RunMeasures.{run_setting}
use Rattle.flow_roles.specs.TurnPasses.{known_by, IsPassOf}
use Rattle.flow_run.proofs.Seating.{some-worker, all-worked, worked-here}
use Rattle.flow_run.proofs.threads.work_all.Goals as goal

pub each_beside-requires-clause-accepts : goal.each_beside-requires-clause-accepts
each_beside-requires-clause-accepts g c κs within k has_thread p low is = (
  (
    c.requires.plan,
    c.requires.graph,
    c.requires.stack,
    some-worker (λ q. IsPassOf c.args.desk.now.id q.inner)
        (λ q. known_by q.inner q.said) g.R.Run.graph g.R.Run.stack c.args.seats.now c.requires.seats c.requires.ready k p.now low is,
  ),
  (
    param_send _ _ (arg_send _ no _ c.type_bounds.send-R),
    param_send _ _ (arg_send _ no _ c.type_bounds.send-B),
    param_sync _ _ (arg_sync _ no _ c.type_bounds.sync-R),
    param_sync _ _ (arg_sync _ no _ c.type_bounds.sync-G),
    param_sync _ _ (arg_sync _ no _ c.type_bounds.sync-T),
  ),
)

pub returns-clause-back : goal.returns-clause-back
returns-clause-back g c =
    all-worked (λ q. IsPassOf c.args.desk.now.id q.inner)
    (λ q. known_by q.inner q.said) g.R.Run.graph g.R.Run.stack c.args.seats.now c.requires.seats c.requires.ready c.each_beside.new.xs c.each_beside.ensures.len
    (λ k d low. let h = c.each_beside.ensures.each k d low in
    worked-here (λ q. IsPassOf c.args.desk.now.id q.inner) (λ q. known_by q.inner q.said) (run_setting g.R.Run.graph g.R.Run.stack)
    (get_or c.args.seats.now k d) h.argument.now (get_or c.each_beside.new.xs k d) h.after_call.now
    h.argument_is h.left h.call)
