use Rattle.replay_top.proofs.RunStops.{RestEnds-print}
use Rattle.replay_top.proofs.run.finish.Goals as goal

pub returns-clause-ends : goal.returns-clause-ends
returns-clause-ends g c =
    RestEnds-print _ _ _ _ _ _ c.print_end.result _ (g.T.Sink.faults c.args.out.now) (g.T.Sink.faults c.print_end.new.out) c.if-ended.false
    c.in_ok-save_rest.ensures.ok c.print_end.ensures.ok c.print_end.ensures.err
