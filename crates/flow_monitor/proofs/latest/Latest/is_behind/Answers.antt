use Rattle.std.proofs.Common.{ap}
use Rattle.flow_monitor.proofs.Fronts.{fronts_by_length}
use Rattle.flow_monitor.proofs.latest.Latest.is_behind.Goals as goal

pub returns-clause-fronts : goal.returns-clause-fronts
returns-clause-fronts c =
    let mine = rw (ap (λ s. s.log) c.again-both.ensures) at c.learn.ensures.2 in
    rw (c.args.self.now.count_is, c.args.other.now.count_is) (fronts_by_length _ _ c.learn.new.self.log mine c.learn.ensures.3)
