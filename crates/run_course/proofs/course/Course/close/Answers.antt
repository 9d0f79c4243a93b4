use Rattle.std.proofs.Common.{sym, subst, true}
use Rattle.told_log.specs.ToldLogs.{ToldState}
use Rattle.board_rules.specs.RunMeasures.{run_setting, run_measure}
use Rattle.flow_journal.specs.declared.entry.Entry.TheVariants.{Close}
use Rattle.run_course.specs.Courses.{IsCourse}
use Rattle.run_course.proofs.Opening.{parts}
use Rattle.run_course.proofs.Begins.{may-close}
use Rattle.run_course.proofs.Coursing.{room-for, closed}
use Rattle.run_course.proofs.course.Course.close.Goals as goal

pub push-requires-clause-room : goal.push-requires-clause-room
push-requires-clause-room g c =
    let s = run_setting g.F.Of.Run.graph g.F.Of.Run.stack in
    let k = parts c.self.inside in
    let h = c.requires in
    room-for (run_measure g.F.Of.Run.graph g.F.Of.Run.stack) s k (Close c.args.role) c.self.invariant
    (may-close s k c.args.self.now c.args.role c.self.view_is h.history h.role h.open h.offered)

pub invariant_of-self : goal.invariant_of-self
invariant_of-self g c =
    let m = run_measure g.F.Of.Run.graph g.F.Of.Run.stack in
    let s = run_setting g.F.Of.Run.graph g.F.Of.Run.stack in
    let k = parts c.self.inside in
    let h = c.requires in
    subst (λ (l : ToldState). IsCourse m s (record k { log = l; facts = record k.facts { closed = true } })) (sym c.push.ensures)
    (closed m s k c.args.role c.self.invariant (may-close s k c.args.self.now c.args.role c.self.view_is h.history h.role h.open h.offered))
