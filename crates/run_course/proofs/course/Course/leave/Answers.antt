use Rattle.std.proofs.Common.{◌+◌, ◌≡◌, length, sym, subst, true, arith}
use Rattle.told_log.specs.ToldLogs.{ToldState}
use Rattle.board_rules.specs.RunMeasures.{run_setting, run_measure}
use Rattle.flow_journal.specs.declared.entry.Entry.TheVariants.{Leave}
use Rattle.flow_journal.specs.Setting.{last_role}
use Rattle.run_course.specs.Courses.{IsCourse}
use Rattle.run_course.proofs.Opening.{parts}
use Rattle.run_course.proofs.Begins.{may-leave}
use Rattle.run_course.proofs.Reading.{read-at}
use Rattle.std.proofs.Common.{set}
use Rattle.run_course.proofs.Coursing.{room-for, left_by}
use Rattle.run_course.proofs.course.Course.leave.Goals as goal

pub push-requires-clause-room : goal.push-requires-clause-room
push-requires-clause-room g c =
    let s = run_setting g.F.Of.Run.graph g.F.Of.Run.stack in
    let k = parts c.self.inside in
    let h = c.requires in
    room-for (run_measure g.F.Of.Run.graph g.F.Of.Run.stack) s k (Leave c.args.role) c.self.invariant
    (may-leave s k c.args.self.now c.args.role c.self.view_is h.history h.role h.stays)

pub invariant_of-self : goal.invariant_of-self
invariant_of-self g c =
    let m = run_measure g.F.Of.Run.graph g.F.Of.Run.stack in
    let s = run_setting g.F.Of.Run.graph g.F.Of.Run.stack in
    let k = parts c.self.inside in
    let h = c.requires in
    let r = c.args.role in
    let x = c.index_mut.result.now in
    let all : length k.roles ≡ last_role s + 1 = c.self.invariant.roles.all in
    subst (λ (l : ToldState). IsCourse m s (record k { log = l; roles = set k.roles r (record x { has_left = true }); facts = record k.facts { left = true } }))
    (sym c.push.ensures)
    (left_by m s k r x c.self.invariant (may-leave s k c.args.self.now r c.self.view_is h.history h.role h.stays)
    (read-at k.roles r x (omega (arith, all, h.role)) c.index_mut.ensures.value))
