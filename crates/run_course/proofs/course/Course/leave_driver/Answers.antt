use Rattle.std.proofs.Common.{◌≡◌, ◌∷◌, true, sym, subst}
use Rattle.flow_journal.specs.declared.entry.Entry.TheVariants.{Emit}
use Rattle.flow_journal.specs.Histories.{is_legal}
use Rattle.board_rules.specs.RunMeasures.{run_setting, run_measure}
use Rattle.board_rules.specs.States.{past}
use Rattle.run_course.specs.Courses.{Coursed, IsCourse, log_of}
use Rattle.run_course.proofs.Opening.{parts}
use Rattle.run_course.proofs.Coursing.{room-for}
use Rattle.run_course.proofs.Coursing.{emitted_by_driver}
use Rattle.run_course.proofs.course.Course.leave_driver.Goals as goal

pub push-requires-clause-room : goal.push-requires-clause-room
push-requires-clause-room g c =
    let a = c.self.inside in
    let s = run_setting g.F.Of.Run.graph g.F.Of.Run.stack in
    let m = run_measure g.F.Of.Run.graph g.F.Of.Run.stack in
    let k = parts a in
    let i : IsCourse m s k = c.self.invariant in
    let view = sym c.self.view_is in
    let legal : is_legal s (Emit 0 c.args.name.maker c.args.name.index c.args.why ∷ log_of k) ≡ true =
    subst (λ (v : Coursed). is_legal s (Emit 0 c.args.name.maker c.args.name.index c.args.why ∷ past v.told) ≡ true) view c.requires.legal in
    room-for m s k (Emit 0 c.args.name.maker c.args.name.index c.args.why) i legal

pub invariant_of-self : goal.invariant_of-self
invariant_of-self g c =
    let a = c.self.inside in
    let s = run_setting g.F.Of.Run.graph g.F.Of.Run.stack in
    let m = run_measure g.F.Of.Run.graph g.F.Of.Run.stack in
    let k = parts a in
    let i : IsCourse m s k = c.self.invariant in
    let view = sym c.self.view_is in
    let legal : is_legal s (Emit 0 c.args.name.maker c.args.name.index c.args.why ∷ log_of k) ≡ true =
    subst (λ (v : Coursed). is_legal s (Emit 0 c.args.name.maker c.args.name.index c.args.why ∷ past v.told) ≡ true) view c.requires.legal in
    rw c.push.ensures (emitted_by_driver m s k c.args.name.maker c.args.name.index c.args.why i legal)
