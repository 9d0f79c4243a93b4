use Rattle.std.proofs.Common.{◌≡◌, ◌∷◌, true, false, ap, sym, subst, ℕ, arith}
use Rattle.flow_journal.specs.declared.entry.Entry.TheVariants.{Full}
use Rattle.flow_journal.specs.Histories.{is_legal}
use Rattle.flow_journal.specs.Turns.{deals, has_just_emitted}
use Rattle.board_rules.specs.RunMeasures.{run_setting, run_measure}
use Rattle.board_rules.specs.States.{past}
use Rattle.run_course.specs.Courses.{Coursed, IsCourse, log_of}
use Rattle.run_course.proofs.Opening.{parts}
use Rattle.run_course.proofs.Coursing.{filled, room-for, few-there}
use Rattle.flow_journal.specs.Notes.{offers, drops}
use Rattle.course_parts.specs.declared.facts.Facts.{Facts}
use Rattle.run_course.proofs.course.Course.fill.Goals as goal

pub overflow_add-self : goal.overflow_add-self
overflow_add-self g c =
    let a = c.self.inside in
    let s = run_setting g.F.Of.Run.graph g.F.Of.Run.stack in
    let m = run_measure g.F.Of.Run.graph g.F.Of.Run.stack in
    let k = parts a in
    let i : IsCourse m s k = c.self.invariant in
    let view = sym c.self.view_is in
    let few = few-there m s k offers i in
    omega (arith, few, ap (λ (f : Facts). f.came) i.facts)

pub overflow_add-self-2 : goal.overflow_add-self-2
overflow_add-self-2 g c =
    let a = c.self.inside in
    let s = run_setting g.F.Of.Run.graph g.F.Of.Run.stack in
    let m = run_measure g.F.Of.Run.graph g.F.Of.Run.stack in
    let k = parts a in
    let i : IsCourse m s k = c.self.invariant in
    let view = sym c.self.view_is in
    let few = few-there m s k drops i in
    omega (arith, few, ap (λ (f : Facts). f.dropped) i.facts)

pub push-requires-clause-room : goal.push-requires-clause-room
push-requires-clause-room g c =
    let a = c.self.inside in
    let s = run_setting g.F.Of.Run.graph g.F.Of.Run.stack in
    let m = run_measure g.F.Of.Run.graph g.F.Of.Run.stack in
    let k = parts a in
    let i : IsCourse m s k = c.self.invariant in
    let view = sym c.self.view_is in
    let legal : is_legal s (Full c.args.child c.args.name.maker c.args.name.index ∷ log_of k) ≡ true =
    subst (λ (v : Coursed). is_legal s (Full c.args.child c.args.name.maker c.args.name.index ∷ past v.told) ≡ true) view c.requires.legal in
    room-for m s k (Full c.args.child c.args.name.maker c.args.name.index) i legal

pub invariant_of-self : goal.invariant_of-self
invariant_of-self g c =
    let a = c.self.inside in
    let s = run_setting g.F.Of.Run.graph g.F.Of.Run.stack in
    let m = run_measure g.F.Of.Run.graph g.F.Of.Run.stack in
    let k = parts a in
    let i : IsCourse m s k = c.self.invariant in
    let view = sym c.self.view_is in
    let legal : is_legal s (Full c.args.child c.args.name.maker c.args.name.index ∷ log_of k) ≡ true =
    subst (λ (v : Coursed). is_legal s (Full c.args.child c.args.name.maker c.args.name.index ∷ past v.told) ≡ true) view c.requires.legal in
    let together = subst (λ (v : Coursed). (u : ℕ) → deals s u ≡ true → has_just_emitted u (past v.told) ≡ false) view c.requires.together in
    rw c.push.ensures (filled m s k c.args.child c.args.name.maker c.args.name.index i legal together)
