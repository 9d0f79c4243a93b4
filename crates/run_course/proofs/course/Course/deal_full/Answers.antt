use Rattle.std.proofs.Common.{◌≡◌, ◌∷◌, ◌∙◌, ◌-◌, true, ap, sym, subst, Some, arith}
use Rattle.std.specs.Prelude.{slice_get}
use Rattle.flow_journal.specs.declared.entry.Entry.TheVariants.{Full}
use Rattle.flow_journal.specs.Histories.{is_legal}
use Rattle.board_rules.specs.RunMeasures.{run_setting, run_measure}
use Rattle.board_rules.specs.States.{past}
use Rattle.run_course.specs.Courses.{Coursed, IsCourse, log_of}
use Rattle.run_course.proofs.Opening.{parts}
use Rattle.run_course.proofs.Coursing.{room-for, few-there}
use Rattle.run_course.proofs.Reading.{read-at, place-of}
use Rattle.flow_journal.specs.Notes.{offers, drops}
use Rattle.flow_journal.specs.Turns.{turn}
use Rattle.run_course.specs.Leaving.{OnlyDealt}
use Rattle.course_parts.specs.declared.facts.Facts.{Facts}
use Rattle.run_course.proofs.Dealing.{dealt-full}
use Rattle.run_course.proofs.course.Course.deal_full.Goals as goal

pub overflow_add-self : goal.overflow_add-self
overflow_add-self g c =
    let a = c.self.inside in
    let s = run_setting g.F.Of.Run.graph g.F.Of.Run.stack in
    let m = run_measure g.F.Of.Run.graph g.F.Of.Run.stack in
    let k = parts a in
    let i : IsCourse m s k = c.self.invariant in
    let view = sym c.self.view_is in
    let few = few-there m s k offers i in
    omega (arith, few, ap (λ (f : Facts). f.came) i.facts)

pub overflow_add-self-2 : goal.overflow_add-self-2
overflow_add-self-2 g c =
    let a = c.self.inside in
    let s = run_setting g.F.Of.Run.graph g.F.Of.Run.stack in
    let m = run_measure g.F.Of.Run.graph g.F.Of.Run.stack in
    let k = parts a in
    let i : IsCourse m s k = c.self.invariant in
    let view = sym c.self.view_is in
    let few = few-there m s k drops i in
    omega (arith, few, ap (λ (f : Facts). f.dropped) i.facts)

pub push-requires-clause-room : goal.push-requires-clause-room
push-requires-clause-room g c =
    let a = c.self.inside in
    let s = run_setting g.F.Of.Run.graph g.F.Of.Run.stack in
    let m = run_measure g.F.Of.Run.graph g.F.Of.Run.stack in
    let k = parts a in
    let i : IsCourse m s k = c.self.invariant in
    let view = sym c.self.view_is in
    let legal : is_legal s (Full c.args.child c.args.name.maker c.args.name.index ∷ log_of k) ≡ true =
    subst (λ (v : Coursed). is_legal s (Full c.args.child c.args.name.maker c.args.name.index ∷ past v.told) ≡ true) view c.requires.legal in
    room-for m s k (Full c.args.child c.args.name.maker c.args.name.index) i legal

pub invariant_of-self : goal.invariant_of-self
invariant_of-self g c =
    let a = c.self.inside in
    let s = run_setting g.F.Of.Run.graph g.F.Of.Run.stack in
    let m = run_measure g.F.Of.Run.graph g.F.Of.Run.stack in
    let k = parts a in
    let i : IsCourse m s k = c.self.invariant in
    let view = sym c.self.view_is in
    let legal : is_legal s (Full c.args.child c.args.name.maker c.args.name.index ∷ log_of k) ≡ true =
    subst (λ (v : Coursed). is_legal s (Full c.args.child c.args.name.maker c.args.name.index ∷ past v.told) ≡ true) view c.requires.legal in
    let f = place-of s c.args.from c.requires.from in
    let x = c.index_mut.result.now in
    let at : slice_get k.nodes (c.args.from - 1) ≡ Some x = read-at k.nodes (c.args.from - 1) x (omega (arith, f.1, i.nodes.all)) c.index_mut.ensures.value in
    let turned : c.args.next_turn ≡ turn s c.args.from (Full c.args.child c.args.name.maker c.args.name.index ∷ log_of k) =
    c.requires.turn ∙ ap (λ (v : Coursed). turn s c.args.from (Full c.args.child c.args.name.maker c.args.name.index ∷ past v.told)) view in
    let only = subst (λ (v : Coursed). OnlyDealt s c.args.from (past v.told)) view c.requires.only in
    rw c.push.ensures
    (dealt-full m s k c.args.from c.args.child (c.args.from - 1) c.args.next_turn c.args.name.maker c.args.name.index x f.0 i legal at turned only)
