use Rattle.std.proofs.Common.{◌≡◌, ◌∷◌, ◌∙◌, ◌-◌, [], refl, sym, ap, subst, set, Some, true, arith}
use Rattle.std.specs.Prelude.{slice_get}
use Rattle.told_log.specs.ToldLogs.{ToldState}
use Rattle.board_rules.specs.RunMeasures.{run_setting, run_measure}
use Rattle.board_rules.specs.States.{past, plain}
use Rattle.flow_journal.specs.declared.entry.Entry.TheVariants.{Settle}
use Rattle.flow_journal.specs.Histories.{is_legal}
use Rattle.run_course.specs.Courses.{IsCourse, Coursed, log_of}
use Rattle.run_course.proofs.Opening.{parts}
use Rattle.run_course.proofs.Reading.{read-at, place-of}
use Rattle.run_course.proofs.Coursing.{room-for}
use Rattle.run_course.proofs.Finding.{course-as, coursed-as}
use Rattle.run_course.proofs.Rings.{settled_plain}
use Rattle.run_course.proofs.course.Course.note_settle.Goals as goal

pub push-requires-clause-room : goal.push-requires-clause-room
push-requires-clause-room g c =
    let m = run_measure g.F.Of.Run.graph g.F.Of.Run.stack in
    let s = run_setting g.F.Of.Run.graph g.F.Of.Run.stack in
    let k = parts c.self.inside in
    let i : IsCourse m s k = c.self.invariant in
    let legal : is_legal s (Settle c.args.role c.args.node ∷ log_of k) ≡ true =
    subst (λ (w : Coursed). is_legal s (Settle c.args.role c.args.node ∷ past w.told) ≡ true) (sym c.self.view_is) c.requires.legal in
    room-for m s k (Settle c.args.role c.args.node) i legal

pub invariant_of-self : goal.invariant_of-self
invariant_of-self g c =
    let m = run_measure g.F.Of.Run.graph g.F.Of.Run.stack in
    let s = run_setting g.F.Of.Run.graph g.F.Of.Run.stack in
    let k = parts c.self.inside in
    let i : IsCourse m s k = c.self.invariant in
    let r = c.args.role in
    let v = c.args.node in
    let legal : is_legal s (Settle r v ∷ log_of k) ≡ true =
    subst (λ (w : Coursed). is_legal s (Settle r v ∷ past w.told) ≡ true) (sym c.self.view_is) c.requires.legal in
    let still : k.transit ≡ [] = ap (λ (w : Coursed). w.transit) c.self.view_is ∙ c.requires.still in
    let q = place-of s v c.requires.node in
    let n = c.index_mut.result.now in
    let at : slice_get k.nodes (v - 1) ≡ Some n = read-at k.nodes (v - 1) n (omega (arith, q.1, i.nodes.all)) c.index_mut.ensures.value in
    course-as m s
    (record k { log = record k.log { told = plain (Settle r v) ∷ k.log.told }; nodes = set k.nodes (v - 1) (record n { settled = true }); transit = [] })
    _ _ _ _ _ _ _ _ (sym c.push.ensures) refl refl refl refl refl (sym still) refl
    (settled_plain m s k v r (v - 1) n q.0 i legal at still c.requires.kind)

pub returns : goal.returns
returns g c =
    coursed-as (ap (λ (l : ToldState). l.told) c.push.ensures ∙ ap (λ (w : Coursed). plain (Settle c.args.role c.args.node) ∷ w.told) c.self.view_is)
    (ap (λ (w : Coursed). w.transit) c.self.view_is)
