use Rattle.std.proofs.Common.{◌≡◌, ◌∷◌, ◌++◌, ◌∙◌, ◌-◌, true, ap, sym, subst, refl, Some, arith}
use Rattle.std.specs.Prelude.{slice_get}
use Rattle.flow_journal.specs.declared.entry.Entry.TheVariants.{Emit}
use Rattle.flow_journal.specs.Histories.{is_legal}
use Rattle.board_rules.specs.RunMeasures.{run_setting, run_measure}
use Rattle.board_rules.specs.States.{past}
use Rattle.run_course.specs.Courses.{Coursed, IsCourse, log_of}
use Rattle.run_course.proofs.Opening.{parts}
use Rattle.run_course.proofs.Coursing.{room-for}
use Rattle.run_course.proofs.Reading.{read-at, place-of}
use Rattle.chain_plain.specs.OneThread.{listed}
use Rattle.run_course.proofs.Coursing.{emitted_at_once_at, room-to-measure, node-is}
use Rattle.run_course.proofs.course.Course.leave_node.Goals as goal

pub keep_measure-requires : goal.keep_measure-requires
keep_measure-requires g c =
    let a = c.self.inside in
    let s = run_setting g.F.Of.Run.graph g.F.Of.Run.stack in
    let m = run_measure g.F.Of.Run.graph g.F.Of.Run.stack in
    let k = parts a in
    let i : IsCourse m s k = c.self.invariant in
    let view = sym c.self.view_is in
    let q = place-of s c.args.node c.requires.node in
    let n = c.index_mut-state.result.now in
    let at : slice_get k.nodes (c.args.node - 1) ≡ Some n =
    read-at k.nodes (c.args.node - 1) n (omega (arith, q.1, i.nodes.all)) c.index_mut-state.ensures.value in
    let legal : is_legal s (Emit c.args.node c.args.name.maker c.args.name.index c.args.why ∷ log_of k) ≡ true =
    subst (λ (v : Coursed). is_legal s (Emit c.args.node c.args.name.maker c.args.name.index c.args.why ∷ past v.told) ≡ true) view c.requires.legal in
    λ x is. room-to-measure m s k c.args.node (c.args.node - 1) c.args.name.maker c.args.name.index c.args.why n x q.0 i at legal (sym c.requires.measured ∙ is)

pub push-requires-clause-room : goal.push-requires-clause-room
push-requires-clause-room g c =
    let a = c.self.inside in
    let s = run_setting g.F.Of.Run.graph g.F.Of.Run.stack in
    let m = run_measure g.F.Of.Run.graph g.F.Of.Run.stack in
    let k = parts a in
    let i : IsCourse m s k = c.self.invariant in
    let view = sym c.self.view_is in
    let legal : is_legal s (Emit c.args.node c.args.name.maker c.args.name.index c.args.why ∷ log_of k) ≡ true =
    subst (λ (v : Coursed). is_legal s (Emit c.args.node c.args.name.maker c.args.name.index c.args.why ∷ past v.told) ≡ true) view c.requires.legal in
    room-for m s k (Emit c.args.node c.args.name.maker c.args.name.index c.args.why) i legal

pub invariant_of-self : goal.invariant_of-self
invariant_of-self g c =
    let a = c.self.inside in
    let s = run_setting g.F.Of.Run.graph g.F.Of.Run.stack in
    let m = run_measure g.F.Of.Run.graph g.F.Of.Run.stack in
    let k = parts a in
    let i : IsCourse m s k = c.self.invariant in
    let view = sym c.self.view_is in
    let q = place-of s c.args.node c.requires.node in
    let n = c.index_mut-state.result.now in
    let at : slice_get k.nodes (c.args.node - 1) ≡ Some n =
    read-at k.nodes (c.args.node - 1) n (omega (arith, q.1, i.nodes.all)) c.index_mut-state.ensures.value in
    let legal : is_legal s (Emit c.args.node c.args.name.maker c.args.name.index c.args.why ∷ log_of k) ≡ true =
    subst (λ (v : Coursed). is_legal s (Emit c.args.node c.args.name.maker c.args.name.index c.args.why ∷ past v.told) ≡ true) view c.requires.legal in
    rw c.push.ensures (emitted_at_once_at m s k c.args.node (c.args.node - 1) c.args.name.maker c.args.name.index c.args.why n
    (record n { measures = c.keep_measure.new.measures }) q.0 i legal at c.requires.unsorted refl
    (c.keep_measure.ensures.items ∙ ap (λ o. n.measures.items ++ listed o) c.requires.measured)
    (λ b x is. rw c.keep_measure.ensures.capacity ((node-is m s k c.args.node (c.args.node - 1) n q.0 i at).measures_room b x is)))
