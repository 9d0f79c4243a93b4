use Rattle.std.proofs.Common.{◌≡◌, ◌∙◌, ◌-◌, ◌∷◌, true, ap, sym, subst}
use Rattle.board_rules.specs.RunMeasures.{run_setting, run_measure}
use Rattle.flow_journal.specs.Hands.{hand}
use Rattle.flow_journal.specs.Histories.{is_legal}
use Rattle.flow_journal.specs.declared.entry.Entry.TheVariants.{Put}
use Rattle.board_rules.specs.States.{past}
use Rattle.board_rules.specs.InHand.{is_job_on}
use Rattle.flow_journal.specs.ResultNames.{result_name}
use Rattle.run_course.specs.Courses.{Coursed, log_of}
use Rattle.run_course.proofs.Coursing.{room-for}
use Rattle.run_course.proofs.Finding.{node-found, role-found}
use Rattle.run_course.proofs.Handed.{job-on, has-arrays}
use Rattle.run_course.proofs.Opening.{parts}
use Rattle.run_course.proofs.Putting.{put_at_once_at, some-job, few-puts}
use Rattle.run_course.proofs.Reading.{place-of}
use Rattle.run_course.proofs.course.Course.put_plain.Goals as goal

pub count_put-requires-clause-some : goal.count_put-requires-clause-some
count_put-requires-clause-some g c =
    let s = run_setting g.F.Of.Run.graph g.F.Of.Run.stack in
    let m = run_measure g.F.Of.Run.graph g.F.Of.Run.stack in
    let k = parts c.self.inside in
    let n = c.index_mut.result.now in
    let at = node-found m s k c.args.node n c.self.invariant c.requires.node c.index_mut.ensures.value in
    some-job m s k c.args.node c.args.role c.args.name n c.self.invariant
    c.requires.node at (subst (λ (v : Coursed). is_job_on c.args.node c.args.name (hand c.args.role (past v.told)) ≡ true) (sym c.self.view_is) c.requires.hand)

pub count_put-requires-clause-few : goal.count_put-requires-clause-few
count_put-requires-clause-few g c =
    let s = run_setting g.F.Of.Run.graph g.F.Of.Run.stack in
    let m = run_measure g.F.Of.Run.graph g.F.Of.Run.stack in
    let k = parts c.self.inside in
    let n = c.index_mut.result.now in
    few-puts m s k c.args.node n c.self.invariant c.requires.node (node-found m s k c.args.node n c.self.invariant c.requires.node c.index_mut.ensures.value)

pub push-requires-clause-room : goal.push-requires-clause-room
push-requires-clause-room g c =
    let s = run_setting g.F.Of.Run.graph g.F.Of.Run.stack in
    let a = result_name s c.args.node c.args.name in
    room-for (run_measure g.F.Of.Run.graph g.F.Of.Run.stack) s (parts c.self.inside)
    (Put c.args.role c.args.node a.maker c.args.name.index c.args.fired) c.self.invariant
    (subst (λ (v : Coursed). is_legal s (Put c.args.role c.args.node a.maker c.args.name.index c.args.fired ∷ past v.told) ≡ true) (sym c.self.view_is)
    c.requires.legal)

pub invariant_of-self : goal.invariant_of-self
invariant_of-self g c =
    let s = run_setting g.F.Of.Run.graph g.F.Of.Run.stack in
    let m = run_measure g.F.Of.Run.graph g.F.Of.Run.stack in
    let k = parts c.self.inside in
    let i = c.self.invariant in
    let v = c.args.node in
    let r = c.args.role in
    let a = c.args.name in
    let n = c.index_mut.result.now in
    let x = c.index_mut-2.result.now in
    let at = node-found m s k v n i c.requires.node c.index_mut.ensures.value in
    let here = role-found m s k r x i c.requires.role c.index_mut-2.ensures.value in
    let legal : is_legal s (Put r v (result_name s v a).maker a.index c.args.fired ∷ log_of k) ≡ true =
    subst (λ (w : Coursed). is_legal s (Put r v (result_name s v a).maker a.index c.args.fired ∷ past w.told) ≡ true) (sym c.self.view_is) c.requires.legal in
    let job = job-on s v r a (log_of k) i.legal (subst (λ (w : Coursed). is_job_on v a (hand r (past w.told)) ≡ true) (sym c.self.view_is) c.requires.hand) in
    let done =
    put_at_once_at m s k v r (v - 1) (result_name s v a).maker a.index c.args.fired job.entry a x n (place-of s v c.requires.node).0 i legal
    here at (ap (λ (w : Coursed). w.transit) c.self.view_is ∙ c.requires.still) job.has c.requires.kind c.requires.unsorted
    (has-arrays s v r a (log_of k) job.entry i.legal job.has.held job.kind) in
    rw (
      c.push.ensures,
      c.count_put.ensures,
      c.let_go.ensures,
      c.carry.ensures.items,
      c.carry.ensures.room,
      c.result_name-made.ensures,
      c.is_maker-makes.ensures,
    ) done
