use Rattle.std.proofs.Common.{◌≡◌, ◌∷◌, ◌+◌, ◌-◌, sym, subst, set, true, None, arith}
use Rattle.nd_base.specs.declared.frame.FrameName.{FrameName}
use Rattle.told_log.specs.ToldLogs.{ToldState}
use Rattle.board_rules.specs.RunMeasures.{run_setting, run_measure}
use Rattle.flow_journal.specs.declared.entry.Entry.TheVariants.{Take}
use Rattle.flow_journal.specs.Histories.{is_legal}
use Rattle.course_parts.specs.declared.hand.Hand.TheVariants.{Job}
use Rattle.board_rules.specs.States.{lends}
use Rattle.run_course.specs.Courses.{IsCourse, log_of}
use Rattle.run_course.proofs.Opening.{parts}
use Rattle.run_course.proofs.Begins.{may-take}
use Rattle.run_course.proofs.Finding.{node-found, role-found, few-jobs}
use Rattle.run_course.proofs.Reading.{place-of}
use Rattle.run_course.proofs.Coursing.{room-for, took_at}
use Rattle.queue_sort.specs.Inboxes.{InboxState}
use Rattle.run_course.proofs.course.Course.take.Goals as goal

pub overflow_add-state : goal.overflow_add-state
overflow_add-state g c =
    let m = run_measure g.F.Of.Run.graph g.F.Of.Run.stack in
    let s = run_setting g.F.Of.Run.graph g.F.Of.Run.stack in
    let n = c.index_mut-state.result.now in
    let k = parts c.self.inside in
    omega (
      arith,
      few-jobs m s k c.args.node n c.self.invariant c.requires.node
          (node-found m s k c.args.node n c.self.invariant c.requires.node c.index_mut-state.ensures.value),
    )

pub push_lent-requires-clause-room : goal.push_lent-requires-clause-room
push_lent-requires-clause-room g c =
    let m = run_measure g.F.Of.Run.graph g.F.Of.Run.stack in
    let s = run_setting g.F.Of.Run.graph g.F.Of.Run.stack in
    let k = parts c.self.inside in
    let h = c.requires in
    let r = c.args.role in
    let v = c.args.node in
    let legal : is_legal s (Take r v c.name-name.result.maker c.name-name.result.index ∷ log_of k) ≡ true =
    subst (λ (a : FrameName). is_legal s (Take r v a.maker a.index ∷ log_of k) ≡ true) (sym c.name-name.ensures)
    (may-take g.F.Named.name_of c.args.part.now s k c.args.self.now r v c.self.view_is c.self.invariant.ruled.pooled h.history
    h.role h.allowed h.passes h.next) in
    room-for m s k (Take r v c.name-name.result.maker c.name-name.result.index) c.self.invariant legal

pub invariant_of-self : goal.invariant_of-self
invariant_of-self g c =
    let m = run_measure g.F.Of.Run.graph g.F.Of.Run.stack in
    let s = run_setting g.F.Of.Run.graph g.F.Of.Run.stack in
    let k = parts c.self.inside in
    let h = c.requires in
    let r = c.args.role in
    let v = c.args.node in
    let n = c.index_mut-state.result.now in
    let x = c.index_mut.result.now in
    let a = c.name-name.result in
    let legal : is_legal s (Take r v a.maker a.index ∷ log_of k) ≡ true =
    subst (λ (b : FrameName). is_legal s (Take r v b.maker b.index ∷ log_of k) ≡ true) (sym c.name-name.ensures)
    (may-take g.F.Named.name_of c.args.part.now s k c.args.self.now r v c.self.view_is c.self.invariant.ruled.pooled h.history
    h.role h.allowed h.passes h.next) in
    subst (λ (l : ToldState). IsCourse m s (record k {
      log = l;
      nodes = set k.nodes (v - 1) (record n { inbox = c.pop.new.self; jobs = n.jobs + 1 });
      roles = set k.roles r (record x { hand = Job v a None });
    })) (sym c.push_lent.ensures)
    (subst (λ (b : InboxState FrameName). IsCourse m s
    (record k {
      log = record k.log { told = lends (Take r v a.maker a.index) (g.F.Held.parts c.args.part.now) ∷ k.log.told };
      nodes = set k.nodes
          (v - 1) (record n { inbox = b; jobs = n.jobs + 1 });
      roles = set k.roles r (record x { hand = Job v a None });
    })) (sym c.pop.ensures.rest)
    (took_at m s k v r (v - 1) a.maker a.index x n (g.F.Held.parts c.args.part.now) (place-of s v h.node).0 c.self.invariant legal
    (role-found m s k r x c.self.invariant h.role c.index_mut.ensures.value) (node-found m s k v n c.self.invariant h.node c.index_mut-state.ensures.value)))
