use Rattle.std.proofs.Common.{◌∙◌, List, length, sym, ap, subst, arith}
use Rattle.std.specs.Prelude.{slice_get}
use Rattle.nd_base.specs.declared.frame.FrameName.{FrameName}
use Rattle.board_rules.specs.RunMeasures.{run_setting, run_measure}
use Rattle.board_rules.specs.States.{past}
use Rattle.run_course.specs.Courses.{IsCourse, Coursed, log_of}
use Rattle.course_parts.specs.NodeStates.{IsNode}
use Rattle.run_course.proofs.Opening.{parts}
use Rattle.flow_journal.specs.Queued.{queued}
use Rattle.run_course.proofs.Asking.{queue-items, queue-fits, some-there, first-next}
use Rattle.run_course.proofs.Finding.{node-found, node-is}
use Rattle.run_course.proofs.course.Course.next_queued.Goals as goal

pub next_of-requires-clause-some : goal.next_of-requires-clause-some
next_of-requires-clause-some g c =
    let m = run_measure g.F.Of.Run.graph g.F.Of.Run.stack in
    let s = run_setting g.F.Of.Run.graph g.F.Of.Run.stack in
    let k = parts c.self.inside in
    let i : IsCourse m s k = c.self.invariant in
    let v = c.args.node in
    let n = c.index_mut.result.now in
    let here : IsNode m s v (past c.args.self.now.told) n =
    subst (λ (w : Coursed). IsNode m s v (past w.told) n) c.self.view_is
    (node-is m s k v n i c.requires.node (node-found m s k v n i c.requires.node c.index_mut.ensures.value)) in
    omega (arith, ap length (queue-items m s v (past c.args.self.now.told) n here), some-there (queued v (past c.args.self.now.told)) c.requires.some)

pub next_of-requires-clause-fits : goal.next_of-requires-clause-fits
next_of-requires-clause-fits g c =
    let m = run_measure g.F.Of.Run.graph g.F.Of.Run.stack in
    let s = run_setting g.F.Of.Run.graph g.F.Of.Run.stack in
    let k = parts c.self.inside in
    let i : IsCourse m s k = c.self.invariant in
    let v = c.args.node in
    let n = c.index_mut.result.now in
    queue-fits m s v (log_of k) n (node-is m s k v n i c.requires.node (node-found m s k v n i c.requires.node c.index_mut.ensures.value))

pub returns-clause-next : goal.returns-clause-next
returns-clause-next g c =
    let m = run_measure g.F.Of.Run.graph g.F.Of.Run.stack in
    let s = run_setting g.F.Of.Run.graph g.F.Of.Run.stack in
    let k = parts c.self.inside in
    let i : IsCourse m s k = c.self.invariant in
    let v = c.args.node in
    let n = c.index_mut.result.now in
    let P = past c.args.self.now.told in
    let here : IsNode m s v P n =
    subst (λ (w : Coursed). IsNode m s v (past w.told) n) c.self.view_is
    (node-is m s k v n i c.requires.node (node-found m s k v n i c.requires.node c.index_mut.ensures.value)) in
    first-next (queued v P) c.next_of.result (ap (λ (xs : List FrameName). slice_get xs 0) (sym (queue-items m s v P n here)) ∙ c.next_of.ensures.next)
