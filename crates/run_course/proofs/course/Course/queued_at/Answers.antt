use Rattle.std.proofs.Common.{◌≡◌, ◌∙◌, ◌-◌, ap, length, Some, arith}
use Rattle.std.specs.Prelude.{slice_get}
use Rattle.nd_base.specs.declared.frame.FrameName.{FrameName}
use Rattle.queue_sort.specs.Inboxes.{InboxState}
use Rattle.flow_journal.specs.Queued.{queued}
use Rattle.board_rules.specs.RunMeasures.{run_setting, run_measure}
use Rattle.board_rules.specs.States.{past}
use Rattle.run_course.specs.Courses.{Coursed, IsCourse}
use Rattle.run_course.proofs.Opening.{parts}
use Rattle.run_course.proofs.Reading.{read-at, place-of}
use Rattle.run_course.proofs.Coursing.{node-is}
use Rattle.run_course.proofs.course.Course.queued_at.Goals as goal

pub returns : goal.returns
returns g c =
    let s = run_setting g.F.Of.Run.graph g.F.Of.Run.stack in
    let m = run_measure g.F.Of.Run.graph g.F.Of.Run.stack in
    let k = parts c.self.inside in
    let i : IsCourse m s k = c.self.invariant in
    let v = c.args.v in
    let q = place-of s v c.requires in
    let n = c.index.result.now in
    let at : slice_get k.nodes (v - 1) ≡ Some n = read-at k.nodes (v - 1) n (omega (arith, q.1, i.nodes.all)) c.index.ensures in
    c.len.ensures.len
    ∙ (ap (λ (b : InboxState FrameName). length b.items) (node-is m s k v (v - 1) n q.0 i at).inbox
    ∙ ap (λ (x : Coursed). length (queued v (past x.told))) c.self.view_is)
