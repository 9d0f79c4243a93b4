use Rattle.std.proofs.Common.{◌∙◌, refl, ap, length}
use Rattle.board_rules.specs.RunMeasures.{run_setting, run_measure}
use Rattle.board_rules.specs.States.{past}
use Rattle.flow_journal.specs.Setting.{node}
use Rattle.run_course.specs.Courses.{IsCourse, Coursed}
use Rattle.run_course.proofs.Opening.{parts}
use Rattle.run_course.proofs.Finding.{node-found}
use Rattle.run_course.proofs.Finding.{work-at, group-saves, group-none, node-is}
use Rattle.flow_journal.specs.Unsaved.{standing_saves}
use Rattle.run_course.proofs.course.Course.next_group.Goals as goal

pub returns-in-Saves : goal.returns-in-Saves
returns-in-Saves g c =
    let m = run_measure g.F.Of.Run.graph g.F.Of.Run.stack in
    let s = run_setting g.F.Of.Run.graph g.F.Of.Run.stack in
    let k = parts c.self.inside in
    let i : IsCourse m s k = c.self.invariant in
    let v = c.args.node in
    let n = c.index.result.now in
    let at = node-found m s k v n i c.requires c.index.ensures in
    group-saves (node s v).work _ _ n.saves (length (standing_saves v (past c.args.self.now.told)))
    (work-at m s k v _ _ c.as_slice.result.now i c.requires c.as_slice.ensures c.in-Saves.is)
    ((node-is m s k v n i c.requires at).pieces ∙ ap (λ (w : Coursed). length (standing_saves v (past w.told))) c.self.view_is)

pub returns-in-Makes : goal.returns-in-Makes
returns-in-Makes g c =
    let m = run_measure g.F.Of.Run.graph g.F.Of.Run.stack in
    let s = run_setting g.F.Of.Run.graph g.F.Of.Run.stack in
    let k = parts c.self.inside in
    let i : IsCourse m s k = c.self.invariant in
    let v = c.args.node in
    group-none (node s v).work _ (length (standing_saves v (past c.args.self.now.told)))
    (work-at m s k v _ _ c.as_slice.result.now i c.requires c.as_slice.ensures refl) c.in-Makes.is
