use Rattle.std.proofs.Common.{◌∙◌, [], sym, ap}
use Rattle.board_rules.specs.RunMeasures.{run_setting}
use Rattle.run_course.specs.Courses.{Coursed}
use Rattle.run_course.proofs.Finding.{coursed-as}
use Rattle.flow_emit.proofs.Flushing.{may-settle, moved-none, circular-unsorted}
use Rattle.flow_emit.proofs.settling.settle_circular.Goals as goal

pub note_ring-requires-clause-legal : goal.note_ring-requires-clause-legal
note_ring-requires-clause-legal g c =
    let s = run_setting g.F.Of.Run.graph g.F.Of.Run.stack in
    let h = c.requires in
    may-settle s c.args.course.now.told c.args.role c.args.node h.history h.role h.node h.ready h.unsettled

pub returns : goal.returns
returns g c =
    let s = run_setting g.F.Of.Run.graph g.F.Of.Run.stack in
    let h = c.requires in
    let old = c.args.course.now in
    c.release_all.ensures
    ∙ (ap (λ (w : Coursed). record w { transit = [] }) c.note_ring.ensures
    ∙ coursed-as (sym (moved-none s c.args.role c.args.node old.told (circular-unsorted s c.args.node h.kind))) (sym h.still))
