use Rattle.std.proofs.Common.{◌≡◌, ◌<◌, ◌+◌, ◌∙◌, sym, subst, length, arith}
use Rattle.board_rules.specs.RunMeasures.{run_setting}
use Rattle.flow_emit.specs.Ticks.{LooksMade}
use Rattle.flow_emit.proofs.Ticking.{look-legal, looked, passed-over, looked-at-all}
use Rattle.flow_emit.proofs.ticks.look_at_all.Goals.{then-is_sorted, else-is_sorted}
use Rattle.flow_emit.proofs.ticks.look_at_all.Goals as goal

pub look-requires-clause-legal : goal.look-requires-clause-legal
look-requires-clause-legal g c =
    let s = run_setting g.F.Of.Run.graph g.F.Of.Run.stack in
    let count : c.node_count-place-end.result ≡ length s.nodes = c.node_count-place-end.ensures in
    look-legal s c.loop-place.place c.args.course.now c.loop-place.course
    (omega (arith, count, c.loop-place-test.true)) (sym c.is_sorted.ensures ∙ c.if-is_sorted.true) c.loop-place.invariant c.requires.legal

pub loop-place-preserved : goal.loop-place-preserved
loop-place-preserved g c =
    let s = run_setting g.F.Of.Run.graph g.F.Of.Run.stack in
    let count : c.node_count-place-end.result ≡ length s.nodes = c.node_count-place-end.ensures in
    let lt : c.loop-place.place < length s.nodes = omega (arith, count, c.loop-place-test.true) in
    elim c.if-is_sorted.branch [
      | then-is_sorted w ↦ subst (LooksMade s (c.loop-place.place + 1) c.args.course.now) (sym (w.course-is ∙ w.look.ensures))
          (looked s c.loop-place.place c.args.course.now c.loop-place.course lt (sym c.is_sorted.ensures ∙ w.if-is_sorted.true) c.loop-place.invariant)
      | else-is_sorted w ↦ subst (LooksMade s (c.loop-place.place + 1) c.args.course.now) (sym w.course-is)
          (passed-over s c.loop-place.place c.args.course.now c.loop-place.course lt (sym c.is_sorted.ensures ∙ w.if-is_sorted.false) c.loop-place.invariant)
    ]

pub returns : goal.returns
returns g c =
    let s = run_setting g.F.Of.Run.graph g.F.Of.Run.stack in
    let count : c.node_count-place-end.result ≡ length s.nodes = c.node_count-place-end.ensures in
    looked-at-all s c.loop-place.place c.args.course.now c.loop-place.course (omega (arith, count, c.loop-place-test.false)) c.requires.still c.loop-place.invariant
