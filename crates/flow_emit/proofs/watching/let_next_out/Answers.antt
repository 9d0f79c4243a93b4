use Rattle.std.proofs.Common.{◌≡◌, ◌<◌, ◌≤◌, true, subst, length, List, Some, arith}
use Rattle.std.specs.Prelude.{slice_get}
use Rattle.flow_journal.specs.declared.entry.Entry.{Entry}
use Rattle.flow_journal.specs.declared.entry.Why.TheVariants.{Ring, Now}
use Rattle.flow_journal.specs.Histories.{is_legal}
use Rattle.board_rules.specs.Moving.{with_all}
use Rattle.board_rules.specs.RunMeasures.{run_setting}
use Rattle.board_rules.specs.States.{past}
use Rattle.flow_emit.proofs.Ringing.{first-out, first-out-legal}
use Rattle.flow_emit.proofs.watching.let_next_out.Goals.{then-moving-gt1, else-moving-gt1}
use Rattle.flow_emit.proofs.watching.let_next_out.Goals as goal

pub emit-requires-clause-legal : goal.emit-requires-clause-legal
emit-requires-clause-legal g c =
    let s = run_setting g.F.Of.Run.graph g.F.Of.Run.stack in
    let v = c.args.node in
    let ts = c.args.course.now.transit in
    let told = c.args.course.now.told in
    let name = c.next_moving-name.result in
    let why = c.if-moving-gt1.why in
    let next : slice_get ts 0 ≡ Some name = c.next_moving-name.ensures in
    let more : 1 < length ts → why ≡ Ring = elim c.if-moving-gt1.branch [
      | then-moving-gt1 w ↦ λ h. w.why-is
      | else-moving-gt1 w ↦ λ h. absurd (omega (arith, h, w.if-moving-gt1.false, c.moving.ensures))
    ] in
    let last : length ts ≤ 1 → why ≡ Now = elim c.if-moving-gt1.branch [
      | then-moving-gt1 w ↦ λ h. absurd (omega (arith, h, w.if-moving-gt1.true, c.moving.ensures))
      | else-moving-gt1 w ↦ λ h. w.why-is
    ] in
    subst (λ (ds : List Entry). is_legal s (past (with_all s 0 2 ds told)) ≡ true) (first-out v ts name why next more last)
    (first-out-legal s v ts told c.requires.legal)
