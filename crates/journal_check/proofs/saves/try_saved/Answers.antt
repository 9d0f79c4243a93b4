use Rattle.std.proofs.Common.{sym, refl, ◌∙◌}
use Rattle.board_rules.specs.States.{past}
use Rattle.board_rules.specs.RunMeasures.{run_setting}
use Rattle.flow_journal.specs.Hands.{hand}
use Rattle.journal_check.proofs.Refusals.{no_piece, other_piece, other-node}
use Rattle.journal_check.proofs.saves.try_saved.Goals.{then-not-is_role-via-then-not-is_role, then-not-is_role-via-else-not-is_role+then-not-is_piece_on}
use Rattle.journal_check.proofs.saves.try_saved.Goals.{then-not-is_role-via-else-not-is_role+else-not-is_piece_on+then-hand_node-act}
use Rattle.journal_check.proofs.saves.try_saved.Goals as goal

pub returns-then-not-is_role-clause-tries : goal.returns-then-not-is_role-clause-tries
returns-then-not-is_role-clause-tries g c =
    let s = run_setting g.R.Run.graph g.R.Run.stack in
    let P = past c.args.course.now.told in
    let o = hand c.args.act.role P in
    elim c.then-not-is_role.branch [
      | then-not-is_role-via-then-not-is_role w ↦
          (no_piece s c.args.act.role c.args.act.node c.args.act.name P c.requires.history (sym c.is_role.ensures ∙ w.if-not-is_role.true), refl)
      | then-not-is_role-via-else-not-is_role+then-not-is_piece_on w ↦
          (other_piece c.args.act.node c.args.act.name o (sym w.is_piece_on.ensures ∙ w.if-not-is_piece_on.true), refl)
      | then-not-is_role-via-else-not-is_role+else-not-is_piece_on+then-hand_node-act w ↦
          (other-node c.args.act.node c.args.act.name o (λ e. w.if-hand_node-act.true (w.hand_node.ensures ∙ e)), refl)
    ]
