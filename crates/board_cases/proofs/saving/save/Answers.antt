use Rattle.std.proofs.Common.{sym, subst, ◌∙◌}
use Rattle.flow_journal.specs.Setting.{last_role}
use Rattle.board_rules.specs.RunMeasures.{run_setting}
use Rattle.board_cases.specs.Hands.{piece_of}
use Rattle.board_cases.specs.Seats.{HoldsPiece}
use Rattle.board_cases.proofs.SaverHands.{none-free, save-stays, save-holds}
use Rattle.board_cases.proofs.saving.save.Goals as goal

pub returns-then-is_still : goal.returns-then-is_still
returns-then-is_still g c =
    let s = run_setting g.R.Run.graph g.R.Run.stack in
    let old = g.D.Desk.knows c.args.saver.now.pass in
    let new = g.D.Desk.knows c.save-answer.new.pass in
    let o = c.args.saver.now.piece in
    let held = subst (λ r. HoldsPiece r old o) (sym c.requires.role) c.requires.saving.holds in
    record {
      ours_ = c.save-answer.ensures.ours;
      holds =
          subst (λ r. HoldsPiece r new o) c.requires.role
          (save-stays s c.args.role old new c.args.node c.save-answer.result o (sym c.is_still.ensures ∙ c.if-is_still.true) c.save-answer.ensures.called held);
    }

pub returns : goal.returns
returns g c =
    let s = run_setting g.R.Run.graph g.R.Run.stack in
    let old = g.D.Desk.knows c.args.saver.now.pass in
    let new = g.D.Desk.knows c.save-answer.new.pass in
    let held = subst (λ r. HoldsPiece r old c.args.saver.now.piece) (sym c.requires.role) c.requires.saving.holds in
    let nothing = none-free c.args.role old c.args.saver.now.piece (sym c.is_some.ensures ∙ c.if-is_some.false) held in
    record {
      ours_ = c.save-answer.ensures.ours;
      holds =
          subst (λ o. HoldsPiece (last_role s) new o) (sym c.due_piece.ensures)
          (subst (λ r. HoldsPiece r new (piece_of c.save-answer.result)) c.requires.role
          (save-holds s c.args.role old new c.args.node c.save-answer.result nothing c.save-answer.ensures.called c.save-answer.ensures.lent));
    }
