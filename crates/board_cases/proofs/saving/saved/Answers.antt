use Rattle.std.proofs.Common.{◌≡◌, sym, subst, ◌∙◌, Some}
use Rattle.board_rules.specs.RunMeasures.{run_setting}
use Rattle.flow_roles.specs.RoleMoves.{saver_logs, HasNothing}
use Rattle.board_cases.specs.Seats.{HoldsPiece}
use Rattle.board_cases.proofs.SaverHands.{saved-holds}
use Rattle.board_cases.proofs.saving.saved.Goals as goal

pub returns : goal.returns
returns g c =
    let s = run_setting g.R.Run.graph g.R.Run.stack in
    let old = g.D.Desk.knows c.args.saver.now.pass in
    let new = g.D.Desk.knows c.saved.new.pass in
    let is : c.args.saver.now.piece ≡ Some c.in-Some.piece = sym c.take.ensures.value ∙ c.in-Some.is in
    let held =
    subst (λ o. HoldsPiece c.args.role old o) is (subst (λ r. HoldsPiece r old c.args.saver.now.piece) (sym c.requires.role) c.requires.saving.holds) in
    record {
      ours_ = c.saved.ensures.ours;
      holds =
          subst (λ o. HoldsPiece _ new o) (sym c.take.ensures.after)
          (subst (λ r. HasNothing saver_logs r new) c.requires.role
          (saved-holds s c.args.role old new c.in-Some.piece c.in-Ok.field-0 held c.in-Ok.ensures.called));
    }
