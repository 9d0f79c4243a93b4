use Rattle.std.proofs.Common.{◌≡◌, false, not, sym, ap, ◌∙◌}
use Rattle.std.specs.Option.{is_some}
use Rattle.std.proofs.lemmas.Bool.{false≢true}
use Rattle.journal_check.specs.declared.frame.Size.{Size}
use Rattle.flow_journal.specs.FirstEntries.{may_load}
use Rattle.board_rules.specs.States.{past}
use Rattle.board_rules.specs.RunMeasures.{run_setting}
use Rattle.journal_check.proofs.Refusals.{load_no, load_stranger}
use Rattle.journal_check.proofs.loads.may_load.Goals.{then-is_role, else-is_role}
use Rattle.journal_check.proofs.loads.may_load.Goals as goal

pub returns-else-is_none : goal.returns-else-is_none
returns-else-is_none g c =
    let s = run_setting g.R.Run.graph g.R.Run.stack in
    let P = past c.args.course.now.told in
    let no_ : may_load s c.args.role c.args.index P ≡ false =
    elim c.if-is_role.branch [
      | then-is_role w ↦ load_no {B = Size} s c.args.role c.args.index P
          (λ e. false≢true (sym (ap is_some (w.load_refusal.ensures ∙ e)) ∙ (w.is_none.ensures ∙ ap not (sym w.value-is ∙ c.if-is_none.false))))
      | else-is_role w ↦ load_stranger s c.args.role c.args.index P (sym c.is_role.ensures ∙ w.if-is_role.false)
    ] in
    c.if-is_none.false ∙ sym no_
