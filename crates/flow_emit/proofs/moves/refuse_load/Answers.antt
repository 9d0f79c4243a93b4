use Rattle.std.proofs.Common.{◌≡◌, ◌∷◌, [], refl, sym, subst, true}
use Rattle.board_rules.specs.RunMeasures.{run_setting}
use Rattle.board_rules.specs.States.{past}
use Rattle.board_rules.specs.Moving.{with_all}
use Rattle.flow_journal.specs.declared.entry.Entry.TheVariants.{Tick}
use Rattle.flow_journal.specs.Ended.{now}
use Rattle.flow_journal.specs.Histories.{is_legal}
use Rattle.run_course.specs.Courses.{Coursed}
use Rattle.std.proofs.lemmas.Bool.{and_parts}
use Rattle.run_course.proofs.Begins.{refuse-legal}
use Rattle.flow_emit.proofs.moves.refuse_load.Goals as goal

pub tick-requires-clause-legal : goal.tick-requires-clause-legal
tick-requires-clause-legal g c =
    let s = run_setting g.F.Of.Run.graph g.F.Of.Run.stack in
    let h = c.requires in
    let r = c.args.role in
    let old = c.args.course.now in
    subst (λ (w : Coursed). is_legal s (past (with_all s c.args.tick 3 (Tick (now (past w.told)) ∷ []) w.told)) ≡ true) (sym c.note_refusal.ensures)
    (and_parts _ _ (refuse-legal {B = g.row.F-Blank.Denot} s old.told r c.args.tick refl h.history h.role h.allowed h.refused)).0
