use Rattle.std.proofs.Common.{◌≡◌, ◌∷◌, [], refl, sym, subst, true}
use Rattle.board_rules.specs.RunMeasures.{run_setting}
use Rattle.board_rules.specs.States.{past}
use Rattle.board_rules.specs.Moving.{with_all}
use Rattle.flow_journal.specs.declared.entry.Entry.TheVariants.{Tick}
use Rattle.flow_journal.specs.Ended.{now}
use Rattle.flow_journal.specs.Histories.{is_legal}
use Rattle.run_course.specs.Courses.{Coursed}
use Rattle.std.proofs.lemmas.Bool.{and_parts}
use Rattle.run_course.proofs.Begins.{load-legal}
use Rattle.flow_emit.proofs.moves.load.Goals as goal

pub tick-requires-clause-legal : goal.tick-requires-clause-legal
tick-requires-clause-legal g c =
    let s = run_setting g.F.Of.Run.graph g.F.Of.Run.stack in
    let h = c.requires in
    let old = c.args.course.now in
    subst (λ (w : Coursed). is_legal s (past (with_all s c.args.tick 3 (Tick (now (past w.told)) ∷ []) w.told)) ≡ true) (sym c.in_ok-note_load.ensures.loaded)
    (and_parts _ _ (load-legal {B = g.row.F-Blank.Denot} s old.told c.args.role c.args.tick c.args.grant.block c.args.grant.size c.args.grant.fresh
    c.args.grant.given_up c.args.regrown refl h.history h.role h.allowed h.granted h.stale)).0
