use Rattle.std.proofs.Common.{◌≡◌, ◌∙◌, sym, ap, subst, true}
use Rattle.board_rules.specs.RunMeasures.{run_setting}
use Rattle.board_rules.specs.States.{BoardState, past}
use Rattle.flow_journal.specs.Histories.{is_legal}
use Rattle.run_course.specs.Courses.{Coursed}
use Rattle.flow_emit.specs.Ticks.{all_looked}
use Rattle.flow_emit.proofs.Ticking.{tick-legal, tick-looks}
use Rattle.flow_emit.proofs.ticks.tick.Goals as goal

pub note_tick-requires : goal.note_tick-requires
note_tick-requires g c =
    let s = run_setting g.F.Of.Run.graph g.F.Of.Run.stack in
    (tick-legal s c.args.tick c.args.course.now.told c.requires.legal).0

pub look_at_all-requires-clause-still : goal.look_at_all-requires-clause-still
look_at_all-requires-clause-still g c = ap (λ (w : Coursed). w.transit) c.note_tick.ensures ∙ c.requires.still

pub look_at_all-requires-clause-legal : goal.look_at_all-requires-clause-legal
look_at_all-requires-clause-legal g c =
    let s = run_setting g.F.Of.Run.graph g.F.Of.Run.stack in
    subst (λ (w : Coursed). is_legal s (past (all_looked s w.told)) ≡ true) (sym c.note_tick.ensures)
    (tick-legal s c.args.tick c.args.course.now.told c.requires.legal).1

pub returns : goal.returns
returns g c =
    let s = run_setting g.F.Of.Run.graph g.F.Of.Run.stack in
    let old = c.args.course.now in
    c.look_at_all.ensures
    ∙ (ap (λ (w : Coursed). record w { told = all_looked s w.told }) c.note_tick.ensures
    ∙ ap (λ (b : BoardState). record old { told = b }) (sym (tick-looks s c.args.tick old.told)))
