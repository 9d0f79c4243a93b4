use Rattle.std.proofs.Common.{◌≡◌, ◌∙◌, sym, ap, subst, true}
use Rattle.std.proofs.lemmas.Bool.{and_parts}
use Rattle.board_rules.specs.RunMeasures.{run_setting}
use Rattle.board_rules.specs.States.{BoardState, past}
use Rattle.board_rules.specs.Moving.{with_all}
use Rattle.flow_journal.specs.Histories.{is_legal}
use Rattle.run_course.specs.Courses.{Coursed}
use Rattle.run_course.specs.Leaving.{flush}
use Rattle.flow_emit.proofs.Flushing.{may-settle, settle-legal, moved-none, moved-flush}
use Rattle.flow_emit.proofs.settling.settle_plain.Goals as goal

pub note_settle-requires-clause-legal : goal.note_settle-requires-clause-legal
note_settle-requires-clause-legal g c =
    let s = run_setting g.F.Of.Run.graph g.F.Of.Run.stack in
    let h = c.requires in
    may-settle s c.args.course.now.told c.args.role c.args.node h.history h.role h.node h.ready h.unsettled

pub flush-requires-clause-sorted : goal.flush-requires-clause-sorted
flush-requires-clause-sorted g c = sym c.is_sorted.ensures ∙ c.if-is_sorted.true

pub flush-requires-clause-still : goal.flush-requires-clause-still
flush-requires-clause-still g c = ap (λ (w : Coursed). w.transit) c.note_settle.ensures ∙ c.requires.still

pub flush-requires-clause-legal : goal.flush-requires-clause-legal
flush-requires-clause-legal g c =
    let s = run_setting g.F.Of.Run.graph g.F.Of.Run.stack in
    let h = c.requires in
    let r = c.args.role in
    let v = c.args.node in
    let b = c.args.course.now.told in
    subst (λ (w : Coursed). is_legal s (past (with_all s 0 2 (flush s v (past w.told)) w.told)) ≡ true) (sym c.note_settle.ensures)
    (subst (λ (d : BoardState). is_legal s (past d) ≡ true) (moved-flush s r v b)
    (and_parts _ _ (settle-legal s b r v h.history h.role h.node h.ready h.unsettled)).0)

pub returns-then-is_sorted : goal.returns-then-is_sorted
returns-then-is_sorted g c =
    let s = run_setting g.F.Of.Run.graph g.F.Of.Run.stack in
    let r = c.args.role in
    let v = c.args.node in
    let old = c.args.course.now in
    c.flush.ensures
    ∙ (ap (λ (x : Coursed). record x { told = with_all s 0 2 (flush s v (past x.told)) x.told }) c.note_settle.ensures
    ∙ ap (λ (b : BoardState). record old { told = b }) (sym (moved-flush s r v old.told)))

pub returns-else-is_sorted : goal.returns-else-is_sorted
returns-else-is_sorted g c =
    let s = run_setting g.F.Of.Run.graph g.F.Of.Run.stack in
    let r = c.args.role in
    let v = c.args.node in
    let old = c.args.course.now in
    c.note_settle.ensures
    ∙ ap (λ (b : BoardState). record old { told = b }) (sym (moved-none s r v old.told (sym c.is_sorted.ensures ∙ c.if-is_sorted.false)))
