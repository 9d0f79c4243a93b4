use Rattle.std.proofs.Common.{List, length, sym, ap, subst, ◌∙◌}
use Rattle.std.proofs.lemmas.List.{take_rest}
use Rattle.flow_journal.specs.declared.entry.Entry.{Entry}
use Rattle.board_rules.specs.States.{past}
use Rattle.board_rules.specs.RunMeasures.{run_setting}
use Rattle.journal_check.specs.Steps.{next_tick, IsBegun}
use Rattle.journal_check.proofs.Moving.{grown, step-begun}
use Rattle.journal_check.proofs.step.next_step.Goals as goal

pub slice_bounds-compared-count : goal.slice_bounds-compared-count
slice_bounds-compared-count g c =
    grown (run_setting g.R.Run.graph g.R.Run.stack) _ _ c.args.course.now.told c.try_move.new.course.told c.in_ok-try_move.field-0
    c.entries-before.result.now c.entries.result.now c.entries-before.ensures c.entries.ensures c.in_ok-try_move.ensures.tries c.if-not-branch.false

pub slice_bounds-compared-start : goal.slice_bounds-compared-start
slice_bounds-compared-start g c =
    grown (run_setting g.R.Run.graph g.R.Run.stack) _ _ c.args.course.now.told c.try_move.new.course.told c.in_ok-try_move.field-0
    c.entries-before.result.now c.entries.result.now c.entries-before.ensures c.entries.ensures c.in_ok-try_move.ensures.tries c.if-not-branch.false

pub returns-clause-step : goal.returns-clause-step
returns-clause-step g c =
    let s = run_setting g.R.Run.graph g.R.Run.stack in
    let P = past c.args.course.now.told in
    let Q = past c.try_move.new.course.told in
    let es = c.args.entries.now in
    let before = c.entries-before.result.now in
    let later = c.entries.result.now in
    c.compared.ensures s P Q
    (subst (λ (xs : List Entry). IsBegun s P xs es Q) (sym (take_rest later (length before)))
    (step-begun s c.args.course.now.told c.try_move.new.course.told c.next_tick-tick.result es _ c.in_ok-try_move.field-0
    before later c.entries-before.ensures c.entries.ensures c.requires.history c.requires.some
    (c.next_tick-tick.ensures ∙ ap next_tick (take_rest es 1)) c.in_ok-try_move.ensures.tries c.if-not-branch.false))
