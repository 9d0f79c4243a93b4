use Rattle.std.proofs.Common.{◌≡◌, ◌++◌, true, sym, subst}
use Rattle.flow_journal.specs.Pasts.{Past}
use Rattle.board_rules.specs.States.{past}
use Rattle.board_rules.specs.Storage.{is_never_regrown}
use Rattle.flow_journal.specs.Setting.{last_role}
use Rattle.board_rules.specs.RunMeasures.{run_setting}
use Rattle.flow_roles.specs.Feeder.{name_of}
use Rattle.flow_drain.proofs.Growth.{none-held}
use Rattle.flow_saver.specs.Remaining.{IsSavingAlone}
use Rattle.flow_saver.proofs.Handing.{free-alone, drained-alone}
use Rattle.flow_saver.proofs.KeptNames.{saving-kept}
use Rattle.flow_run.specs.Strangers.{AreOwnMoves}
use Rattle.flow_run.specs.Ticks.{IsFedByTheClock}
use Rattle.flow_run.specs.RunFiles.{HasSavedRun}
use Rattle.flow_run.proofs.Finishing.{ready-once, ready-left, run-own, run-ticks, run-storage, saved-run, run-kept, run-begins}
use Rattle.flow_run.proofs.run.finish_run.Goals as goal

pub drain-requires-clause-free : goal.drain-requires-clause-free
drain-requires-clause-free g c =
    free-alone g.R.Run.graph g.R.Run.stack c.requires.left.0 c.requires.left.1.0 _ _ _ _
    (c.in_ok-save_unsaved.ensures.saving c.requires.left.0 c.requires.left.1.0 c.requires.left.1.1)

pub drain-requires-clause-once : goal.drain-requires-clause-once
drain-requires-clause-once g c =
    ready-once g.R.Run.graph g.R.Run.stack (g.B.BoardCalls.shown c.args.board)
    (g.B.BoardCalls.shown c.save_unsaved.new.board) c.requires.joined.0 c.args.lefts.items c.requires.joined.1.0 c.requires.joined.1.1
    c.save_unsaved.ensures.moves

pub drain-requires-clause-left : goal.drain-requires-clause-left
drain-requires-clause-left g c =
    ready-left g.R.Run.graph g.R.Run.stack (g.B.BoardCalls.shown c.args.board)
    (g.B.BoardCalls.shown c.save_unsaved.new.board) c.requires.joined.0 c.args.lefts.items c.requires.joined.1.0 c.requires.joined.1.1
    c.save_unsaved.ensures.moves

pub save_rest-requires-clause-saving : goal.save_rest-requires-clause-saving
save_rest-requires-clause-saving g c =
    let s = run_setting g.R.Run.graph g.R.Run.stack in
    let ready = c.in_ok-save_unsaved.ensures.saving c.requires.left.0 c.requires.left.1.0 c.requires.left.1.1 in (
      c.requires.left.0,
      (
        c.requires.left.1.0,
        drained-alone name_of g.R.Run.graph g.R.Run.stack c.requires.left.0 c.requires.left.1.0 c.tick-tick.result c.args.lefts.items
            (g.B.BoardCalls.shown c.save_unsaved.new.board) (g.B.BoardCalls.shown c.drain.new.board) _ _ _
            c.drain.ensures.moves c.drain.ensures.legal
            (none-held (last_role s) (past (g.B.BoardCalls.shown c.drain.new.board)) c.in_ok-drain.ensures.done.free) ready,
      ),
    )

pub end_files-requires-clause-saving : goal.end_files-requires-clause-saving
end_files-requires-clause-saving g c =
    let s = run_setting g.R.Run.graph g.R.Run.stack in
    let ready = c.in_ok-save_unsaved.ensures.saving c.requires.left.0 c.requires.left.1.0 c.requires.left.1.1 in
    let done =
    drained-alone name_of g.R.Run.graph g.R.Run.stack c.requires.left.0 c.requires.left.1.0 c.tick-tick.result c.args.lefts.items
    (g.B.BoardCalls.shown c.save_unsaved.new.board) (g.B.BoardCalls.shown c.drain.new.board) _ _ _
    c.drain.ensures.moves c.drain.ensures.legal
    (none-held (last_role s) (past (g.B.BoardCalls.shown c.drain.new.board)) c.in_ok-drain.ensures.done.free) ready in
    (c.requires.left.0, (c.requires.left.1.0, c.in_ok-save_rest.ensures.saving c.requires.left.0 c.requires.left.1.0 done))

pub returns-clause-files : goal.returns-clause-files
returns-clause-files g c prefix before h =
    let s = run_setting g.R.Run.graph g.R.Run.stack in
    let ready = c.in_ok-save_unsaved.ensures.saving prefix before h in
    let done =
    drained-alone name_of g.R.Run.graph g.R.Run.stack prefix before c.tick-tick.result c.args.lefts.items (g.B.BoardCalls.shown c.save_unsaved.new.board)
    (g.B.BoardCalls.shown c.drain.new.board) _ _ _
    c.drain.ensures.moves c.drain.ensures.legal
    (none-held (last_role s) (past (g.B.BoardCalls.shown c.drain.new.board)) c.in_ok-drain.ensures.done.free) ready in
    let ended = c.in_ok-save_rest.ensures.saving prefix before done in
    subst (λ P. HasSavedRun g.R.Run.graph g.R.Run.stack prefix P before c.is_err-fault.result (g.K.Shelf.held c.end_files.new.shelf))
    (sym c.into_parts-log.ensures.log)
    (saved-run g.R.Run.graph g.R.Run.stack (past (g.B.BoardCalls.shown c.save_rest.new.board)) (g.K.Shelf.held c.end_files.new.shelf)
    (λ p b. IsSavingAlone g.R.Run.graph g.R.Run.stack p b (g.B.BoardCalls.shown c.save_rest.new.board) c.save_rest.new.files c.save_rest.new.fault
    (g.K.Shelf.held c.save_rest.new.shelf))
    prefix before c.end_files.result c.is_err-fault.result c.is_err-fault.ensures.value ended c.end_files.ensures.ok c.end_files.ensures.err)

pub returns-clause-elsewhere : goal.returns-clause-elsewhere
returns-clause-elsewhere g c prefix before h =
    run-kept g.R.Run.graph g.R.Run.stack c.requires.graph prefix before _ _ _ (returns-clause-files g c prefix before h)

pub returns-in_err-drain-clause-elsewhere : goal.returns-in_err-drain-clause-elsewhere
returns-in_err-drain-clause-elsewhere g c prefix before h =
    saving-kept g.R.Run.graph g.R.Run.stack c.requires.graph prefix before _ _ _ _ (c.in_ok-save_unsaved.ensures.saving prefix before h)

pub returns-in_err-save_rest-clause-elsewhere : goal.returns-in_err-save_rest-clause-elsewhere
returns-in_err-save_rest-clause-elsewhere g c prefix before h =
    let s = run_setting g.R.Run.graph g.R.Run.stack in
    c.in_err-save_rest.ensures.elsewhere prefix before
    (drained-alone name_of g.R.Run.graph g.R.Run.stack prefix before c.tick-tick.result c.args.lefts.items
    (g.B.BoardCalls.shown c.save_unsaved.new.board) (g.B.BoardCalls.shown c.drain.new.board) _ _ _ c.drain.ensures.moves c.drain.ensures.legal
    (none-held (last_role s) (past (g.B.BoardCalls.shown c.drain.new.board)) c.in_ok-drain.ensures.done.free)
    (c.in_ok-save_unsaved.ensures.saving prefix before h))

pub returns-clause-roles : goal.returns-clause-roles
returns-clause-roles g c =
    let saving = c.in_ok-save_unsaved.ensures.saving c.requires.left.0 c.requires.left.1.0 c.requires.left.1.1 in
    subst (λ P. AreOwnMoves (run_setting g.R.Run.graph g.R.Run.stack) P) (sym c.into_parts-log.ensures.log)
    (run-own g.R.Run.graph g.R.Run.stack (g.B.BoardCalls.shown c.args.board)
    (g.B.BoardCalls.shown c.save_unsaved.new.board) c.requires.joined.0 c.args.lefts.items c.requires.joined.1.0 c.requires.joined.1.1
    c.save_unsaved.ensures.moves c.tick-tick.result (g.B.BoardCalls.shown c.drain.new.board)
    (g.B.BoardCalls.shown c.save_rest.new.board) c.drain.ensures.moves c.save_rest.ensures.moves c.requires.graph
    c.requires.left.0 c.requires.left.1.0 _ _ _ saving c.drain.ensures.begins c.drain.ensures.still)

pub returns-clause-ticks : goal.returns-clause-ticks
returns-clause-ticks g c old fed =
    subst (λ P. IsFedByTheClock (run_setting g.R.Run.graph g.R.Run.stack) P old (g.C.Clock.coming c.tick-tick.new.self)) (sym c.into_parts-log.ensures.log)
    (run-ticks g.R.Run.graph g.R.Run.stack (g.B.BoardCalls.shown c.args.board)
    (g.B.BoardCalls.shown c.save_unsaved.new.board) c.requires.joined.0 c.args.lefts.items c.requires.joined.1.0 c.requires.joined.1.1
    c.save_unsaved.ensures.moves c.tick-tick.result (g.B.BoardCalls.shown c.drain.new.board)
    (g.B.BoardCalls.shown c.save_rest.new.board) c.drain.ensures.moves c.save_rest.ensures.moves
    old (g.C.Clock.coming c.args.clock.now) (g.C.Clock.coming c.tick-tick.new.self) fed c.tick-tick.ensures)

pub returns-clause-storage : goal.returns-clause-storage
returns-clause-storage g c =
    subst (λ P. is_never_regrown P ≡ true) (sym c.into_parts-log.ensures.log)
    (run-storage g.R.Run.graph g.R.Run.stack (g.B.BoardCalls.shown c.args.board)
    (g.B.BoardCalls.shown c.save_unsaved.new.board) c.requires.joined.0 c.args.lefts.items c.requires.joined.1.0 c.requires.joined.1.1
    c.save_unsaved.ensures.moves c.tick-tick.result (g.B.BoardCalls.shown c.drain.new.board)
    (g.B.BoardCalls.shown c.save_rest.new.board) c.drain.ensures.moves c.save_rest.ensures.moves)

pub returns-clause-begins : goal.returns-clause-begins
returns-clause-begins g c =
    subst (λ P. (newer : Past) × (P ≡ newer ++ past (g.B.BoardCalls.shown c.args.board))) (sym c.into_parts-log.ensures.log)
    (run-begins (run_setting g.R.Run.graph g.R.Run.stack) (g.B.BoardCalls.shown c.args.board) (g.B.BoardCalls.shown c.save_unsaved.new.board)
    (g.B.BoardCalls.shown c.drain.new.board) (g.B.BoardCalls.shown c.save_rest.new.board) c.save_unsaved.ensures.moves c.drain.ensures.begins
    c.save_rest.ensures.moves)
