use Rattle.std.proofs.Common.{◌≡◌, ◌∷◌, ℕ, Some, refl, sym, subst, ◌∙◌}
use Rattle.flow_journal.specs.declared.entry.Entry.TheVariants as entry
use Rattle.flow_journal.specs.Setting.{last_role}
use Rattle.flow_journal.specs.Hands.{hand}
use Rattle.board_rules.specs.States.{past, plain}
use Rattle.board_rules.specs.RunMeasures.{run_setting}
use Rattle.board_rules.proofs.Moves.{moves-tell}
use Rattle.flow_saver.specs.Saver.{back_of}
use Rattle.flow_saver.proofs.KeptNames.{saving-kept, unsaved-kept}
use Rattle.flow_saver.proofs.Remains.{to-give-alone, unsaved-still, back-moves}
use Rattle.flow_saver.proofs.Resting.{rest-none}
use Rattle.flow_saver.proofs.remaining.save_left.Goals as goal

pub write_due-requires-clause-unsaved : goal.write_due-requires-clause-unsaved
write_due-requires-clause-unsaved g c =
    let gr = g.R.Run.graph in
    let stack = g.R.Run.stack in
    let xs = c.args.files.now in
    let held = g.K.Shelf.held c.args.shelf.now in
    let b = g.B.BoardCalls.shown c.args.board.now in
    let h = c.requires.unsaved in
    (_, (_, (_, h.1.1.unsaved)))

pub return_piece-requires-clause-held : goal.return_piece-requires-clause-held
return_piece-requires-clause-held g c =
    let gr = g.R.Run.graph in
    let stack = g.R.Run.stack in
    let xs = c.args.files.now in
    let held = g.K.Shelf.held c.args.shelf.now in
    let b = g.B.BoardCalls.shown c.args.board.now in
    let stands = g.K.Shelf.held c.write_due.new.shelf in
    let h = c.requires.unsaved in (
      h.0,
      (
        h.1.0,
        (
          stands,
          to-give-alone gr stack h.0 h.1.0 b xs c.write_due.new.files c.args.fault.now c.write_due.new.fault held stands c.args.due
              h.1.1 c.in_ok-write_due.ensures.ok,
        ),
      ),
    )

pub returns-clause-saving : goal.returns-clause-saving
returns-clause-saving g c =
    let gr = g.R.Run.graph in
    let stack = g.R.Run.stack in
    let xs = c.args.files.now in
    let held = g.K.Shelf.held c.args.shelf.now in
    let b = g.B.BoardCalls.shown c.args.board.now in
    let stands = g.K.Shelf.held c.write_due.new.shelf in
    λ prefix before st. c.return_piece.ensures.given prefix before stands (to-give-alone gr stack prefix before b xs c.write_due.new.files c.args.fault.now
    c.write_due.new.fault held stands c.args.due st c.in_ok-write_due.ensures.ok)

pub returns-clause-moves : goal.returns-clause-moves
returns-clause-moves g c =
    let gr = g.R.Run.graph in
    let stack = g.R.Run.stack in
    let xs = c.args.files.now in
    let held = g.K.Shelf.held c.args.shelf.now in
    let b = g.B.BoardCalls.shown c.args.board.now in
    let stands = g.K.Shelf.held c.write_due.new.shelf in
    let new = g.B.BoardCalls.shown c.return_piece.new.board in
    let h = c.requires.unsaved in
    let t =
    to-give-alone gr stack h.0 h.1.0 b xs c.write_due.new.files c.args.fault.now c.write_due.new.fault held stands c.args.due
    h.1.1 c.in_ok-write_due.ensures.ok in
    back-moves (run_setting gr stack) b new t.to_give.node c.args.due.piece
    (subst (λ (r : ℕ). (w m j i : ℕ) → hand r (past b) ≡ Some (entry.Save r w m j i)
    → new ≡ plain (back_of r w c.args.due.piece.name) ∷ b) c.requires.role c.return_piece.ensures.logged
    t.to_give.node c.args.due.piece.name.maker c.args.due.piece.name.index t.to_give.group
    (sym (moves-tell b (last_role (run_setting gr stack))).0 ∙ t.to_give.hand))

pub returns-clause-legal : goal.returns-clause-legal
returns-clause-legal g c =
    let gr = g.R.Run.graph in
    let stack = g.R.Run.stack in
    let xs = c.args.files.now in
    let held = g.K.Shelf.held c.args.shelf.now in
    let b = g.B.BoardCalls.shown c.args.board.now in
    let stands = g.K.Shelf.held c.write_due.new.shelf in
    let h = c.requires.unsaved in
    (c.return_piece.ensures.given h.0 h.1.0 stands (to-give-alone gr stack h.0 h.1.0 b xs c.write_due.new.files c.args.fault.now c.write_due.new.fault held
    stands c.args.due h.1.1 c.in_ok-write_due.ensures.ok)).legal

pub returns-in_err-write_due-clause-moves : goal.returns-in_err-write_due-clause-moves
returns-in_err-write_due-clause-moves g c =
    let gr = g.R.Run.graph in
    let stack = g.R.Run.stack in
    let xs = c.args.files.now in
    let held = g.K.Shelf.held c.args.shelf.now in
    let b = g.B.BoardCalls.shown c.args.board.now in
    rest-none (run_setting gr stack) b b refl

pub returns-in_err-write_due-clause-legal : goal.returns-in_err-write_due-clause-legal
returns-in_err-write_due-clause-legal g c =
    let gr = g.R.Run.graph in
    let stack = g.R.Run.stack in
    let xs = c.args.files.now in
    let held = g.K.Shelf.held c.args.shelf.now in
    let b = g.B.BoardCalls.shown c.args.board.now in
    let h = c.requires.unsaved in
    h.1.1.legal

pub returns-clause-elsewhere : goal.returns-clause-elsewhere
returns-clause-elsewhere g c =
    let gr = g.R.Run.graph in
    let stack = g.R.Run.stack in
    let xs = c.args.files.now in
    let held = g.K.Shelf.held c.args.shelf.now in
    let b = g.B.BoardCalls.shown c.args.board.now in
    let stands = g.K.Shelf.held c.write_due.new.shelf in
    λ prefix before st. saving-kept gr stack c.requires.graph prefix before (g.B.BoardCalls.shown c.return_piece.new.board) c.write_due.new.files
    c.write_due.new.fault stands (c.return_piece.ensures.given prefix before stands (to-give-alone gr stack prefix before b xs c.write_due.new.files
    c.args.fault.now c.write_due.new.fault held stands c.args.due st c.in_ok-write_due.ensures.ok))

pub returns-in_err-write_due-clause-elsewhere : goal.returns-in_err-write_due-clause-elsewhere
returns-in_err-write_due-clause-elsewhere g c =
    let gr = g.R.Run.graph in
    let stack = g.R.Run.stack in
    let xs = c.args.files.now in
    let held = g.K.Shelf.held c.args.shelf.now in
    let b = g.B.BoardCalls.shown c.args.board.now in
    let stands = g.K.Shelf.held c.write_due.new.shelf in
    λ prefix before st. unsaved-kept gr stack c.requires.graph prefix before b c.write_due.new.files c.write_due.new.fault stands c.args.due
    (unsaved-still gr stack prefix before b xs c.write_due.new.files c.args.fault.now c.write_due.new.fault held stands c.args.due st
    c.in_err-write_due.ensures.err)
