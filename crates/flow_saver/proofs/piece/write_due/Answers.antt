use Rattle.std.proofs.Common.{Bool, sym, subst}
use Rattle.flow_saver.specs.Saver.{HasUnsaved, IsToGiveBack}
use Rattle.flow_saver.proofs.SaveOne.{within-files, one-due, one-skipped, one-wrote, one-tore, one-wanted, count-kept}
use Rattle.flow_saver.proofs.piece.write_due.Goals as goal

pub write_piece-requires-clause-at : goal.write_piece-requires-clause-at
write_piece-requires-clause-at g c =
    let gr = g.R.Run.graph in
    let stack = g.R.Run.stack in
    let xs = c.args.files.now in
    let held = g.K.Shelf.held c.args.shelf.now in
    let due = c.args.due.now in
    let u = c.requires.unsaved in
    within-files gr stack c.requires.graph u.0 u.1.0 u.1.1.0 xs c.args.fault.now held due u.1.1.1

pub write_piece-requires-clause-due : goal.write_piece-requires-clause-due
write_piece-requires-clause-due g c =
    let gr = g.R.Run.graph in
    let stack = g.R.Run.stack in
    let xs = c.args.files.now in
    let held = g.K.Shelf.held c.args.shelf.now in
    let due = c.args.due.now in
    let u = c.requires.unsaved in
    one-due gr stack c.requires.graph u.0 u.1.0 u.1.1.0 xs c.args.fault.now held due u.1.1.1 c.samples-content.result.now
    c.samples-content.ensures.content c.if-fault.false

pub returns-then-fault-clause-ok : goal.returns-then-fault-clause-ok
returns-then-fault-clause-ok g c =
    let gr = g.R.Run.graph in
    let stack = g.R.Run.stack in
    let xs = c.args.files.now in
    let held = g.K.Shelf.held c.args.shelf.now in
    let due = c.args.due.now in
    let u = c.requires.unsaved in
    λ start role pass st. subst (λ (b : Bool). IsToGiveBack gr stack start role pass xs b held due.piece) (sym c.if-fault.true) (one-skipped gr stack
    c.requires.graph start role pass xs c.args.fault.now held due st c.samples-content.result.now c.samples-content.ensures.content c.if-fault.true)

pub returns-in-Ok-clause-ok : goal.returns-in-Ok-clause-ok
returns-in-Ok-clause-ok g c =
    let gr = g.R.Run.graph in
    let stack = g.R.Run.stack in
    let xs = c.args.files.now in
    let held = g.K.Shelf.held c.args.shelf.now in
    let due = c.args.due.now in
    let u = c.requires.unsaved in
    λ start role pass st. subst
    (λ (b : Bool). IsToGiveBack gr stack start role pass c.write_piece.new.files b (g.K.Shelf.held c.write_piece.new.shelf) due.piece) (sym c.if-fault.false)
    (one-wrote gr stack c.requires.graph start role pass xs c.args.fault.now held due st c.samples-content.result.now c.samples-content.ensures.content
    c.if-fault.false c.write_piece.new.files c.write_piece.ensures.nodes (g.K.Shelf.held c.write_piece.new.shelf) c.in-Ok.ensures.ok c.in-Ok.ensures.ended)

pub returns-in-Err-Failed-clause-ok : goal.returns-in-Err-Failed-clause-ok
returns-in-Err-Failed-clause-ok g c =
    let gr = g.R.Run.graph in
    let stack = g.R.Run.stack in
    let xs = c.args.files.now in
    let held = g.K.Shelf.held c.args.shelf.now in
    let due = c.args.due.now in
    let u = c.requires.unsaved in
    λ start role pass st. one-tore gr stack c.requires.graph start role pass xs c.args.fault.now held due st c.samples-content.result.now
    c.samples-content.ensures.content c.if-fault.false c.write_piece.new.files c.write_piece.ensures.nodes
    (g.K.Shelf.held c.write_piece.new.shelf) c.in-Err-Failed.field-0 c.in-Err-Failed.ensures.err c.in-Err-Failed.field-0-is

pub returns-in-Err-OutOfMemory-clause-err : goal.returns-in-Err-OutOfMemory-clause-err
returns-in-Err-OutOfMemory-clause-err g c =
    let gr = g.R.Run.graph in
    let stack = g.R.Run.stack in
    let xs = c.args.files.now in
    let held = g.K.Shelf.held c.args.shelf.now in
    let due = c.args.due.now in
    let u = c.requires.unsaved in
    λ start role pass st.
    subst (λ (b : Bool). HasUnsaved gr stack start role pass c.write_piece.new.files b (g.K.Shelf.held c.write_piece.new.shelf) due) (sym c.if-fault.false)
    (one-wanted gr stack c.requires.graph start role pass xs c.args.fault.now held due st c.samples-content.result.now c.samples-content.ensures.content
    c.if-fault.false c.write_piece.new.files c.write_piece.ensures.nodes
    (g.K.Shelf.held c.write_piece.new.shelf) c.in-Err-OutOfMemory.field-0 c.in-Err-OutOfMemory.ensures.err c.in-Err-OutOfMemory.field-0-is)

pub returns-in-Ok-clause-count : goal.returns-in-Ok-clause-count
returns-in-Ok-clause-count g c =
    let gr = g.R.Run.graph in
    let stack = g.R.Run.stack in
    let xs = c.args.files.now in
    let held = g.K.Shelf.held c.args.shelf.now in
    let due = c.args.due.now in
    let u = c.requires.unsaved in
    count-kept xs c.write_piece.new.files due.at due.of
    (within-files gr stack c.requires.graph u.0 u.1.0 u.1.1.0 xs c.args.fault.now held due u.1.1.1) c.write_piece.ensures.nodes

pub returns-in-Err-Failed-clause-count : goal.returns-in-Err-Failed-clause-count
returns-in-Err-Failed-clause-count g c =
    let gr = g.R.Run.graph in
    let stack = g.R.Run.stack in
    let xs = c.args.files.now in
    let held = g.K.Shelf.held c.args.shelf.now in
    let due = c.args.due.now in
    let u = c.requires.unsaved in
    count-kept xs c.write_piece.new.files due.at due.of
    (within-files gr stack c.requires.graph u.0 u.1.0 u.1.1.0 xs c.args.fault.now held due u.1.1.1) c.write_piece.ensures.nodes

pub returns-in-Err-OutOfMemory-clause-count : goal.returns-in-Err-OutOfMemory-clause-count
returns-in-Err-OutOfMemory-clause-count g c =
    let gr = g.R.Run.graph in
    let stack = g.R.Run.stack in
    let xs = c.args.files.now in
    let held = g.K.Shelf.held c.args.shelf.now in
    let due = c.args.due.now in
    let u = c.requires.unsaved in
    count-kept xs c.write_piece.new.files due.at due.of
    (within-files gr stack c.requires.graph u.0 u.1.0 u.1.1.0 xs c.args.fault.now held due u.1.1.1) c.write_piece.ensures.nodes
