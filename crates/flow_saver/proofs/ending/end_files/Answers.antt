use Rattle.std.proofs.Common.{Bool, subst}
use Rattle.graph_files.proofs.Writes.{on-ok}
use Rattle.graph_files.proofs.Ends.{on-err}
use Rattle.flow_saver.specs.Remaining.{IsSavingAlone}
use Rattle.flow_saver.proofs.Groups.{all-filled, groups-held}
use Rattle.flow_saver.proofs.TornHistory.{torn-history}
use Rattle.flow_saver.proofs.TornEnd.{torn-end}
use Rattle.flow_saver.proofs.ending.end_files.Goals as goal

pub returns-then-fault-clause-err : goal.returns-then-fault-clause-err
returns-then-fault-clause-err g c =
    let gr = g.R.Run.graph in
    let stack = g.R.Run.stack in
    let b = g.B.BoardCalls.shown c.args.board.now in
    let held = g.K.Shelf.held c.args.shelf.now in
    λ prefix before h. torn-history gr stack c.requires.graph prefix before b c.args.files held
    (subst (λ (f : Bool). IsSavingAlone gr stack prefix before b c.args.files f held) c.if-fault.true h) c.requires.finished c.requires.kept

pub end-requires-clause-written : goal.end-requires-clause-written
end-requires-clause-written g c =
    let gr = g.R.Run.graph in
    let stack = g.R.Run.stack in
    let b = g.B.BoardCalls.shown c.args.board.now in
    let held = g.K.Shelf.held c.args.shelf.now in
    let w = c.requires.saving in
    let h = subst (λ (f : Bool). IsSavingAlone gr stack w.0 w.1.0 b c.args.files f held) c.if-fault.false w.1.1 in
    (w.1.0, (_, h.saving.saved.0))

pub end-requires-clause-filled : goal.end-requires-clause-filled
end-requires-clause-filled g c =
    let gr = g.R.Run.graph in
    let stack = g.R.Run.stack in
    let b = g.B.BoardCalls.shown c.args.board.now in
    let held = g.K.Shelf.held c.args.shelf.now in
    let w = c.requires.saving in
    let h = subst (λ (f : Bool). IsSavingAlone gr stack w.0 w.1.0 b c.args.files f held) c.if-fault.false w.1.1 in
    all-filled gr stack c.requires.graph w.0 w.1.0 b c.args.files held h c.requires.finished

pub returns-clause-ok : goal.returns-clause-ok
returns-clause-ok g c =
    let gr = g.R.Run.graph in
    let stack = g.R.Run.stack in
    let b = g.B.BoardCalls.shown c.args.board.now in
    let held = g.K.Shelf.held c.args.shelf.now in
    on-ok c.end.result c.end.ensures.ok (λ ok prefix before st.
    let h = subst (λ (f : Bool). IsSavingAlone gr stack prefix before b c.args.files f held) c.if-fault.false st in
    groups-held gr stack c.requires.graph prefix before b c.args.files held h c.requires.finished
    (g.K.Shelf.held c.end.new.shelf) (ok before _ h.saving.saved.0))

pub returns-clause-err : goal.returns-clause-err
returns-clause-err g c =
    let gr = g.R.Run.graph in
    let stack = g.R.Run.stack in
    let b = g.B.BoardCalls.shown c.args.board.now in
    let held = g.K.Shelf.held c.args.shelf.now in
    on-err c.end.result c.end.ensures.err (λ err prefix before st.
    let h = subst (λ (f : Bool). IsSavingAlone gr stack prefix before b c.args.files f held) c.if-fault.false st in
    torn-end gr stack c.requires.graph prefix before b c.args.files held (g.K.Shelf.held c.end.new.shelf) h c.requires.finished (err before _ h.saving.saved.0))
