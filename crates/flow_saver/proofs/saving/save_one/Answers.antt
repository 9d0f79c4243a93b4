use Rattle.board_rules.specs.RunMeasures.{run_setting}
use Rattle.flow_saver.specs.Turns.{AreAt}
use Rattle.flow_saver.proofs.SaveOne.{one-node, one-busy, one-nothing, one-taken}
use Rattle.flow_saver.proofs.Turning.{gone-not_yet, gone-piece, gone-on}
use Rattle.flow_saver.proofs.saving.save_one.Goals as goal

pub save-requires-clause-node : goal.save-requires-clause-node
save-requires-clause-node g c =
    let gr = g.R.Run.graph in
    let stack = g.R.Run.stack in
    let xs = c.args.files.now in
    let held = g.K.Shelf.held c.args.shelf.now in
    let p = g.D.Desk.knows c.args.pass.now in
    one-node gr stack c.requires.graph c.requires.saving.0 c.args.role c.requires.role p p xs c.args.fault.now held (λ said. said) c.requires.saving.1 c.args.at
    c.node-node.result c.node-node.ensures c.requires.at

pub unreachable-requires : goal.unreachable-requires
unreachable-requires g c =
    let gr = g.R.Run.graph in
    let stack = g.R.Run.stack in
    let xs = c.args.files.now in
    let held = g.K.Shelf.held c.args.shelf.now in
    let p = g.D.Desk.knows c.args.pass.now in
    let q = g.D.Desk.knows c.save.new.pass in
    one-busy gr stack c.requires.graph c.requires.saving.0 c.args.role c.requires.role p q xs c.args.fault.now held _ c.requires.saving.1 c.args.at
    c.node-node.result c.node-node.ensures c.requires.at c.in-Busy.ensures.called

pub returns-in-NotYet-clause-leaves : goal.returns-in-NotYet-clause-leaves
returns-in-NotYet-clause-leaves g c =
    let gr = g.R.Run.graph in
    let stack = g.R.Run.stack in
    let xs = c.args.files.now in
    let held = g.K.Shelf.held c.args.shelf.now in
    let p = g.D.Desk.knows c.args.pass.now in
    let q = g.D.Desk.knows c.save.new.pass in
    λ start st. one-nothing gr stack c.requires.graph start c.args.role c.requires.role p q xs c.args.fault.now held _ st c.args.at c.node-node.result
    c.node-node.ensures c.requires.at c.in-NotYet.ensures.called

pub write_due-requires-clause-unsaved : goal.write_due-requires-clause-unsaved
write_due-requires-clause-unsaved g c =
    let gr = g.R.Run.graph in
    let stack = g.R.Run.stack in
    let xs = c.args.files.now in
    let held = g.K.Shelf.held c.args.shelf.now in
    let p = g.D.Desk.knows c.args.pass.now in
    let q = g.D.Desk.knows c.save.new.pass in (
      c.requires.saving.0,
      (
        c.args.role,
        (
          q,
          one-taken gr stack c.requires.graph c.requires.saving.0 c.args.role c.requires.role p q xs c.args.fault.now held _ c.requires.saving.1
              c.args.at c.node-node.result c.node-node.ensures c.requires.at c.requires.kept.few c.in-Piece.input c.in-Piece.group c.in-Piece.place
              c.in-Piece.of c.in-Piece.ensures.called,
        ),
      ),
    )

pub give_back-requires-clause-held : goal.give_back-requires-clause-held
give_back-requires-clause-held g c =
    let gr = g.R.Run.graph in
    let stack = g.R.Run.stack in
    let xs = c.args.files.now in
    let held = g.K.Shelf.held c.args.shelf.now in
    let p = g.D.Desk.knows c.args.pass.now in
    let q = g.D.Desk.knows c.save.new.pass in (
      c.requires.saving.0,
      g.K.Shelf.held c.write_due.new.shelf,
      c.in-Ok.ensures.ok c.requires.saving.0 c.args.role q (one-taken gr stack c.requires.graph c.requires.saving.0 c.args.role c.requires.role p q xs
          c.args.fault.now held _ c.requires.saving.1 c.args.at c.node-node.result c.node-node.ensures c.requires.at c.requires.kept.few c.in-Piece.input
          c.in-Piece.group c.in-Piece.place c.in-Piece.of c.in-Piece.ensures.called),
    )

pub returns-in-Ok-clause-leaves : goal.returns-in-Ok-clause-leaves
returns-in-Ok-clause-leaves g c =
    let gr = g.R.Run.graph in
    let stack = g.R.Run.stack in
    let xs = c.args.files.now in
    let held = g.K.Shelf.held c.args.shelf.now in
    let p = g.D.Desk.knows c.args.pass.now in
    let q = g.D.Desk.knows c.save.new.pass in
    λ start st. c.give_back.ensures.given start (g.K.Shelf.held c.write_due.new.shelf) (c.in-Ok.ensures.ok start c.args.role q
    (one-taken gr stack c.requires.graph start c.args.role c.requires.role p q xs c.args.fault.now held _ st c.args.at c.node-node.result c.node-node.ensures
    c.requires.at c.requires.kept.few c.in-Piece.input c.in-Piece.group c.in-Piece.place c.in-Piece.of c.in-Piece.ensures.called))

pub returns-in_default-clause-leaves : goal.returns-in_default-clause-leaves
returns-in_default-clause-leaves g c =
    let gr = g.R.Run.graph in
    let stack = g.R.Run.stack in
    let xs = c.args.files.now in
    let held = g.K.Shelf.held c.args.shelf.now in
    let p = g.D.Desk.knows c.args.pass.now in
    let q = g.D.Desk.knows c.save.new.pass in
    λ start st. c.in_default.ensures.err start c.args.role q
    (one-taken gr stack c.requires.graph start c.args.role c.requires.role p q xs c.args.fault.now held _ st c.args.at c.node-node.result c.node-node.ensures
    c.requires.at c.requires.kept.few c.in-Piece.input c.in-Piece.group c.in-Piece.place c.in-Piece.of c.in-Piece.ensures.called)

pub returns-in-NotYet-clause-goes : goal.returns-in-NotYet-clause-goes
returns-in-NotYet-clause-goes g c =
    let gr = g.R.Run.graph in
    let stack = g.R.Run.stack in
    let p = g.D.Desk.knows c.args.pass.now in
    let q = g.D.Desk.knows c.save.new.pass in
    λ start st x at.
    gone-not_yet gr stack start.prefix c.args.files.now st.nodes (run_setting gr stack) c.args.role p q c.args.at c.node-node.result
    c.node-node.ensures c.requires.at x at c.in-NotYet.ensures.called

pub returns-in-Ok-clause-goes : goal.returns-in-Ok-clause-goes
returns-in-Ok-clause-goes g c =
    let gr = g.R.Run.graph in
    let stack = g.R.Run.stack in
    let p = g.D.Desk.knows c.args.pass.now in
    let q = g.D.Desk.knows c.save.new.pass in
    λ start st x at. gone-on (run_setting gr stack) (AreAt x.node) p q (g.D.Desk.knows c.give_back.new.pass)
    (gone-piece gr stack start.prefix c.args.files.now st.nodes (run_setting gr stack) c.args.role p q c.args.at c.node-node.result
    c.node-node.ensures c.requires.at x at c.in-Piece.input c.in-Piece.group c.in-Piece.place c.in-Piece.of c.in-Piece.ensures.called)
    c.give_back.ensures.goes

pub returns-in_default-clause-goes : goal.returns-in_default-clause-goes
returns-in_default-clause-goes g c =
    let gr = g.R.Run.graph in
    let stack = g.R.Run.stack in
    let p = g.D.Desk.knows c.args.pass.now in
    let q = g.D.Desk.knows c.save.new.pass in
    λ start st x at.
    gone-piece gr stack start.prefix c.args.files.now st.nodes (run_setting gr stack) c.args.role p q c.args.at c.node-node.result
    c.node-node.ensures c.requires.at x at c.in-Piece.input c.in-Piece.group c.in-Piece.place c.in-Piece.of c.in-Piece.ensures.called
