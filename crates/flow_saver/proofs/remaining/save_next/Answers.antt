use Rattle.std.proofs.Common.{◌≡◌, ◌∷◌, [], ℕ, Some, refl, sym, subst, ◌∙◌}
use Rattle.frame_store.specs.Sealed.{Sealed}
use Rattle.flow_journal.specs.declared.entry.Entry.TheVariants as entry
use Rattle.flow_journal.specs.Setting.{last_role}
use Rattle.flow_journal.specs.Hands.{hand}
use Rattle.flow_journal.specs.Unsaved.{unsaved}
use Rattle.board_rules.specs.declared.answers.Save.TheVariants.{Busy, NotYet, Piece}
use Rattle.board_rules.specs.Saving.{SaveGives}
use Rattle.board_rules.specs.States.{past, plain}
use Rattle.board_rules.specs.RunMeasures.{run_setting}
use Rattle.board_rules.proofs.Moves.{moves-tell}
use Rattle.flow_roles.specs.Feeder.{name_of, parts_of}
use Rattle.flow_saver.specs.Saver.{back_of}
use Rattle.flow_saver.specs.Remaining.{StepRests}
use Rattle.flow_saver.specs.declared.saving.Step.TheVariants.{Wrote}
use Rattle.flow_saver.proofs.Remains.{next-node, next-busy, next-still, next-nothing, next-empty, next-taken, next-legal, next-back, next-drained}
use Rattle.flow_saver.proofs.Remains.{next-longer, next-others, next-moves, to-give-alone, unsaved-still, back-moves}
use Rattle.flow_saver.proofs.Resting.{rest-none}
use Rattle.flow_saver.proofs.remaining.save_next.Goals as goal

pub save-requires-clause-node : goal.save-requires-clause-node
save-requires-clause-node g c =
    let gr = g.R.Run.graph in
    let stack = g.R.Run.stack in
    let xs = c.args.files.now in
    let held = g.K.Shelf.held c.args.shelf.now in
    let b = g.B.BoardCalls.shown c.args.board.now in
    let h = c.requires.saving in
    next-node gr stack c.requires.graph h.0 h.1.0 b b xs c.args.fault.now held h.1.1 c.args.at c.node-node.result c.node-node.ensures c.requires.at

pub unreachable-requires : goal.unreachable-requires
unreachable-requires g c =
    let gr = g.R.Run.graph in
    let stack = g.R.Run.stack in
    let xs = c.args.files.now in
    let held = g.K.Shelf.held c.args.shelf.now in
    let b = g.B.BoardCalls.shown c.args.board.now in
    let mid = g.B.BoardCalls.shown c.save.new.self in
    let h = c.requires.saving in
    next-busy gr stack c.requires.graph h.0 h.1.0 b mid xs c.args.fault.now held h.1.1 c.args.at c.node-node.result c.node-node.ensures c.requires.at
    (subst (λ (r : ℕ). SaveGives {F = Sealed} name_of parts_of (run_setting gr stack) b r c.node-node.result Busy mid) c.requires.role c.in-Busy.ensures.gives)

pub returns-in-NotYet-clause-leaves : goal.returns-in-NotYet-clause-leaves
returns-in-NotYet-clause-leaves g c =
    let gr = g.R.Run.graph in
    let stack = g.R.Run.stack in
    let xs = c.args.files.now in
    let held = g.K.Shelf.held c.args.shelf.now in
    let b = g.B.BoardCalls.shown c.args.board.now in
    let mid = g.B.BoardCalls.shown c.save.new.self in
    λ prefix before st.
    next-nothing gr stack c.requires.graph prefix before b mid xs c.args.fault.now held st c.args.at c.node-node.result c.node-node.ensures c.requires.at (subst
    (λ (r : ℕ). SaveGives {F = Sealed} name_of parts_of (run_setting gr stack) b r c.node-node.result NotYet mid) c.requires.role c.in-NotYet.ensures.gives)

pub returns-in-NotYet-clause-rests : goal.returns-in-NotYet-clause-rests
returns-in-NotYet-clause-rests g c =
    let gr = g.R.Run.graph in
    let stack = g.R.Run.stack in
    let xs = c.args.files.now in
    let held = g.K.Shelf.held c.args.shelf.now in
    let b = g.B.BoardCalls.shown c.args.board.now in
    let mid = g.B.BoardCalls.shown c.save.new.self in
    let h = c.requires.saving in
    λ x at. (
      next-still gr stack c.requires.graph h.0 h.1.0 b mid xs c.args.fault.now held h.1.1 c.args.at c.node-node.result c.node-node.ensures c.requires.at (subst
          (λ (r : ℕ). SaveGives {F = Sealed} name_of parts_of (run_setting gr stack) b r c.node-node.result NotYet mid) c.requires.role
          c.in-NotYet.ensures.gives),
      subst (λ (v : ℕ). unsaved (run_setting gr stack) v (past mid) ≡ []) (c.node-node.ensures x at) (next-empty gr stack c.requires.graph h.0 h.1.0 b mid xs
          c.args.fault.now held h.1.1 c.args.at c.node-node.result c.node-node.ensures c.requires.at c.requires.drained (subst
          (λ (r : ℕ). SaveGives {F = Sealed} name_of parts_of (run_setting gr stack) b r c.node-node.result NotYet mid) c.requires.role
          c.in-NotYet.ensures.gives)),
    )

pub returns-in-NotYet-clause-moves : goal.returns-in-NotYet-clause-moves
returns-in-NotYet-clause-moves g c =
    let gr = g.R.Run.graph in
    let stack = g.R.Run.stack in
    let xs = c.args.files.now in
    let held = g.K.Shelf.held c.args.shelf.now in
    let b = g.B.BoardCalls.shown c.args.board.now in
    let mid = g.B.BoardCalls.shown c.save.new.self in
    let h = c.requires.saving in
    rest-none (run_setting gr stack) b mid
    (next-still gr stack c.requires.graph h.0 h.1.0 b mid xs c.args.fault.now held h.1.1 c.args.at c.node-node.result c.node-node.ensures c.requires.at (subst
    (λ (r : ℕ). SaveGives {F = Sealed} name_of parts_of (run_setting gr stack) b r c.node-node.result NotYet mid) c.requires.role c.in-NotYet.ensures.gives))

pub returns-in-NotYet-clause-legal : goal.returns-in-NotYet-clause-legal
returns-in-NotYet-clause-legal g c =
    let gr = g.R.Run.graph in
    let stack = g.R.Run.stack in
    let xs = c.args.files.now in
    let held = g.K.Shelf.held c.args.shelf.now in
    let b = g.B.BoardCalls.shown c.args.board.now in
    let mid = g.B.BoardCalls.shown c.save.new.self in
    let h = c.requires.saving in
    (next-nothing gr stack c.requires.graph h.0 h.1.0 b mid xs c.args.fault.now held h.1.1 c.args.at c.node-node.result c.node-node.ensures c.requires.at
    (subst (λ (r : ℕ). SaveGives {F = Sealed} name_of parts_of (run_setting gr stack) b r c.node-node.result NotYet mid)
    c.requires.role c.in-NotYet.ensures.gives)).legal

pub write_due-requires-clause-unsaved : goal.write_due-requires-clause-unsaved
write_due-requires-clause-unsaved g c =
    let gr = g.R.Run.graph in
    let stack = g.R.Run.stack in
    let xs = c.args.files.now in
    let held = g.K.Shelf.held c.args.shelf.now in
    let b = g.B.BoardCalls.shown c.args.board.now in
    let mid = g.B.BoardCalls.shown c.save.new.self in
    let h = c.requires.saving in
    let u =
    next-taken gr stack c.requires.graph h.0 h.1.0 b mid xs c.args.fault.now held h.1.1 c.args.at c.node-node.result c.node-node.ensures c.requires.at
    c.in-Piece.input c.in-Piece.group c.in-Piece.place c.in-Piece.of
    (subst (λ (r : ℕ). SaveGives {F = Sealed} name_of parts_of (run_setting gr stack) b r c.node-node.result
    (Piece c.in-Piece.input c.in-Piece.group c.in-Piece.place c.in-Piece.of) mid) c.requires.role c.in-Piece.ensures.gives) c.requires.kept.few in
    (_, (_, (_, u.unsaved)))

pub return_piece-requires-clause-held : goal.return_piece-requires-clause-held
return_piece-requires-clause-held g c =
    let gr = g.R.Run.graph in
    let stack = g.R.Run.stack in
    let xs = c.args.files.now in
    let held = g.K.Shelf.held c.args.shelf.now in
    let b = g.B.BoardCalls.shown c.args.board.now in
    let mid = g.B.BoardCalls.shown c.save.new.self in
    let h = c.requires.saving in (
      h.0,
      (
        h.1.0,
        (
          (g.K.Shelf.held c.write_due.new.shelf),
          to-give-alone gr stack h.0 h.1.0 mid xs c.write_due.new.files c.args.fault.now c.write_due.new.fault held
              (g.K.Shelf.held c.write_due.new.shelf) (record {
                piece = c.in-Piece.input;
                at = c.args.at;
                group = c.in-Piece.group;
                place = c.in-Piece.place;
                of = c.in-Piece.of;
              }) (next-taken gr stack c.requires.graph h.0 h.1.0 b mid xs c.args.fault.now held h.1.1 c.args.at c.node-node.result c.node-node.ensures
              c.requires.at c.in-Piece.input c.in-Piece.group c.in-Piece.place c.in-Piece.of (subst (λ (r : ℕ). SaveGives {F = Sealed} name_of parts_of
              (run_setting gr stack) b r c.node-node.result (Piece c.in-Piece.input c.in-Piece.group c.in-Piece.place c.in-Piece.of) mid) c.requires.role
              c.in-Piece.ensures.gives) c.requires.kept.few) c.in-Ok.ensures.ok,
        ),
      ),
    )

pub returns-in-Ok-clause-leaves : goal.returns-in-Ok-clause-leaves
returns-in-Ok-clause-leaves g c =
    let gr = g.R.Run.graph in
    let stack = g.R.Run.stack in
    let xs = c.args.files.now in
    let held = g.K.Shelf.held c.args.shelf.now in
    let b = g.B.BoardCalls.shown c.args.board.now in
    let mid = g.B.BoardCalls.shown c.save.new.self in
    λ prefix before st. c.return_piece.ensures.given prefix before (g.K.Shelf.held c.write_due.new.shelf)
    (to-give-alone gr stack prefix before mid xs c.write_due.new.files c.args.fault.now c.write_due.new.fault held (g.K.Shelf.held c.write_due.new.shelf)
    (record { piece = c.in-Piece.input; at = c.args.at; group = c.in-Piece.group; place = c.in-Piece.place; of = c.in-Piece.of })
    (next-taken gr stack c.requires.graph prefix before b mid xs c.args.fault.now held st c.args.at c.node-node.result c.node-node.ensures c.requires.at
    c.in-Piece.input c.in-Piece.group c.in-Piece.place c.in-Piece.of (subst (λ (r : ℕ). SaveGives {F = Sealed} name_of parts_of (run_setting gr stack) b r
    c.node-node.result (Piece c.in-Piece.input c.in-Piece.group c.in-Piece.place c.in-Piece.of) mid) c.requires.role c.in-Piece.ensures.gives)
    c.requires.kept.few) c.in-Ok.ensures.ok)

pub returns-in-Ok-clause-rests : goal.returns-in-Ok-clause-rests
returns-in-Ok-clause-rests g c =
    let gr = g.R.Run.graph in
    let stack = g.R.Run.stack in
    let xs = c.args.files.now in
    let held = g.K.Shelf.held c.args.shelf.now in
    let b = g.B.BoardCalls.shown c.args.board.now in
    let mid = g.B.BoardCalls.shown c.save.new.self in
    let new = g.B.BoardCalls.shown c.return_piece.new.board in
    let h = c.requires.saving in
    let is =
    (next-back gr stack c.requires.graph h.0 h.1.0 b mid xs c.args.fault.now held h.1.1 c.args.at c.node-node.result c.node-node.ensures c.requires.at
    c.in-Piece.input c.in-Piece.group c.in-Piece.place c.in-Piece.of (subst (λ (r : ℕ). SaveGives {F = Sealed} name_of parts_of (run_setting gr stack) b r
    c.node-node.result (Piece c.in-Piece.input c.in-Piece.group c.in-Piece.place c.in-Piece.of) mid) c.requires.role c.in-Piece.ensures.gives) new
    (subst (λ (r : ℕ). (w m j i : ℕ) → hand r (past mid) ≡ Some (entry.Save r w m j i)
    → new ≡ plain (back_of r w c.in-Piece.input.name) ∷ mid) c.requires.role c.return_piece.ensures.logged)) in
    let after =
    c.return_piece.ensures.given h.0 h.1.0 (g.K.Shelf.held c.write_due.new.shelf)
    (to-give-alone gr stack h.0 h.1.0 mid xs c.write_due.new.files c.args.fault.now c.write_due.new.fault held (g.K.Shelf.held c.write_due.new.shelf)
    (record { piece = c.in-Piece.input; at = c.args.at; group = c.in-Piece.group; place = c.in-Piece.place; of = c.in-Piece.of })
    (next-taken gr stack c.requires.graph h.0 h.1.0 b mid xs c.args.fault.now held h.1.1 c.args.at c.node-node.result c.node-node.ensures c.requires.at
    c.in-Piece.input c.in-Piece.group c.in-Piece.place c.in-Piece.of (subst (λ (r : ℕ). SaveGives {F = Sealed} name_of parts_of (run_setting gr stack) b r
    c.node-node.result (Piece c.in-Piece.input c.in-Piece.group c.in-Piece.place c.in-Piece.of) mid) c.requires.role c.in-Piece.ensures.gives)
    c.requires.kept.few) c.in-Ok.ensures.ok) in
    λ x at. subst (λ (v : ℕ). StepRests (run_setting gr stack) v Wrote b new) (c.node-node.ensures x at) (
      next-drained gr stack c.requires.graph h.0 h.1.0 b mid xs c.args.fault.now held h.1.1 c.args.at c.node-node.result c.node-node.ensures c.requires.at
          c.in-Piece.input c.in-Piece.group c.in-Piece.place c.in-Piece.of (subst (λ (r : ℕ). SaveGives {F = Sealed} name_of parts_of (run_setting gr stack) b r
          c.node-node.result (Piece c.in-Piece.input c.in-Piece.group c.in-Piece.place c.in-Piece.of) mid) c.requires.role c.in-Piece.ensures.gives)
          new is after.legal c.requires.drained,
      next-longer gr stack c.requires.graph h.0 h.1.0 b mid xs c.args.fault.now held h.1.1 c.args.at c.node-node.result c.node-node.ensures c.requires.at
          c.in-Piece.input c.in-Piece.group c.in-Piece.place c.in-Piece.of (subst (λ (r : ℕ). SaveGives {F = Sealed} name_of parts_of (run_setting gr stack) b r
          c.node-node.result (Piece c.in-Piece.input c.in-Piece.group c.in-Piece.place c.in-Piece.of) mid) c.requires.role c.in-Piece.ensures.gives) new is,
      next-others gr stack c.requires.graph h.0 h.1.0 b mid xs c.args.fault.now held h.1.1 c.args.at c.node-node.result c.node-node.ensures c.requires.at
          c.in-Piece.input c.in-Piece.group c.in-Piece.place c.in-Piece.of (subst (λ (r : ℕ). SaveGives {F = Sealed} name_of parts_of (run_setting gr stack) b r
          c.node-node.result (Piece c.in-Piece.input c.in-Piece.group c.in-Piece.place c.in-Piece.of) mid) c.requires.role c.in-Piece.ensures.gives) new is,
    )

pub returns-in-Ok-clause-moves : goal.returns-in-Ok-clause-moves
returns-in-Ok-clause-moves g c =
    let gr = g.R.Run.graph in
    let stack = g.R.Run.stack in
    let xs = c.args.files.now in
    let held = g.K.Shelf.held c.args.shelf.now in
    let b = g.B.BoardCalls.shown c.args.board.now in
    let mid = g.B.BoardCalls.shown c.save.new.self in
    let new = g.B.BoardCalls.shown c.return_piece.new.board in
    let h = c.requires.saving in
    let t =
    to-give-alone gr stack h.0 h.1.0 mid xs c.write_due.new.files c.args.fault.now c.write_due.new.fault held (g.K.Shelf.held c.write_due.new.shelf)
    (record { piece = c.in-Piece.input; at = c.args.at; group = c.in-Piece.group; place = c.in-Piece.place; of = c.in-Piece.of })
    (next-taken gr stack c.requires.graph h.0 h.1.0 b mid xs c.args.fault.now held h.1.1 c.args.at c.node-node.result c.node-node.ensures c.requires.at
    c.in-Piece.input c.in-Piece.group c.in-Piece.place c.in-Piece.of (subst (λ (r : ℕ). SaveGives {F = Sealed} name_of parts_of (run_setting gr stack) b r
    c.node-node.result (Piece c.in-Piece.input c.in-Piece.group c.in-Piece.place c.in-Piece.of) mid) c.requires.role c.in-Piece.ensures.gives)
    c.requires.kept.few) c.in-Ok.ensures.ok in
    next-moves gr stack c.requires.graph h.0 h.1.0 b mid xs c.args.fault.now held h.1.1 c.args.at c.node-node.result c.node-node.ensures c.requires.at
    c.in-Piece.input c.in-Piece.group c.in-Piece.place c.in-Piece.of (subst (λ (r : ℕ). SaveGives {F = Sealed} name_of parts_of (run_setting gr stack) b r
    c.node-node.result (Piece c.in-Piece.input c.in-Piece.group c.in-Piece.place c.in-Piece.of) mid) c.requires.role c.in-Piece.ensures.gives) new
    (back-moves (run_setting gr stack) mid new t.to_give.node c.in-Piece.input
    (subst (λ (r : ℕ). (w m j i : ℕ) → hand r (past mid) ≡ Some (entry.Save r w m j i)
    → new ≡ plain (back_of r w c.in-Piece.input.name) ∷ mid) c.requires.role c.return_piece.ensures.logged
    t.to_give.node c.in-Piece.input.name.maker c.in-Piece.input.name.index t.to_give.group
    (sym (moves-tell mid (last_role (run_setting gr stack))).0 ∙ t.to_give.hand)))

pub returns-in-Ok-clause-legal : goal.returns-in-Ok-clause-legal
returns-in-Ok-clause-legal g c =
    let gr = g.R.Run.graph in
    let stack = g.R.Run.stack in
    let xs = c.args.files.now in
    let held = g.K.Shelf.held c.args.shelf.now in
    let b = g.B.BoardCalls.shown c.args.board.now in
    let mid = g.B.BoardCalls.shown c.save.new.self in
    let h = c.requires.saving in
    (c.return_piece.ensures.given h.0 h.1.0 (g.K.Shelf.held c.write_due.new.shelf) (to-give-alone gr stack h.0 h.1.0 mid xs c.write_due.new.files
    c.args.fault.now c.write_due.new.fault held (g.K.Shelf.held c.write_due.new.shelf) (record {
      piece = c.in-Piece.input;
      at = c.args.at;
      group = c.in-Piece.group;
      place = c.in-Piece.place;
      of = c.in-Piece.of;
    }) (next-taken gr stack c.requires.graph h.0 h.1.0 b mid xs c.args.fault.now held
    h.1.1 c.args.at c.node-node.result c.node-node.ensures c.requires.at c.in-Piece.input c.in-Piece.group c.in-Piece.place c.in-Piece.of
    (subst (λ (r : ℕ). SaveGives {F = Sealed} name_of parts_of (run_setting gr stack) b r c.node-node.result (Piece c.in-Piece.input c.in-Piece.group
    c.in-Piece.place c.in-Piece.of) mid) c.requires.role c.in-Piece.ensures.gives) c.requires.kept.few) c.in-Ok.ensures.ok)).legal

pub returns-in-Ok-clause-nodes : goal.returns-in-Ok-clause-nodes
returns-in-Ok-clause-nodes g c =
    let gr = g.R.Run.graph in
    let stack = g.R.Run.stack in
    let xs = c.args.files.now in
    let held = g.K.Shelf.held c.args.shelf.now in
    let b = g.B.BoardCalls.shown c.args.board.now in
    let mid = g.B.BoardCalls.shown c.save.new.self in
    let h = c.requires.saving in
    (to-give-alone gr stack h.0 h.1.0 mid xs c.write_due.new.files c.args.fault.now c.write_due.new.fault held (g.K.Shelf.held c.write_due.new.shelf)
    (record { piece = c.in-Piece.input; at = c.args.at; group = c.in-Piece.group; place = c.in-Piece.place; of = c.in-Piece.of }) (next-taken gr stack
    c.requires.graph h.0 h.1.0 b mid xs c.args.fault.now held h.1.1 c.args.at c.node-node.result c.node-node.ensures c.requires.at c.in-Piece.input
    c.in-Piece.group c.in-Piece.place c.in-Piece.of (subst (λ (r : ℕ). SaveGives {F = Sealed} name_of parts_of (run_setting gr stack) b r c.node-node.result
    (Piece c.in-Piece.input c.in-Piece.group c.in-Piece.place c.in-Piece.of) mid) c.requires.role c.in-Piece.ensures.gives) c.requires.kept.few)
    c.in-Ok.ensures.ok).to_give.nodes ∙ sym h.1.1.saving.nodes

pub returns-in_default-clause-leaves : goal.returns-in_default-clause-leaves
returns-in_default-clause-leaves g c =
    let gr = g.R.Run.graph in
    let stack = g.R.Run.stack in
    let xs = c.args.files.now in
    let held = g.K.Shelf.held c.args.shelf.now in
    let b = g.B.BoardCalls.shown c.args.board.now in
    let mid = g.B.BoardCalls.shown c.save.new.self in
    λ prefix before st.
    unsaved-still gr stack prefix before mid xs c.write_due.new.files c.args.fault.now c.write_due.new.fault held (g.K.Shelf.held c.write_due.new.shelf)
    (record { piece = c.in-Piece.input; at = c.args.at; group = c.in-Piece.group; place = c.in-Piece.place; of = c.in-Piece.of })
    (next-taken gr stack c.requires.graph prefix before b mid xs c.args.fault.now held st c.args.at c.node-node.result c.node-node.ensures c.requires.at
    c.in-Piece.input c.in-Piece.group c.in-Piece.place c.in-Piece.of (subst (λ (r : ℕ). SaveGives {F = Sealed} name_of parts_of (run_setting gr stack) b r
    c.node-node.result (Piece c.in-Piece.input c.in-Piece.group c.in-Piece.place c.in-Piece.of) mid) c.requires.role c.in-Piece.ensures.gives)
    c.requires.kept.few) c.in_default.ensures.err

pub returns-in_default-clause-moves : goal.returns-in_default-clause-moves
returns-in_default-clause-moves g c =
    let gr = g.R.Run.graph in
    let stack = g.R.Run.stack in
    let xs = c.args.files.now in
    let held = g.K.Shelf.held c.args.shelf.now in
    let b = g.B.BoardCalls.shown c.args.board.now in
    let mid = g.B.BoardCalls.shown c.save.new.self in
    let h = c.requires.saving in
    next-moves gr stack c.requires.graph h.0 h.1.0 b mid xs c.args.fault.now held h.1.1 c.args.at c.node-node.result c.node-node.ensures c.requires.at
    c.in-Piece.input c.in-Piece.group c.in-Piece.place c.in-Piece.of (subst (λ (r : ℕ). SaveGives {F = Sealed} name_of parts_of (run_setting gr stack) b r
    c.node-node.result (Piece c.in-Piece.input c.in-Piece.group c.in-Piece.place c.in-Piece.of) mid) c.requires.role c.in-Piece.ensures.gives) mid
    (rest-none (run_setting gr stack) mid mid refl)

pub returns-in_default-clause-legal : goal.returns-in_default-clause-legal
returns-in_default-clause-legal g c =
    let gr = g.R.Run.graph in
    let stack = g.R.Run.stack in
    let xs = c.args.files.now in
    let held = g.K.Shelf.held c.args.shelf.now in
    let b = g.B.BoardCalls.shown c.args.board.now in
    let mid = g.B.BoardCalls.shown c.save.new.self in
    let h = c.requires.saving in
    next-legal gr stack c.requires.graph h.0 h.1.0 b mid xs c.args.fault.now held h.1.1 c.args.at c.node-node.result c.node-node.ensures c.requires.at
    c.in-Piece.input c.in-Piece.group c.in-Piece.place c.in-Piece.of (subst (λ (r : ℕ). SaveGives {F = Sealed} name_of parts_of (run_setting gr stack) b r
    c.node-node.result (Piece c.in-Piece.input c.in-Piece.group c.in-Piece.place c.in-Piece.of) mid) c.requires.role c.in-Piece.ensures.gives)

pub returns-in_default-clause-nodes : goal.returns-in_default-clause-nodes
returns-in_default-clause-nodes g c =
    let gr = g.R.Run.graph in
    let stack = g.R.Run.stack in
    let xs = c.args.files.now in
    let held = g.K.Shelf.held c.args.shelf.now in
    let b = g.B.BoardCalls.shown c.args.board.now in
    let mid = g.B.BoardCalls.shown c.save.new.self in
    let h = c.requires.saving in
    (unsaved-still gr stack h.0 h.1.0 mid xs c.write_due.new.files c.args.fault.now c.write_due.new.fault held (g.K.Shelf.held c.write_due.new.shelf)
    (record { piece = c.in-Piece.input; at = c.args.at; group = c.in-Piece.group; place = c.in-Piece.place; of = c.in-Piece.of }) (next-taken gr stack
    c.requires.graph h.0 h.1.0 b mid xs c.args.fault.now held h.1.1 c.args.at c.node-node.result c.node-node.ensures c.requires.at c.in-Piece.input
    c.in-Piece.group c.in-Piece.place c.in-Piece.of (subst (λ (r : ℕ). SaveGives {F = Sealed} name_of parts_of (run_setting gr stack) b r c.node-node.result
    (Piece c.in-Piece.input c.in-Piece.group c.in-Piece.place c.in-Piece.of) mid) c.requires.role c.in-Piece.ensures.gives) c.requires.kept.few)
    c.in_default.ensures.err).unsaved.nodes ∙ sym h.1.1.saving.nodes
