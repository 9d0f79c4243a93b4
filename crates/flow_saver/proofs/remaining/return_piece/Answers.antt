use Rattle.std.proofs.Common.{◌≡◌, ◌∷◌, ℕ, Some, Ok, Err, sym, subst}
use Rattle.frame_store.specs.Sealed.{Sealed}
use Rattle.flow_journal.specs.declared.entry.Entry.TheVariants as entry
use Rattle.flow_journal.specs.Hands.{hand}
use Rattle.board_rules.specs.States.{past, plain}
use Rattle.board_rules.specs.Saving.{SavedGives, MaySaved}
use Rattle.board_rules.specs.RunMeasures.{run_setting}
use Rattle.flow_roles.specs.Feeder.{name_of, parts_of}
use Rattle.flow_saver.specs.Saver.{back_of}
use Rattle.flow_saver.proofs.Remains.{return-may, return-never, return-given, return-logged}
use Rattle.flow_saver.proofs.remaining.return_piece.Goals as goal

pub saved-requires-clause-brings : goal.saved-requires-clause-brings
saved-requires-clause-brings g c =
    let gr = g.R.Run.graph in
    let stack = g.R.Run.stack in
    let b = g.B.BoardCalls.shown c.args.board.now in
    let h = c.requires.held in
    subst (λ (r : ℕ). MaySaved name_of parts_of b r c.args.piece) (sym c.requires.role)
    (return-may gr stack b b h.0 h.1.0 c.args.files.now c.args.fault h.1.1.0 c.args.piece h.1.1.1)

pub unreachable-requires : goal.unreachable-requires
unreachable-requires g c =
    let gr = g.R.Run.graph in
    let stack = g.R.Run.stack in
    let b = g.B.BoardCalls.shown c.args.board.now in
    let new = g.B.BoardCalls.shown c.saved.new.self in
    let h = c.requires.held in
    return-never gr stack b new h.0 h.1.0 c.args.files.now c.args.fault h.1.1.0 c.args.piece h.1.1.1 c.in_default.field-0
    (subst (λ (r : ℕ). SavedGives {F = Sealed} {E = Unit {0}} name_of (run_setting gr stack) b r c.args.piece (Err c.in_default.field-0) new)
    c.requires.role c.in_default.ensures.gives)

pub returns-clause-given : goal.returns-clause-given
returns-clause-given g c =
    let gr = g.R.Run.graph in
    let stack = g.R.Run.stack in
    let b = g.B.BoardCalls.shown c.args.board.now in
    let new = g.B.BoardCalls.shown c.saved.new.self in
    λ prefix before held h. return-given gr stack b new prefix before c.args.files.now c.args.fault held c.args.piece h c.in-Ok.field-0
    (subst (λ (r : ℕ). SavedGives {F = Sealed} {E = Unit {0}} name_of (run_setting gr stack) b r c.args.piece (Ok c.in-Ok.field-0) new)
    c.requires.role c.in-Ok.ensures.gives)

pub returns-clause-logged : goal.returns-clause-logged
returns-clause-logged g c =
    let gr = g.R.Run.graph in
    let stack = g.R.Run.stack in
    let b = g.B.BoardCalls.shown c.args.board.now in
    let new = g.B.BoardCalls.shown c.saved.new.self in
    subst (λ (r : ℕ). (v m k i : ℕ) → hand r (past b) ≡ Some (entry.Save r v m k i) → new ≡ plain (back_of r v c.args.piece.name) ∷ b) (sym c.requires.role)
    (return-logged gr stack b new c.args.piece c.in-Ok.field-0
    (subst (λ (r : ℕ). SavedGives {F = Sealed} {E = Unit {0}} name_of (run_setting gr stack) b r c.args.piece (Ok c.in-Ok.field-0) new)
    c.requires.role c.in-Ok.ensures.gives))
