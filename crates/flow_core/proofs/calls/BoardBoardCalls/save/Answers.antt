use Rattle.std.proofs.Common.{◌≡◌, ◌∙◌, [], ◌∷◌, None, true, sym, ap, subst, refl}
use Rattle.nd_base.specs.declared.frame.FrameName.{FrameName}
use Rattle.board_rules.specs.RunMeasures.{run_setting}
use Rattle.board_rules.specs.declared.answers.Save.TheVariants as save
use Rattle.board_rules.specs.States.{BoardState, past}
use Rattle.board_rules.specs.Saving.{save_refusal, SaveGives}
use Rattle.flow_journal.specs.Unsaved.{unsaved}
use Rattle.flow_journal.specs.Accounts.{block_of}
use Rattle.flow_journal.specs.FirstEntries.{is_next}
use Rattle.run_course.specs.Courses.{Coursed}
use Rattle.kept_blocks.proofs.Looks.{look_laws}
use Rattle.flow_core.proofs.Laws.{move_laws}
use Rattle.flow_core.proofs.Lent.{LendsAt, lends-at, lent-name}
use Rattle.flow_core.proofs.Handing.{SavesPiece, save-gives, piece-gives, piece-board}
use Rattle.flow_core.proofs.calls.BoardBoardCalls.save.Goals as goal

pub lend-requires-clause-place : goal.lend-requires-clause-place
lend-requires-clause-place g c =
    let name_of = g.F.Named.name_of in
    let parts_ = g.F.Held.parts in
    let bytes = g.F.Held.bytes_of in
    let s = run_setting g.F.Of.Run.graph g.F.Of.Run.stack in
    let w = c.self.inside.course in
    let t = c.self.inside.table in
    let r = c.args.role in
    let v = c.args.node in
    let a = c.next_unsaved-name.result in
    let b = c.block-block.result in
    let l : LendsAt parts_ w.told t a b =
    lends-at parts_ w.told t a b
    ((look_laws parts_).unsaved s w.told t v a c.self.invariant.run c.self.invariant.holds c.next_unsaved-name.ensures) c.block-block.ensures in
    l.place

pub lend-requires-clause-frame : goal.lend-requires-clause-frame
lend-requires-clause-frame g c =
    let name_of = g.F.Named.name_of in
    let parts_ = g.F.Held.parts in
    let bytes = g.F.Held.bytes_of in
    let s = run_setting g.F.Of.Run.graph g.F.Of.Run.stack in
    let w = c.self.inside.course in
    let t = c.self.inside.table in
    let r = c.args.role in
    let v = c.args.node in
    let a = c.next_unsaved-name.result in
    let b = c.block-block.result in
    let l : LendsAt parts_ w.told t a b =
    lends-at parts_ w.told t a b
    ((look_laws parts_).unsaved s w.told t v a c.self.invariant.run c.self.invariant.holds c.next_unsaved-name.ensures) c.block-block.ensures in
    l.may

pub returns-in_default-lend-clause-gives : goal.returns-in_default-lend-clause-gives
returns-in_default-lend-clause-gives g c =
    let name_of = g.F.Named.name_of in
    let parts_ = g.F.Held.parts in
    let bytes = g.F.Held.bytes_of in
    let s = run_setting g.F.Of.Run.graph g.F.Of.Run.stack in
    let w = c.self.inside.course in
    let t = c.self.inside.table in
    let r = c.args.role in
    let v = c.args.node in
    let a = c.next_unsaved-name.result in
    let b = c.block-block.result in
    let l : LendsAt parts_ w.told t a b =
    lends-at parts_ w.told t a b
    ((look_laws parts_).unsaved s w.told t v a c.self.invariant.run c.self.invariant.holds c.next_unsaved-name.ensures) c.block-block.ensures in
    let allowed : save_refusal {F = g.row.F.Denot} s r v (past w.told) ≡ None = sym c.save_refusal.ensures ∙ c.in_default.is in
    subst (λ (x : BoardState). SaveGives name_of parts_ s x r v save.OutOfMemory w.told) c.self.view_is
    (save-gives name_of parts_ s w.told w.told r v None save.OutOfMemory allowed (λ tell. l.tells tell c.in_default-lend.ensures.err.0, refl))

pub save-group-requires-clause-next : goal.save-group-requires-clause-next
save-group-requires-clause-next g c =
    let name_of = g.F.Named.name_of in
    let parts_ = g.F.Held.parts in
    let bytes = g.F.Held.bytes_of in
    let s = run_setting g.F.Of.Run.graph g.F.Of.Run.stack in
    let w = c.self.inside.course in
    let t = c.self.inside.table in
    let r = c.args.role in
    let v = c.args.node in
    let a = c.next_unsaved-name.result in
    let b = c.block-block.result in
    let l : LendsAt parts_ w.told t a b =
    lends-at parts_ w.told t a b
    ((look_laws parts_).unsaved s w.told t v a c.self.invariant.run c.self.invariant.holds c.next_unsaved-name.ensures) c.block-block.ensures in
    let input = c.in-Ok.input in
    let named : name_of input ≡ a = lent-name parts_ w.told t a b (name_of input) (parts_ input) l c.in-Ok.ensures.part in
    let next : is_next (name_of input) (unsaved s v (past w.told)) ≡ true =
    subst (λ (x : FrameName). is_next x (unsaved s v (past w.told)) ≡ true) (sym named) c.next_unsaved-name.ensures in
    next

pub invariant_of-self-2 : goal.invariant_of-self-2
invariant_of-self-2 g c =
    let name_of = g.F.Named.name_of in
    let parts_ = g.F.Held.parts in
    let bytes = g.F.Held.bytes_of in
    let s = run_setting g.F.Of.Run.graph g.F.Of.Run.stack in
    let w = c.self.inside.course in
    let t = c.self.inside.table in
    let r = c.args.role in
    let v = c.args.node in
    let a = c.next_unsaved-name.result in
    let b = c.block-block.result in
    let l : LendsAt parts_ w.told t a b =
    lends-at parts_ w.told t a b
    ((look_laws parts_).unsaved s w.told t v a c.self.invariant.run c.self.invariant.holds c.next_unsaved-name.ensures) c.block-block.ensures in
    let allowed : save_refusal {F = g.row.F.Denot} s r v (past w.told) ≡ None = sym c.save_refusal.ensures ∙ c.in_default.is in
    let input = c.in-Ok.input in
    let named : name_of input ≡ a = lent-name parts_ w.told t a b (name_of input) (parts_ input) l c.in-Ok.ensures.part in
    let next : is_next (name_of input) (unsaved s v (past w.told)) ≡ true =
    subst (λ (x : FrameName). is_next x (unsaved s v (past w.told)) ≡ true) (sym named) c.next_unsaved-name.ensures in
    let i : SavesPiece name_of parts_ s w t r v b input c.save-group.result c.next_place-place.result c.next_size-of.result =
    record {
      board = c.self.invariant;
      role = c.requires.role;
      allowed = allowed;
      next = next;
      has = subst (λ (x : FrameName). block_of (past w.told) x ≡ b ∷ []) (sym named) l.has;
      part = c.in-Ok.ensures.part;
      grouped = c.save-group.ensures.group;
      placed = c.next_place-place.ensures;
      sized = c.next_size-of.ensures;
    } in
    piece-board {O = Unit {0}} name_of parts_ bytes (look_laws parts_) (move_laws (Unit {0}) name_of parts_ bytes) s w c.save-group.new.self t c.lend.new.self r
    v b input c.save-group.result c.next_place-place.result c.next_size-of.result i c.save-group.ensures.told c.in-Ok.ensures.rest

pub returns-clause-gives : goal.returns-clause-gives
returns-clause-gives g c =
    let name_of = g.F.Named.name_of in
    let parts_ = g.F.Held.parts in
    let bytes = g.F.Held.bytes_of in
    let s = run_setting g.F.Of.Run.graph g.F.Of.Run.stack in
    let w = c.self.inside.course in
    let t = c.self.inside.table in
    let r = c.args.role in
    let v = c.args.node in
    let a = c.next_unsaved-name.result in
    let b = c.block-block.result in
    let l : LendsAt parts_ w.told t a b =
    lends-at parts_ w.told t a b
    ((look_laws parts_).unsaved s w.told t v a c.self.invariant.run c.self.invariant.holds c.next_unsaved-name.ensures) c.block-block.ensures in
    let allowed : save_refusal {F = g.row.F.Denot} s r v (past w.told) ≡ None = sym c.save_refusal.ensures ∙ c.in_default.is in
    let input = c.in-Ok.input in
    let named : name_of input ≡ a = lent-name parts_ w.told t a b (name_of input) (parts_ input) l c.in-Ok.ensures.part in
    let next : is_next (name_of input) (unsaved s v (past w.told)) ≡ true =
    subst (λ (x : FrameName). is_next x (unsaved s v (past w.told)) ≡ true) (sym named) c.next_unsaved-name.ensures in
    let i : SavesPiece name_of parts_ s w t r v b input c.save-group.result c.next_place-place.result c.next_size-of.result =
    record {
      board = c.self.invariant;
      role = c.requires.role;
      allowed = allowed;
      next = next;
      has = subst (λ (x : FrameName). block_of (past w.told) x ≡ b ∷ []) (sym named) l.has;
      part = c.in-Ok.ensures.part;
      grouped = c.save-group.ensures.group;
      placed = c.next_place-place.ensures;
      sized = c.next_size-of.ensures;
    } in
    subst (λ (x : BoardState). SaveGives name_of parts_ s x r v
    (save.Piece input c.save-group.result c.next_place-place.result c.next_size-of.result) c.save-group.new.self.told) c.self.view_is
    (piece-gives name_of parts_ (look_laws parts_) s w t r v b input c.save-group.result c.next_place-place.result c.next_size-of.result
    c.save-group.new.self.told i (ap (λ (x : Coursed). x.told) c.save-group.ensures.told))
