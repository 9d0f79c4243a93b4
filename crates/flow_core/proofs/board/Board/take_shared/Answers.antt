use Rattle.std.proofs.Common.{◌≡◌, ◌∙◌, [], ◌∷◌, None, true, sym, ap, subst}
use Rattle.nd_base.specs.declared.frame.FrameName.{FrameName}
use Rattle.board_rules.specs.RunMeasures.{run_setting}
use Rattle.board_rules.specs.declared.answers.Take.TheVariants as take
use Rattle.board_rules.specs.States.{BoardState, past}
use Rattle.board_rules.specs.Working.{take_refusal, TakeGives}
use Rattle.flow_journal.specs.Queued.{queued}
use Rattle.flow_journal.specs.Accounts.{block_of}
use Rattle.flow_journal.specs.FirstEntries.{is_next}
use Rattle.run_course.specs.Courses.{Coursed}
use Rattle.kept_blocks.proofs.Looks.{look_laws}
use Rattle.flow_core.proofs.Laws.{move_laws}
use Rattle.flow_core.proofs.Lent.{Tells, LendsAt, lends-at, lent-name}
use Rattle.flow_core.proofs.Takes.{Shares, shared, shared-gives, shared-board, shared-no_memory}
use Rattle.flow_core.proofs.board.Board.take_shared.Goals as goal

pub lend-requires-clause-place : goal.lend-requires-clause-place
lend-requires-clause-place g c =
    let name_of = g.F.Named.name_of in
    let parts_ = g.F.Held.parts in
    let bytes = g.F.Held.bytes_of in
    let O = g.row.F-Of.Denot in
    let Bl = g.row.F-Blank.Denot in
    let s = run_setting g.F.Of.Run.graph g.F.Of.Run.stack in
    let w = c.self.inside.course in
    let t = c.self.inside.table in
    let r = c.args.role in
    let v = c.args.node in
    let a = c.next_queued-name.result in
    let b = c.block-block.result in
    let allowed : take_refusal {F = g.row.F.Denot} {B = g.row.F-Blank.Denot} {O = g.row.F-Of.Denot} s r v (past w.told) ≡ None =
    subst (λ (x : BoardState). take_refusal {F = g.row.F.Denot} {B = g.row.F-Blank.Denot} {O = g.row.F-Of.Denot} s r v (past x) ≡ None) (sym c.self.view_is)
    c.requires.allowed in
    let l : LendsAt parts_ w.told t a b =
    lends-at parts_ w.told t a b ((look_laws parts_).queued s w.told t v a c.self.invariant.run c.self.invariant.holds c.next_queued-name.ensures.next)
    (subst (λ (x : Coursed). Tells x.told a b) c.next_queued-name.ensures.same c.block-block.ensures) in
    l.place

pub lend-requires-clause-frame : goal.lend-requires-clause-frame
lend-requires-clause-frame g c =
    let name_of = g.F.Named.name_of in
    let parts_ = g.F.Held.parts in
    let bytes = g.F.Held.bytes_of in
    let O = g.row.F-Of.Denot in
    let Bl = g.row.F-Blank.Denot in
    let s = run_setting g.F.Of.Run.graph g.F.Of.Run.stack in
    let w = c.self.inside.course in
    let t = c.self.inside.table in
    let r = c.args.role in
    let v = c.args.node in
    let a = c.next_queued-name.result in
    let b = c.block-block.result in
    let allowed : take_refusal {F = g.row.F.Denot} {B = g.row.F-Blank.Denot} {O = g.row.F-Of.Denot} s r v (past w.told) ≡ None =
    subst (λ (x : BoardState). take_refusal {F = g.row.F.Denot} {B = g.row.F-Blank.Denot} {O = g.row.F-Of.Denot} s r v (past x) ≡ None) (sym c.self.view_is)
    c.requires.allowed in
    let l : LendsAt parts_ w.told t a b =
    lends-at parts_ w.told t a b ((look_laws parts_).queued s w.told t v a c.self.invariant.run c.self.invariant.holds c.next_queued-name.ensures.next)
    (subst (λ (x : Coursed). Tells x.told a b) c.next_queued-name.ensures.same c.block-block.ensures) in
    l.may

pub returns-in_default-clause-gives : goal.returns-in_default-clause-gives
returns-in_default-clause-gives g c =
    let name_of = g.F.Named.name_of in
    let parts_ = g.F.Held.parts in
    let bytes = g.F.Held.bytes_of in
    let O = g.row.F-Of.Denot in
    let Bl = g.row.F-Blank.Denot in
    let s = run_setting g.F.Of.Run.graph g.F.Of.Run.stack in
    let w = c.self.inside.course in
    let t = c.self.inside.table in
    let r = c.args.role in
    let v = c.args.node in
    let a = c.next_queued-name.result in
    let b = c.block-block.result in
    let allowed : take_refusal {F = g.row.F.Denot} {B = g.row.F-Blank.Denot} {O = g.row.F-Of.Denot} s r v (past w.told) ≡ None =
    subst (λ (x : BoardState). take_refusal {F = g.row.F.Denot} {B = g.row.F-Blank.Denot} {O = g.row.F-Of.Denot} s r v (past x) ≡ None) (sym c.self.view_is)
    c.requires.allowed in
    let l : LendsAt parts_ w.told t a b =
    lends-at parts_ w.told t a b ((look_laws parts_).queued s w.told t v a c.self.invariant.run c.self.invariant.holds c.next_queued-name.ensures.next)
    (subst (λ (x : Coursed). Tells x.told a b) c.next_queued-name.ensures.same c.block-block.ensures) in
    subst (λ (x : BoardState). TakeGives {F = g.row.F.Denot} {B = g.row.F-Blank.Denot} {O = g.row.F-Of.Denot} name_of parts_ bytes s x r v take.OutOfMemory
    c.next_queued-name.new.self.told) c.self.view_is
    (shared-no_memory Bl O name_of parts_ bytes s w.told c.next_queued-name.new.self.told r v allowed c.requires.passes
    (λ tell. l.tells tell c.in_default.ensures.err.0) (ap (λ (x : Coursed). x.told) c.next_queued-name.ensures.same))

pub take-requires-clause-next : goal.take-requires-clause-next
take-requires-clause-next g c =
    let name_of = g.F.Named.name_of in
    let parts_ = g.F.Held.parts in
    let bytes = g.F.Held.bytes_of in
    let O = g.row.F-Of.Denot in
    let Bl = g.row.F-Blank.Denot in
    let s = run_setting g.F.Of.Run.graph g.F.Of.Run.stack in
    let w = c.self.inside.course in
    let t = c.self.inside.table in
    let r = c.args.role in
    let v = c.args.node in
    let a = c.next_queued-name.result in
    let b = c.block-block.result in
    let allowed : take_refusal {F = g.row.F.Denot} {B = g.row.F-Blank.Denot} {O = g.row.F-Of.Denot} s r v (past w.told) ≡ None =
    subst (λ (x : BoardState). take_refusal {F = g.row.F.Denot} {B = g.row.F-Blank.Denot} {O = g.row.F-Of.Denot} s r v (past x) ≡ None) (sym c.self.view_is)
    c.requires.allowed in
    let l : LendsAt parts_ w.told t a b =
    lends-at parts_ w.told t a b ((look_laws parts_).queued s w.told t v a c.self.invariant.run c.self.invariant.holds c.next_queued-name.ensures.next)
    (subst (λ (x : Coursed). Tells x.told a b) c.next_queued-name.ensures.same c.block-block.ensures) in
    let input = c.in-Ok.input in
    let named : name_of input ≡ a = lent-name parts_ w.told t a b (name_of input) (parts_ input) l c.in-Ok.ensures.part in
    let next : is_next (name_of input) (queued v (past w.told)) ≡ true =
    subst (λ (x : FrameName). is_next x (queued v (past w.told)) ≡ true) (sym named) c.next_queued-name.ensures.next in
    subst (λ (x : Coursed). is_next (name_of input) (queued v (past x.told)) ≡ true) (sym c.next_queued-name.ensures.same) next

pub invariant_of-self-2 : goal.invariant_of-self-2
invariant_of-self-2 g c =
    let name_of = g.F.Named.name_of in
    let parts_ = g.F.Held.parts in
    let bytes = g.F.Held.bytes_of in
    let O = g.row.F-Of.Denot in
    let Bl = g.row.F-Blank.Denot in
    let s = run_setting g.F.Of.Run.graph g.F.Of.Run.stack in
    let w = c.self.inside.course in
    let t = c.self.inside.table in
    let r = c.args.role in
    let v = c.args.node in
    let a = c.next_queued-name.result in
    let b = c.block-block.result in
    let allowed : take_refusal {F = g.row.F.Denot} {B = g.row.F-Blank.Denot} {O = g.row.F-Of.Denot} s r v (past w.told) ≡ None =
    subst (λ (x : BoardState). take_refusal {F = g.row.F.Denot} {B = g.row.F-Blank.Denot} {O = g.row.F-Of.Denot} s r v (past x) ≡ None) (sym c.self.view_is)
    c.requires.allowed in
    let l : LendsAt parts_ w.told t a b =
    lends-at parts_ w.told t a b ((look_laws parts_).queued s w.told t v a c.self.invariant.run c.self.invariant.holds c.next_queued-name.ensures.next)
    (subst (λ (x : Coursed). Tells x.told a b) c.next_queued-name.ensures.same c.block-block.ensures) in
    let input = c.in-Ok.input in
    let named : name_of input ≡ a = lent-name parts_ w.told t a b (name_of input) (parts_ input) l c.in-Ok.ensures.part in
    let next : is_next (name_of input) (queued v (past w.told)) ≡ true =
    subst (λ (x : FrameName). is_next x (queued v (past w.told)) ≡ true) (sym named) c.next_queued-name.ensures.next in
    let i : Shares Bl O name_of parts_ s w t r v b input =
    record {
      board = c.self.invariant;
      role = c.requires.role;
      allowed = allowed;
      passes = c.requires.passes;
      next = next;
      has = subst (λ (x : FrameName). block_of (past w.told) x ≡ b ∷ []) (sym named) l.has;
      part = c.in-Ok.ensures.part;
    } in
    let w0 = c.next_queued-name.new.self in
    let told : c.take.new.self ≡ record w { told = shared name_of parts_ s r v input w.told } =
    c.take.ensures ∙ ap (λ (x : Coursed). record x { told = shared name_of parts_ s r v input x.told }) c.next_queued-name.ensures.same in
    shared-board Bl O name_of parts_ bytes (look_laws parts_)
    (move_laws O name_of parts_ bytes) s w c.take.new.self t c.lend.new.self r v b input i told c.in-Ok.ensures.rest

pub returns-clause-gives : goal.returns-clause-gives
returns-clause-gives g c =
    let name_of = g.F.Named.name_of in
    let parts_ = g.F.Held.parts in
    let bytes = g.F.Held.bytes_of in
    let O = g.row.F-Of.Denot in
    let Bl = g.row.F-Blank.Denot in
    let s = run_setting g.F.Of.Run.graph g.F.Of.Run.stack in
    let w = c.self.inside.course in
    let t = c.self.inside.table in
    let r = c.args.role in
    let v = c.args.node in
    let a = c.next_queued-name.result in
    let b = c.block-block.result in
    let allowed : take_refusal {F = g.row.F.Denot} {B = g.row.F-Blank.Denot} {O = g.row.F-Of.Denot} s r v (past w.told) ≡ None =
    subst (λ (x : BoardState). take_refusal {F = g.row.F.Denot} {B = g.row.F-Blank.Denot} {O = g.row.F-Of.Denot} s r v (past x) ≡ None) (sym c.self.view_is)
    c.requires.allowed in
    let l : LendsAt parts_ w.told t a b =
    lends-at parts_ w.told t a b ((look_laws parts_).queued s w.told t v a c.self.invariant.run c.self.invariant.holds c.next_queued-name.ensures.next)
    (subst (λ (x : Coursed). Tells x.told a b) c.next_queued-name.ensures.same c.block-block.ensures) in
    let input = c.in-Ok.input in
    let named : name_of input ≡ a = lent-name parts_ w.told t a b (name_of input) (parts_ input) l c.in-Ok.ensures.part in
    let next : is_next (name_of input) (queued v (past w.told)) ≡ true =
    subst (λ (x : FrameName). is_next x (queued v (past w.told)) ≡ true) (sym named) c.next_queued-name.ensures.next in
    let i : Shares Bl O name_of parts_ s w t r v b input =
    record {
      board = c.self.invariant;
      role = c.requires.role;
      allowed = allowed;
      passes = c.requires.passes;
      next = next;
      has = subst (λ (x : FrameName). block_of (past w.told) x ≡ b ∷ []) (sym named) l.has;
      part = c.in-Ok.ensures.part;
    } in
    let w0 = c.next_queued-name.new.self in
    let told : c.take.new.self ≡ record w { told = shared name_of parts_ s r v input w.told } =
    c.take.ensures ∙ ap (λ (x : Coursed). record x { told = shared name_of parts_ s r v input x.told }) c.next_queued-name.ensures.same in
    subst (λ (x : BoardState). TakeGives {F = g.row.F.Denot} {B = g.row.F-Blank.Denot} {O = g.row.F-Of.Denot} name_of parts_ bytes s x r v
    (take.Job v input None) c.take.new.self.told) c.self.view_is
    (shared-gives Bl O name_of parts_ bytes (look_laws parts_) s w t r v b input c.take.new.self.told i (ap (λ (x : Coursed). x.told) told))
