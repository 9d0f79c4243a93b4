use Rattle.std.proofs.Common.{◌≡◌, ◌∙◌, List, None, refl, sym, ap, subst}
use Rattle.pool_ledger.specs.Grants.{Granted}
use Rattle.flow_journal.specs.Accounts.{grant}
use Rattle.board_rules.specs.RunMeasures.{run_setting}
use Rattle.board_rules.specs.States.{BoardState, past}
use Rattle.board_rules.specs.declared.answers.Load.TheVariants as load
use Rattle.board_rules.specs.Feeding.{load_refusal, LoadGives}
use Rattle.board_rules.specs.Reusing.{LoadReuses}
use Rattle.pool_account.specs.Account.{given_up_for}
use Rattle.frame_table.specs.Kept.{Kept, without_kept}
use Rattle.run_course.specs.Courses.{Coursed}
use Rattle.kept_blocks.specs.GrantLaws.{IsGranted}
use Rattle.kept_blocks.proofs.Looks.{look_laws}
use Rattle.flow_core.specs.Boards.{IsBoard}
use Rattle.flow_core.proofs.Boarding.{board-same}
use Rattle.flow_core.proofs.Laws.{grant_laws}
use Rattle.flow_core.proofs.Loads.{LoadsOn, loaded-gives, loaded-board, loaded-room, loaded-reuses, no_memory-gives}
use Rattle.flow_core.proofs.Stored.{not-stored-wants, not-stored-holds, fresh-holds}
use Rattle.flow_core.proofs.board.Board.load_granted.Goals as goal

pub storage_for-requires : goal.storage_for-requires
storage_for-requires g c =
    let parts_ = g.F.Held.parts in
    let bytes = g.F.Held.bytes_of in
    let s = run_setting g.F.Of.Run.graph g.F.Of.Run.stack in
    let w = c.self.inside.course in
    let t = c.self.inside.table in
    let gr = c.args.grant in
    let board : IsBoard parts_ s w t = c.self.invariant in
    let none = subst (λ (b : BoardState). load_refusal {B = g.row.F-Blank.Denot} s c.args.role (past b) ≡ None) (sym c.self.view_is) c.requires.allowed in
    let given : grant s (past w.told) (s.need 0) ≡ Granted gr.block gr.size gr.fresh gr.given_up =
    subst (λ (b : BoardState). grant s (past b) (s.need 0) ≡ Granted gr.block gr.size gr.fresh gr.given_up) (sym c.self.view_is) c.requires.granted in
    let i : IsGranted parts_ s w.told t (s.need 0) gr.block gr.size gr.fresh gr.given_up = record { run = board.run; holds = board.holds; granted = given } in
    (grant_laws parts_).next s w.told t (s.need 0) gr.block gr.size gr.fresh gr.given_up i

pub invariant_of-self : goal.invariant_of-self
invariant_of-self g c =
    let parts_ = g.F.Held.parts in
    let bytes = g.F.Held.bytes_of in
    let s = run_setting g.F.Of.Run.graph g.F.Of.Run.stack in
    let w = c.self.inside.course in
    let t = c.self.inside.table in
    let gr = c.args.grant in
    let board : IsBoard parts_ s w t = c.self.invariant in
    let none = subst (λ (b : BoardState). load_refusal {B = g.row.F-Blank.Denot} s c.args.role (past b) ≡ None) (sym c.self.view_is) c.requires.allowed in
    let given : grant s (past w.told) (s.need 0) ≡ Granted gr.block gr.size gr.fresh gr.given_up =
    subst (λ (b : BoardState). grant s (past b) (s.need 0) ≡ Granted gr.block gr.size gr.fresh gr.given_up) (sym c.self.view_is) c.requires.granted in
    let i : IsGranted parts_ s w.told t (s.need 0) gr.block gr.size gr.fresh gr.given_up = record { run = board.run; holds = board.holds; granted = given } in
    board-same parts_ s w w t c.storage_for.new.table board refl (not-stored-holds parts_ (grant_laws parts_) s w.told t c.storage_for.new.table
    (s.need 0) gr.block gr.size gr.fresh gr.given_up i c.in_default.ensures.refused)

pub returns-in_default-clause-gives : goal.returns-in_default-clause-gives
returns-in_default-clause-gives g c =
    let parts_ = g.F.Held.parts in
    let bytes = g.F.Held.bytes_of in
    let s = run_setting g.F.Of.Run.graph g.F.Of.Run.stack in
    let w = c.self.inside.course in
    let t = c.self.inside.table in
    let gr = c.args.grant in
    let board : IsBoard parts_ s w t = c.self.invariant in
    let none = subst (λ (b : BoardState). load_refusal {B = g.row.F-Blank.Denot} s c.args.role (past b) ≡ None) (sym c.self.view_is) c.requires.allowed in
    let given : grant s (past w.told) (s.need 0) ≡ Granted gr.block gr.size gr.fresh gr.given_up =
    subst (λ (b : BoardState). grant s (past b) (s.need 0) ≡ Granted gr.block gr.size gr.fresh gr.given_up) (sym c.self.view_is) c.requires.granted in
    let i : IsGranted parts_ s w.told t (s.need 0) gr.block gr.size gr.fresh gr.given_up = record { run = board.run; holds = board.holds; granted = given } in
    subst (λ (b : BoardState). LoadGives parts_ bytes s b c.args.role c.args.tick load.OutOfMemory w.told) c.self.view_is
    (no_memory-gives parts_ bytes s w.told w.told c.args.role c.args.tick gr.block gr.size gr.fresh gr.given_up none given (not-stored-wants parts_
    (grant_laws parts_) s w.told t c.storage_for.new.table (s.need 0) gr.block gr.size gr.fresh gr.given_up i c.in_default.ensures.refused) refl)

pub invariant_of-self-in_default-load : goal.invariant_of-self-in_default-load
invariant_of-self-in_default-load g c =
    let parts_ = g.F.Held.parts in
    let bytes = g.F.Held.bytes_of in
    let s = run_setting g.F.Of.Run.graph g.F.Of.Run.stack in
    let w = c.self.inside.course in
    let t = c.self.inside.table in
    let gr = c.args.grant in
    let board : IsBoard parts_ s w t = c.self.invariant in
    let none = subst (λ (b : BoardState). load_refusal {B = g.row.F-Blank.Denot} s c.args.role (past b) ≡ None) (sym c.self.view_is) c.requires.allowed in
    let given : grant s (past w.told) (s.need 0) ≡ Granted gr.block gr.size gr.fresh gr.given_up =
    subst (λ (b : BoardState). grant s (past b) (s.need 0) ≡ Granted gr.block gr.size gr.fresh gr.given_up) (sym c.self.view_is) c.requires.granted in
    let i : IsGranted parts_ s w.told t (s.need 0) gr.block gr.size gr.fresh gr.given_up = record { run = board.run; holds = board.holds; granted = given } in
    let refused = c.in_default-load.ensures.refused in
    board-same parts_ s w c.load.new.course t c.load.new.table board refused.0
    (fresh-holds parts_ (grant_laws parts_) s w.told t c.load.new.table gr.block gr.fresh board.holds refused.1
    (c.in_default-load.ensures.kept ∙ c.in-Ok.ensures.place))

pub invariant_of-self-2 : goal.invariant_of-self-2
invariant_of-self-2 g c =
    let parts_ = g.F.Held.parts in
    let bytes = g.F.Held.bytes_of in
    let s = run_setting g.F.Of.Run.graph g.F.Of.Run.stack in
    let w = c.self.inside.course in
    let t = c.self.inside.table in
    let gr = c.args.grant in
    let board : IsBoard parts_ s w t = c.self.invariant in
    let none = subst (λ (b : BoardState). load_refusal {B = g.row.F-Blank.Denot} s c.args.role (past b) ≡ None) (sym c.self.view_is) c.requires.allowed in
    let given : grant s (past w.told) (s.need 0) ≡ Granted gr.block gr.size gr.fresh gr.given_up =
    subst (λ (b : BoardState). grant s (past b) (s.need 0) ≡ Granted gr.block gr.size gr.fresh gr.given_up) (sym c.self.view_is) c.requires.granted in
    let i : IsGranted parts_ s w.told t (s.need 0) gr.block gr.size gr.fresh gr.given_up = record { run = board.run; holds = board.holds; granted = given } in
    let blank = c.in-Ok.field-0.blank in
    let l : LoadsOn parts_ bytes s w t c.args.role gr.block gr.size gr.fresh gr.given_up c.in-Ok.field-0.regrown blank =
    record { board = board; role = c.requires.role; allowed = none; granted = given; size = c.in-Ok.ensures.size; remade = c.in-Ok.ensures.regrown } in
    loaded-board parts_ bytes (grant_laws parts_) s w c.load.new.course t c.load.new.table c.args.role c.args.tick gr.block gr.size gr.fresh gr.given_up
    c.in-Ok.field-0.regrown blank l c.in-Ok-load.ensures.loaded
    (c.in-Ok-load.ensures.given ∙ ap (λ (u : List Kept). without_kept (given_up_for s (past w.told) gr.fresh gr.given_up) u) c.in-Ok.ensures.place)

pub returns-clause-gives : goal.returns-clause-gives
returns-clause-gives g c =
    let parts_ = g.F.Held.parts in
    let bytes = g.F.Held.bytes_of in
    let s = run_setting g.F.Of.Run.graph g.F.Of.Run.stack in
    let w = c.self.inside.course in
    let t = c.self.inside.table in
    let gr = c.args.grant in
    let board : IsBoard parts_ s w t = c.self.invariant in
    let none = subst (λ (b : BoardState). load_refusal {B = g.row.F-Blank.Denot} s c.args.role (past b) ≡ None) (sym c.self.view_is) c.requires.allowed in
    let given : grant s (past w.told) (s.need 0) ≡ Granted gr.block gr.size gr.fresh gr.given_up =
    subst (λ (b : BoardState). grant s (past b) (s.need 0) ≡ Granted gr.block gr.size gr.fresh gr.given_up) (sym c.self.view_is) c.requires.granted in
    let i : IsGranted parts_ s w.told t (s.need 0) gr.block gr.size gr.fresh gr.given_up = record { run = board.run; holds = board.holds; granted = given } in
    let blank = c.in-Ok.field-0.blank in
    let l : LoadsOn parts_ bytes s w t c.args.role gr.block gr.size gr.fresh gr.given_up c.in-Ok.field-0.regrown blank =
    record { board = board; role = c.requires.role; allowed = none; granted = given; size = c.in-Ok.ensures.size; remade = c.in-Ok.ensures.regrown } in
    subst (λ (b : BoardState). LoadGives parts_ bytes s b c.args.role c.args.tick (load.Loaded c.next_index-index.result blank) c.load.new.course.told)
    c.self.view_is
    (loaded-gives parts_ bytes (grant_laws parts_) s w t c.args.role c.args.tick gr.block gr.size gr.fresh gr.given_up c.in-Ok.field-0.regrown blank
    c.next_index-index.result c.load.new.course.told l c.next_index-index.ensures (ap (λ (x : Coursed). x.told) c.in-Ok-load.ensures.loaded))

pub returns-clause-room : goal.returns-clause-room
returns-clause-room g c =
    let parts_ = g.F.Held.parts in
    let bytes = g.F.Held.bytes_of in
    let s = run_setting g.F.Of.Run.graph g.F.Of.Run.stack in
    let w = c.self.inside.course in
    let t = c.self.inside.table in
    let gr = c.args.grant in
    let board : IsBoard parts_ s w t = c.self.invariant in
    let none = subst (λ (b : BoardState). load_refusal {B = g.row.F-Blank.Denot} s c.args.role (past b) ≡ None) (sym c.self.view_is) c.requires.allowed in
    let given : grant s (past w.told) (s.need 0) ≡ Granted gr.block gr.size gr.fresh gr.given_up =
    subst (λ (b : BoardState). grant s (past b) (s.need 0) ≡ Granted gr.block gr.size gr.fresh gr.given_up) (sym c.self.view_is) c.requires.granted in
    let i : IsGranted parts_ s w.told t (s.need 0) gr.block gr.size gr.fresh gr.given_up = record { run = board.run; holds = board.holds; granted = given } in
    let blank = c.in-Ok.field-0.blank in
    let l : LoadsOn parts_ bytes s w t c.args.role gr.block gr.size gr.fresh gr.given_up c.in-Ok.field-0.regrown blank =
    record { board = board; role = c.requires.role; allowed = none; granted = given; size = c.in-Ok.ensures.size; remade = c.in-Ok.ensures.regrown } in
    loaded-room parts_ bytes (look_laws parts_) s w t c.args.role c.args.tick gr.block gr.size gr.fresh gr.given_up c.in-Ok.field-0.regrown blank
    c.next_index-index.result c.load.new.course.told l (ap (λ (x : Coursed). x.told) c.in-Ok-load.ensures.loaded)

pub returns-clause-reused : goal.returns-clause-reused
returns-clause-reused g c =
    let parts_ = g.F.Held.parts in
    let bytes = g.F.Held.bytes_of in
    let s = run_setting g.F.Of.Run.graph g.F.Of.Run.stack in
    let w = c.self.inside.course in
    let t = c.self.inside.table in
    let gr = c.args.grant in
    let board : IsBoard parts_ s w t = c.self.invariant in
    let none = subst (λ (b : BoardState). load_refusal {B = g.row.F-Blank.Denot} s c.args.role (past b) ≡ None) (sym c.self.view_is) c.requires.allowed in
    let given : grant s (past w.told) (s.need 0) ≡ Granted gr.block gr.size gr.fresh gr.given_up =
    subst (λ (b : BoardState). grant s (past b) (s.need 0) ≡ Granted gr.block gr.size gr.fresh gr.given_up) (sym c.self.view_is) c.requires.granted in
    let i : IsGranted parts_ s w.told t (s.need 0) gr.block gr.size gr.fresh gr.given_up = record { run = board.run; holds = board.holds; granted = given } in
    let blank = c.in-Ok.field-0.blank in
    subst (λ (b : BoardState). LoadReuses parts_ g.F.Held.is_used b c.args.role (load.Loaded c.next_index-index.result blank) c.load.new.course.told)
    c.self.view_is
    (loaded-reuses parts_ g.F.Held.is_used (look_laws parts_) (grant_laws parts_) s w t c.args.role c.args.tick gr.block gr.size gr.fresh gr.given_up
    c.in-Ok.field-0.regrown blank c.next_index-index.result c.load.new.course.told i c.in-Ok.ensures.used
    (ap (λ (x : Coursed). x.told) c.in-Ok-load.ensures.loaded))
