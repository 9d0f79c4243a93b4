use Rattle.std.proofs.Common.{◌≡◌, ◌≤◌, ◌∙◌, List, length, Some, None, true, sym, ap, subst, arith}
use Rattle.std.specs.Prelude.{IsTrue}
use Rattle.nd_base.specs.declared.frame.FrameName.{FrameName}
use Rattle.pool_ledger.specs.Grants.{Granted}
use Rattle.board_rules.specs.RunMeasures.{run_setting}
use Rattle.board_rules.specs.declared.answers.Take.TheVariants as take
use Rattle.board_rules.specs.States.{BoardState, past}
use Rattle.board_rules.specs.InHand.{TellParts}
use Rattle.board_rules.specs.Storage.{wants_storage}
use Rattle.board_rules.specs.Working.{take_refusal, TakeGives}
use Rattle.board_rules.specs.Reusing.{TakeReuses}
use Rattle.flow_journal.specs.Queued.{queued}
use Rattle.flow_journal.specs.Accounts.{grant}
use Rattle.flow_journal.specs.FirstEntries.{is_next}
use Rattle.run_course.specs.Courses.{Coursed}
use Rattle.pool_account.specs.Account.{given_up_for}
use Rattle.frame_table.specs.Kept.{Kept, kept_at, without_kept, IsPartOf, less_one}
use Rattle.kept_blocks.specs.Keeping.{HoldsBlocks}
use Rattle.kept_blocks.specs.GrantLaws.{IsGranted}
use Rattle.kept_blocks.proofs.Looks.{look_laws}
use Rattle.kept_blocks.proofs.Holding.{same-length}
use Rattle.flow_core.specs.Boards.{IsRemade, IsSameStorage, IsNotStored, with_storage}
use Rattle.flow_core.proofs.Laws.{grant_laws}
use Rattle.flow_core.proofs.Boarding.{board-same}
use Rattle.flow_core.proofs.Lent.{Tells, LendsAt, lends-at, lent-name}
use Rattle.flow_core.proofs.Takes.{LendsBeside, Makes, BackTo, lent_out, made, made-gives, made-board, made-lends, made-reuses, made-no_memory}
use Rattle.flow_core.proofs.Takes.{not-stored-back, not-stored-lent-wants, fresh-back, back-again}
use Rattle.flow_core.proofs.board.Board.take_granted.Goals as goal

pub lend-requires-clause-place : goal.lend-requires-clause-place
lend-requires-clause-place g c =
    let name_of = g.F.Named.name_of in
    let parts_ = g.F.Held.parts in
    let bytes = g.F.Held.bytes_of in
    let O = g.row.F-Of.Denot in
    let s = run_setting g.F.Of.Run.graph g.F.Of.Run.stack in
    let w = c.self.inside.course in
    let t = c.self.inside.table in
    let r = c.args.role in
    let v = c.args.node in
    let gr = c.args.grant in
    let a = c.next_queued-name.result in
    let b = c.block-block.result in
    let w0 = c.next_queued-name.new.self in
    let allowed : take_refusal {F = g.row.F.Denot} {B = g.row.F-Blank.Denot} {O = g.row.F-Of.Denot} s r v (past w.told) ≡ None =
    subst (λ (x : BoardState). take_refusal {F = g.row.F.Denot} {B = g.row.F-Blank.Denot} {O = g.row.F-Of.Denot} s r v (past x) ≡ None) (sym c.self.view_is)
    c.requires.allowed in
    let given : grant s (past w.told) (s.need v) ≡ Granted gr.block gr.size gr.fresh gr.given_up =
    subst (λ (x : BoardState). grant s (past x) (s.need v) ≡ Granted gr.block gr.size gr.fresh gr.given_up) (sym c.self.view_is) c.requires.granted in
    let i : IsGranted parts_ s w.told t (s.need v) gr.block gr.size gr.fresh gr.given_up =
    record { run = c.self.invariant.run; holds = c.self.invariant.holds; granted = given } in
    let l : LendsAt parts_ w.told t a b =
    lends-at parts_ w.told t a b ((look_laws parts_).queued s w.told t v a c.self.invariant.run c.self.invariant.holds c.next_queued-name.ensures.next)
    (subst (λ (x : Coursed). Tells x.told a b) c.next_queued-name.ensures.same c.block-block.ensures) in
    let beside : LendsBeside parts_ s w.told t v (s.need v) gr.block gr.size gr.fresh gr.given_up a b =
    record { granted = i; next = c.next_queued-name.ensures.next; lends = l } in
    l.place

pub lend-requires-clause-frame : goal.lend-requires-clause-frame
lend-requires-clause-frame g c =
    let name_of = g.F.Named.name_of in
    let parts_ = g.F.Held.parts in
    let bytes = g.F.Held.bytes_of in
    let O = g.row.F-Of.Denot in
    let s = run_setting g.F.Of.Run.graph g.F.Of.Run.stack in
    let w = c.self.inside.course in
    let t = c.self.inside.table in
    let r = c.args.role in
    let v = c.args.node in
    let gr = c.args.grant in
    let a = c.next_queued-name.result in
    let b = c.block-block.result in
    let w0 = c.next_queued-name.new.self in
    let allowed : take_refusal {F = g.row.F.Denot} {B = g.row.F-Blank.Denot} {O = g.row.F-Of.Denot} s r v (past w.told) ≡ None =
    subst (λ (x : BoardState). take_refusal {F = g.row.F.Denot} {B = g.row.F-Blank.Denot} {O = g.row.F-Of.Denot} s r v (past x) ≡ None) (sym c.self.view_is)
    c.requires.allowed in
    let given : grant s (past w.told) (s.need v) ≡ Granted gr.block gr.size gr.fresh gr.given_up =
    subst (λ (x : BoardState). grant s (past x) (s.need v) ≡ Granted gr.block gr.size gr.fresh gr.given_up) (sym c.self.view_is) c.requires.granted in
    let i : IsGranted parts_ s w.told t (s.need v) gr.block gr.size gr.fresh gr.given_up =
    record { run = c.self.invariant.run; holds = c.self.invariant.holds; granted = given } in
    let l : LendsAt parts_ w.told t a b =
    lends-at parts_ w.told t a b ((look_laws parts_).queued s w.told t v a c.self.invariant.run c.self.invariant.holds c.next_queued-name.ensures.next)
    (subst (λ (x : Coursed). Tells x.told a b) c.next_queued-name.ensures.same c.block-block.ensures) in
    let beside : LendsBeside parts_ s w.told t v (s.need v) gr.block gr.size gr.fresh gr.given_up a b =
    record { granted = i; next = c.next_queued-name.ensures.next; lends = l } in
    l.may

pub returns-in_default-clause-gives : goal.returns-in_default-clause-gives
returns-in_default-clause-gives g c =
    let name_of = g.F.Named.name_of in
    let parts_ = g.F.Held.parts in
    let bytes = g.F.Held.bytes_of in
    let O = g.row.F-Of.Denot in
    let s = run_setting g.F.Of.Run.graph g.F.Of.Run.stack in
    let w = c.self.inside.course in
    let t = c.self.inside.table in
    let r = c.args.role in
    let v = c.args.node in
    let gr = c.args.grant in
    let a = c.next_queued-name.result in
    let b = c.block-block.result in
    let w0 = c.next_queued-name.new.self in
    let allowed : take_refusal {F = g.row.F.Denot} {B = g.row.F-Blank.Denot} {O = g.row.F-Of.Denot} s r v (past w.told) ≡ None =
    subst (λ (x : BoardState). take_refusal {F = g.row.F.Denot} {B = g.row.F-Blank.Denot} {O = g.row.F-Of.Denot} s r v (past x) ≡ None) (sym c.self.view_is)
    c.requires.allowed in
    let given : grant s (past w.told) (s.need v) ≡ Granted gr.block gr.size gr.fresh gr.given_up =
    subst (λ (x : BoardState). grant s (past x) (s.need v) ≡ Granted gr.block gr.size gr.fresh gr.given_up) (sym c.self.view_is) c.requires.granted in
    let i : IsGranted parts_ s w.told t (s.need v) gr.block gr.size gr.fresh gr.given_up =
    record { run = c.self.invariant.run; holds = c.self.invariant.holds; granted = given } in
    let l : LendsAt parts_ w.told t a b =
    lends-at parts_ w.told t a b ((look_laws parts_).queued s w.told t v a c.self.invariant.run c.self.invariant.holds c.next_queued-name.ensures.next)
    (subst (λ (x : Coursed). Tells x.told a b) c.next_queued-name.ensures.same c.block-block.ensures) in
    let beside : LendsBeside parts_ s w.told t v (s.need v) gr.block gr.size gr.fresh gr.given_up a b =
    record { granted = i; next = c.next_queued-name.ensures.next; lends = l } in
    let wants : TellParts parts_ → IsTrue (wants_storage w.told (Granted gr.block gr.size gr.fresh gr.given_up)) =
    λ tell. absurd (l.tells tell c.in_default.ensures.err.0) in
    subst (λ (y : BoardState). TakeGives {F = g.row.F.Denot} {B = g.row.F-Blank.Denot} {O = g.row.F-Of.Denot} name_of parts_ bytes s y r v
    take.OutOfMemory w0.told) c.self.view_is
    (made-no_memory O name_of parts_ bytes s w.told w0.told r v gr.block gr.size gr.fresh gr.given_up allowed c.requires.makes given wants
    (ap (λ (y : Coursed). y.told) c.next_queued-name.ensures.same))

pub storage_for-requires : goal.storage_for-requires
storage_for-requires g c =
    let name_of = g.F.Named.name_of in
    let parts_ = g.F.Held.parts in
    let bytes = g.F.Held.bytes_of in
    let O = g.row.F-Of.Denot in
    let s = run_setting g.F.Of.Run.graph g.F.Of.Run.stack in
    let w = c.self.inside.course in
    let t = c.self.inside.table in
    let r = c.args.role in
    let v = c.args.node in
    let gr = c.args.grant in
    let a = c.next_queued-name.result in
    let b = c.block-block.result in
    let w0 = c.next_queued-name.new.self in
    let allowed : take_refusal {F = g.row.F.Denot} {B = g.row.F-Blank.Denot} {O = g.row.F-Of.Denot} s r v (past w.told) ≡ None =
    subst (λ (x : BoardState). take_refusal {F = g.row.F.Denot} {B = g.row.F-Blank.Denot} {O = g.row.F-Of.Denot} s r v (past x) ≡ None) (sym c.self.view_is)
    c.requires.allowed in
    let given : grant s (past w.told) (s.need v) ≡ Granted gr.block gr.size gr.fresh gr.given_up =
    subst (λ (x : BoardState). grant s (past x) (s.need v) ≡ Granted gr.block gr.size gr.fresh gr.given_up) (sym c.self.view_is) c.requires.granted in
    let i : IsGranted parts_ s w.told t (s.need v) gr.block gr.size gr.fresh gr.given_up =
    record { run = c.self.invariant.run; holds = c.self.invariant.holds; granted = given } in
    let l : LendsAt parts_ w.told t a b =
    lends-at parts_ w.told t a b ((look_laws parts_).queued s w.told t v a c.self.invariant.run c.self.invariant.holds c.next_queued-name.ensures.next)
    (subst (λ (x : Coursed). Tells x.told a b) c.next_queued-name.ensures.same c.block-block.ensures) in
    let beside : LendsBeside parts_ s w.told t v (s.need v) gr.block gr.size gr.fresh gr.given_up a b =
    record { granted = i; next = c.next_queued-name.ensures.next; lends = l } in
    let input = c.in-Ok.input in
    let named : name_of input ≡ a = lent-name parts_ w.told t a b (name_of input) (parts_ input) l c.in-Ok.ensures.part in
    let part : IsPartOf (kept_at t b) a (parts_ input) = subst (λ (x : FrameName). IsPartOf (kept_at t b) x (parts_ input)) named c.in-Ok.ensures.part in
    subst (λ (u : List Kept). gr.block ≤ length u) (sym c.in-Ok.ensures.rest)
    (omega (arith, (grant_laws parts_).next s w.told t (s.need v) gr.block gr.size gr.fresh gr.given_up i, same-length t b (less_one (kept_at t b))))

pub give_back-requires-clause-frame : goal.give_back-requires-clause-frame
give_back-requires-clause-frame g c =
    let name_of = g.F.Named.name_of in
    let parts_ = g.F.Held.parts in
    let bytes = g.F.Held.bytes_of in
    let O = g.row.F-Of.Denot in
    let s = run_setting g.F.Of.Run.graph g.F.Of.Run.stack in
    let w = c.self.inside.course in
    let t = c.self.inside.table in
    let r = c.args.role in
    let v = c.args.node in
    let gr = c.args.grant in
    let a = c.next_queued-name.result in
    let b = c.block-block.result in
    let w0 = c.next_queued-name.new.self in
    let allowed : take_refusal {F = g.row.F.Denot} {B = g.row.F-Blank.Denot} {O = g.row.F-Of.Denot} s r v (past w.told) ≡ None =
    subst (λ (x : BoardState). take_refusal {F = g.row.F.Denot} {B = g.row.F-Blank.Denot} {O = g.row.F-Of.Denot} s r v (past x) ≡ None) (sym c.self.view_is)
    c.requires.allowed in
    let given : grant s (past w.told) (s.need v) ≡ Granted gr.block gr.size gr.fresh gr.given_up =
    subst (λ (x : BoardState). grant s (past x) (s.need v) ≡ Granted gr.block gr.size gr.fresh gr.given_up) (sym c.self.view_is) c.requires.granted in
    let i : IsGranted parts_ s w.told t (s.need v) gr.block gr.size gr.fresh gr.given_up =
    record { run = c.self.invariant.run; holds = c.self.invariant.holds; granted = given } in
    let l : LendsAt parts_ w.told t a b =
    lends-at parts_ w.told t a b ((look_laws parts_).queued s w.told t v a c.self.invariant.run c.self.invariant.holds c.next_queued-name.ensures.next)
    (subst (λ (x : Coursed). Tells x.told a b) c.next_queued-name.ensures.same c.block-block.ensures) in
    let beside : LendsBeside parts_ s w.told t v (s.need v) gr.block gr.size gr.fresh gr.given_up a b =
    record { granted = i; next = c.next_queued-name.ensures.next; lends = l } in
    let input = c.in-Ok.input in
    let named : name_of input ≡ a = lent-name parts_ w.told t a b (name_of input) (parts_ input) l c.in-Ok.ensures.part in
    let part : IsPartOf (kept_at t b) a (parts_ input) = subst (λ (x : FrameName). IsPartOf (kept_at t b) x (parts_ input)) named c.in-Ok.ensures.part in
    let T = c.storage_for.new.table in
    let back : BackTo parts_ s w.told t T b =
    not-stored-back parts_ (grant_laws parts_) s w.told t T v (s.need v) gr.block gr.size gr.fresh gr.given_up a b beside
    (subst (λ (u : List Kept). IsNotStored gr.size gr.block gr.fresh u T) c.in-Ok.ensures.rest c.in_default-storage_for.ensures.refused) in
    let again = back-again parts_ (look_laws parts_) s w.told t T a b (parts_ input) l part back in
    again.1

pub invariant_of-self-in_default-storage_for : goal.invariant_of-self-in_default-storage_for
invariant_of-self-in_default-storage_for g c =
    let name_of = g.F.Named.name_of in
    let parts_ = g.F.Held.parts in
    let bytes = g.F.Held.bytes_of in
    let O = g.row.F-Of.Denot in
    let s = run_setting g.F.Of.Run.graph g.F.Of.Run.stack in
    let w = c.self.inside.course in
    let t = c.self.inside.table in
    let r = c.args.role in
    let v = c.args.node in
    let gr = c.args.grant in
    let a = c.next_queued-name.result in
    let b = c.block-block.result in
    let w0 = c.next_queued-name.new.self in
    let allowed : take_refusal {F = g.row.F.Denot} {B = g.row.F-Blank.Denot} {O = g.row.F-Of.Denot} s r v (past w.told) ≡ None =
    subst (λ (x : BoardState). take_refusal {F = g.row.F.Denot} {B = g.row.F-Blank.Denot} {O = g.row.F-Of.Denot} s r v (past x) ≡ None) (sym c.self.view_is)
    c.requires.allowed in
    let given : grant s (past w.told) (s.need v) ≡ Granted gr.block gr.size gr.fresh gr.given_up =
    subst (λ (x : BoardState). grant s (past x) (s.need v) ≡ Granted gr.block gr.size gr.fresh gr.given_up) (sym c.self.view_is) c.requires.granted in
    let i : IsGranted parts_ s w.told t (s.need v) gr.block gr.size gr.fresh gr.given_up =
    record { run = c.self.invariant.run; holds = c.self.invariant.holds; granted = given } in
    let l : LendsAt parts_ w.told t a b =
    lends-at parts_ w.told t a b ((look_laws parts_).queued s w.told t v a c.self.invariant.run c.self.invariant.holds c.next_queued-name.ensures.next)
    (subst (λ (x : Coursed). Tells x.told a b) c.next_queued-name.ensures.same c.block-block.ensures) in
    let beside : LendsBeside parts_ s w.told t v (s.need v) gr.block gr.size gr.fresh gr.given_up a b =
    record { granted = i; next = c.next_queued-name.ensures.next; lends = l } in
    let input = c.in-Ok.input in
    let named : name_of input ≡ a = lent-name parts_ w.told t a b (name_of input) (parts_ input) l c.in-Ok.ensures.part in
    let part : IsPartOf (kept_at t b) a (parts_ input) = subst (λ (x : FrameName). IsPartOf (kept_at t b) x (parts_ input)) named c.in-Ok.ensures.part in
    let T = c.storage_for.new.table in
    let back : BackTo parts_ s w.told t T b =
    not-stored-back parts_ (grant_laws parts_) s w.told t T v (s.need v) gr.block gr.size gr.fresh gr.given_up a b beside
    (subst (λ (u : List Kept). IsNotStored gr.size gr.block gr.fresh u T) c.in-Ok.ensures.rest c.in_default-storage_for.ensures.refused) in
    let again = back-again parts_ (look_laws parts_) s w.told t T a b (parts_ input) l part back in
    board-same parts_ s w w0 t c.give_back.new.self c.self.invariant c.next_queued-name.ensures.same
    (subst (λ (u : List Kept). HoldsBlocks parts_ s w.told u) (sym c.give_back.ensures) again.2)

pub returns-in_default-storage_for-clause-gives : goal.returns-in_default-storage_for-clause-gives
returns-in_default-storage_for-clause-gives g c =
    let name_of = g.F.Named.name_of in
    let parts_ = g.F.Held.parts in
    let bytes = g.F.Held.bytes_of in
    let O = g.row.F-Of.Denot in
    let s = run_setting g.F.Of.Run.graph g.F.Of.Run.stack in
    let w = c.self.inside.course in
    let t = c.self.inside.table in
    let r = c.args.role in
    let v = c.args.node in
    let gr = c.args.grant in
    let a = c.next_queued-name.result in
    let b = c.block-block.result in
    let w0 = c.next_queued-name.new.self in
    let allowed : take_refusal {F = g.row.F.Denot} {B = g.row.F-Blank.Denot} {O = g.row.F-Of.Denot} s r v (past w.told) ≡ None =
    subst (λ (x : BoardState). take_refusal {F = g.row.F.Denot} {B = g.row.F-Blank.Denot} {O = g.row.F-Of.Denot} s r v (past x) ≡ None) (sym c.self.view_is)
    c.requires.allowed in
    let given : grant s (past w.told) (s.need v) ≡ Granted gr.block gr.size gr.fresh gr.given_up =
    subst (λ (x : BoardState). grant s (past x) (s.need v) ≡ Granted gr.block gr.size gr.fresh gr.given_up) (sym c.self.view_is) c.requires.granted in
    let i : IsGranted parts_ s w.told t (s.need v) gr.block gr.size gr.fresh gr.given_up =
    record { run = c.self.invariant.run; holds = c.self.invariant.holds; granted = given } in
    let l : LendsAt parts_ w.told t a b =
    lends-at parts_ w.told t a b ((look_laws parts_).queued s w.told t v a c.self.invariant.run c.self.invariant.holds c.next_queued-name.ensures.next)
    (subst (λ (x : Coursed). Tells x.told a b) c.next_queued-name.ensures.same c.block-block.ensures) in
    let beside : LendsBeside parts_ s w.told t v (s.need v) gr.block gr.size gr.fresh gr.given_up a b =
    record { granted = i; next = c.next_queued-name.ensures.next; lends = l } in
    let input = c.in-Ok.input in
    let named : name_of input ≡ a = lent-name parts_ w.told t a b (name_of input) (parts_ input) l c.in-Ok.ensures.part in
    let part : IsPartOf (kept_at t b) a (parts_ input) = subst (λ (x : FrameName). IsPartOf (kept_at t b) x (parts_ input)) named c.in-Ok.ensures.part in
    let T = c.storage_for.new.table in
    let wants : TellParts parts_ → IsTrue (wants_storage w.told (Granted gr.block gr.size gr.fresh gr.given_up)) =
    not-stored-lent-wants parts_ (grant_laws parts_) s w.told t T v (s.need v) gr.block gr.size gr.fresh gr.given_up a b beside
    (subst (λ (u : List Kept). IsNotStored gr.size gr.block gr.fresh u T) c.in-Ok.ensures.rest c.in_default-storage_for.ensures.refused) in
    subst (λ (y : BoardState). TakeGives {F = g.row.F.Denot} {B = g.row.F-Blank.Denot} {O = g.row.F-Of.Denot} name_of parts_ bytes s y r v
    take.OutOfMemory w0.told) c.self.view_is
    (made-no_memory O name_of parts_ bytes s w.told w0.told r v gr.block gr.size gr.fresh gr.given_up allowed c.requires.makes given wants
    (ap (λ (y : Coursed). y.told) c.next_queued-name.ensures.same))

pub take_block-requires-clause-next : goal.take_block-requires-clause-next
take_block-requires-clause-next g c =
    let name_of = g.F.Named.name_of in
    let parts_ = g.F.Held.parts in
    let bytes = g.F.Held.bytes_of in
    let O = g.row.F-Of.Denot in
    let s = run_setting g.F.Of.Run.graph g.F.Of.Run.stack in
    let w = c.self.inside.course in
    let t = c.self.inside.table in
    let r = c.args.role in
    let v = c.args.node in
    let gr = c.args.grant in
    let a = c.next_queued-name.result in
    let b = c.block-block.result in
    let w0 = c.next_queued-name.new.self in
    let allowed : take_refusal {F = g.row.F.Denot} {B = g.row.F-Blank.Denot} {O = g.row.F-Of.Denot} s r v (past w.told) ≡ None =
    subst (λ (x : BoardState). take_refusal {F = g.row.F.Denot} {B = g.row.F-Blank.Denot} {O = g.row.F-Of.Denot} s r v (past x) ≡ None) (sym c.self.view_is)
    c.requires.allowed in
    let given : grant s (past w.told) (s.need v) ≡ Granted gr.block gr.size gr.fresh gr.given_up =
    subst (λ (x : BoardState). grant s (past x) (s.need v) ≡ Granted gr.block gr.size gr.fresh gr.given_up) (sym c.self.view_is) c.requires.granted in
    let i : IsGranted parts_ s w.told t (s.need v) gr.block gr.size gr.fresh gr.given_up =
    record { run = c.self.invariant.run; holds = c.self.invariant.holds; granted = given } in
    let l : LendsAt parts_ w.told t a b =
    lends-at parts_ w.told t a b ((look_laws parts_).queued s w.told t v a c.self.invariant.run c.self.invariant.holds c.next_queued-name.ensures.next)
    (subst (λ (x : Coursed). Tells x.told a b) c.next_queued-name.ensures.same c.block-block.ensures) in
    let beside : LendsBeside parts_ s w.told t v (s.need v) gr.block gr.size gr.fresh gr.given_up a b =
    record { granted = i; next = c.next_queued-name.ensures.next; lends = l } in
    let input = c.in-Ok.input in
    let named : name_of input ≡ a = lent-name parts_ w.told t a b (name_of input) (parts_ input) l c.in-Ok.ensures.part in
    let part : IsPartOf (kept_at t b) a (parts_ input) = subst (λ (x : FrameName). IsPartOf (kept_at t b) x (parts_ input)) named c.in-Ok.ensures.part in
    let next : is_next (name_of input) (queued v (past w.told)) ≡ true =
    subst (λ (y : FrameName). is_next y (queued v (past w.told)) ≡ true) (sym named) c.next_queued-name.ensures.next in
    subst (λ (y : Coursed). is_next (name_of input) (queued v (past y.told)) ≡ true) (sym c.next_queued-name.ensures.same) next

pub give_back-requires-in_default-take_block-clause-frame : goal.give_back-requires-in_default-take_block-clause-frame
give_back-requires-in_default-take_block-clause-frame g c =
    let name_of = g.F.Named.name_of in
    let parts_ = g.F.Held.parts in
    let bytes = g.F.Held.bytes_of in
    let O = g.row.F-Of.Denot in
    let s = run_setting g.F.Of.Run.graph g.F.Of.Run.stack in
    let w = c.self.inside.course in
    let t = c.self.inside.table in
    let r = c.args.role in
    let v = c.args.node in
    let gr = c.args.grant in
    let a = c.next_queued-name.result in
    let b = c.block-block.result in
    let w0 = c.next_queued-name.new.self in
    let allowed : take_refusal {F = g.row.F.Denot} {B = g.row.F-Blank.Denot} {O = g.row.F-Of.Denot} s r v (past w.told) ≡ None =
    subst (λ (x : BoardState). take_refusal {F = g.row.F.Denot} {B = g.row.F-Blank.Denot} {O = g.row.F-Of.Denot} s r v (past x) ≡ None) (sym c.self.view_is)
    c.requires.allowed in
    let given : grant s (past w.told) (s.need v) ≡ Granted gr.block gr.size gr.fresh gr.given_up =
    subst (λ (x : BoardState). grant s (past x) (s.need v) ≡ Granted gr.block gr.size gr.fresh gr.given_up) (sym c.self.view_is) c.requires.granted in
    let i : IsGranted parts_ s w.told t (s.need v) gr.block gr.size gr.fresh gr.given_up =
    record { run = c.self.invariant.run; holds = c.self.invariant.holds; granted = given } in
    let l : LendsAt parts_ w.told t a b =
    lends-at parts_ w.told t a b ((look_laws parts_).queued s w.told t v a c.self.invariant.run c.self.invariant.holds c.next_queued-name.ensures.next)
    (subst (λ (x : Coursed). Tells x.told a b) c.next_queued-name.ensures.same c.block-block.ensures) in
    let beside : LendsBeside parts_ s w.told t v (s.need v) gr.block gr.size gr.fresh gr.given_up a b =
    record { granted = i; next = c.next_queued-name.ensures.next; lends = l } in
    let input = c.in-Ok.input in
    let named : name_of input ≡ a = lent-name parts_ w.told t a b (name_of input) (parts_ input) l c.in-Ok.ensures.part in
    let part : IsPartOf (kept_at t b) a (parts_ input) = subst (λ (x : FrameName). IsPartOf (kept_at t b) x (parts_ input)) named c.in-Ok.ensures.part in
    let T = c.take_block.new.table in
    let blank = c.in-Ok-storage_for.field-0.blank in
    let x = c.in-Ok-storage_for.field-0.regrown in
    let place : T ≡ with_storage gr.block gr.fresh (lent_out t b) =
    c.in_default-take_block.ensures.kept ∙ c.in-Ok-storage_for.ensures.place ∙ ap (λ (u : List Kept). with_storage gr.block gr.fresh u) c.in-Ok.ensures.rest in
    let refused = c.in_default-take_block.ensures.refused in
    let back : BackTo parts_ s w.told t T b =
    fresh-back parts_ (grant_laws parts_) s w.told t T v (s.need v) gr.block gr.size gr.fresh gr.given_up a b beside refused.1 place in
    let again = back-again parts_ (look_laws parts_) s w.told t T a b (parts_ input) l part back in
    again.1

pub invariant_of-self-in_default-take_block : goal.invariant_of-self-in_default-take_block
invariant_of-self-in_default-take_block g c =
    let name_of = g.F.Named.name_of in
    let parts_ = g.F.Held.parts in
    let bytes = g.F.Held.bytes_of in
    let O = g.row.F-Of.Denot in
    let s = run_setting g.F.Of.Run.graph g.F.Of.Run.stack in
    let w = c.self.inside.course in
    let t = c.self.inside.table in
    let r = c.args.role in
    let v = c.args.node in
    let gr = c.args.grant in
    let a = c.next_queued-name.result in
    let b = c.block-block.result in
    let w0 = c.next_queued-name.new.self in
    let allowed : take_refusal {F = g.row.F.Denot} {B = g.row.F-Blank.Denot} {O = g.row.F-Of.Denot} s r v (past w.told) ≡ None =
    subst (λ (x : BoardState). take_refusal {F = g.row.F.Denot} {B = g.row.F-Blank.Denot} {O = g.row.F-Of.Denot} s r v (past x) ≡ None) (sym c.self.view_is)
    c.requires.allowed in
    let given : grant s (past w.told) (s.need v) ≡ Granted gr.block gr.size gr.fresh gr.given_up =
    subst (λ (x : BoardState). grant s (past x) (s.need v) ≡ Granted gr.block gr.size gr.fresh gr.given_up) (sym c.self.view_is) c.requires.granted in
    let i : IsGranted parts_ s w.told t (s.need v) gr.block gr.size gr.fresh gr.given_up =
    record { run = c.self.invariant.run; holds = c.self.invariant.holds; granted = given } in
    let l : LendsAt parts_ w.told t a b =
    lends-at parts_ w.told t a b ((look_laws parts_).queued s w.told t v a c.self.invariant.run c.self.invariant.holds c.next_queued-name.ensures.next)
    (subst (λ (x : Coursed). Tells x.told a b) c.next_queued-name.ensures.same c.block-block.ensures) in
    let beside : LendsBeside parts_ s w.told t v (s.need v) gr.block gr.size gr.fresh gr.given_up a b =
    record { granted = i; next = c.next_queued-name.ensures.next; lends = l } in
    let input = c.in-Ok.input in
    let named : name_of input ≡ a = lent-name parts_ w.told t a b (name_of input) (parts_ input) l c.in-Ok.ensures.part in
    let part : IsPartOf (kept_at t b) a (parts_ input) = subst (λ (x : FrameName). IsPartOf (kept_at t b) x (parts_ input)) named c.in-Ok.ensures.part in
    let T = c.take_block.new.table in
    let blank = c.in-Ok-storage_for.field-0.blank in
    let x = c.in-Ok-storage_for.field-0.regrown in
    let place : T ≡ with_storage gr.block gr.fresh (lent_out t b) =
    c.in_default-take_block.ensures.kept ∙ c.in-Ok-storage_for.ensures.place ∙ ap (λ (u : List Kept). with_storage gr.block gr.fresh u) c.in-Ok.ensures.rest in
    let refused = c.in_default-take_block.ensures.refused in
    let back : BackTo parts_ s w.told t T b =
    fresh-back parts_ (grant_laws parts_) s w.told t T v (s.need v) gr.block gr.size gr.fresh gr.given_up a b beside refused.1 place in
    let again = back-again parts_ (look_laws parts_) s w.told t T a b (parts_ input) l part back in
    board-same parts_ s w c.take_block.new.self t c.give_back-in_default-take_block.new.self c.self.invariant (refused.0 ∙ c.next_queued-name.ensures.same)
    (subst (λ (u : List Kept). HoldsBlocks parts_ s w.told u) (sym c.give_back-in_default-take_block.ensures) again.2)

pub invariant_of-self-in-Ok-take_block : goal.invariant_of-self-in-Ok-take_block
invariant_of-self-in-Ok-take_block g c =
    let name_of = g.F.Named.name_of in
    let parts_ = g.F.Held.parts in
    let bytes = g.F.Held.bytes_of in
    let O = g.row.F-Of.Denot in
    let s = run_setting g.F.Of.Run.graph g.F.Of.Run.stack in
    let w = c.self.inside.course in
    let t = c.self.inside.table in
    let r = c.args.role in
    let v = c.args.node in
    let gr = c.args.grant in
    let a = c.next_queued-name.result in
    let b = c.block-block.result in
    let w0 = c.next_queued-name.new.self in
    let allowed : take_refusal {F = g.row.F.Denot} {B = g.row.F-Blank.Denot} {O = g.row.F-Of.Denot} s r v (past w.told) ≡ None =
    subst (λ (x : BoardState). take_refusal {F = g.row.F.Denot} {B = g.row.F-Blank.Denot} {O = g.row.F-Of.Denot} s r v (past x) ≡ None) (sym c.self.view_is)
    c.requires.allowed in
    let given : grant s (past w.told) (s.need v) ≡ Granted gr.block gr.size gr.fresh gr.given_up =
    subst (λ (x : BoardState). grant s (past x) (s.need v) ≡ Granted gr.block gr.size gr.fresh gr.given_up) (sym c.self.view_is) c.requires.granted in
    let i : IsGranted parts_ s w.told t (s.need v) gr.block gr.size gr.fresh gr.given_up =
    record { run = c.self.invariant.run; holds = c.self.invariant.holds; granted = given } in
    let l : LendsAt parts_ w.told t a b =
    lends-at parts_ w.told t a b ((look_laws parts_).queued s w.told t v a c.self.invariant.run c.self.invariant.holds c.next_queued-name.ensures.next)
    (subst (λ (x : Coursed). Tells x.told a b) c.next_queued-name.ensures.same c.block-block.ensures) in
    let beside : LendsBeside parts_ s w.told t v (s.need v) gr.block gr.size gr.fresh gr.given_up a b =
    record { granted = i; next = c.next_queued-name.ensures.next; lends = l } in
    let input = c.in-Ok.input in
    let named : name_of input ≡ a = lent-name parts_ w.told t a b (name_of input) (parts_ input) l c.in-Ok.ensures.part in
    let part : IsPartOf (kept_at t b) a (parts_ input) = subst (λ (x : FrameName). IsPartOf (kept_at t b) x (parts_ input)) named c.in-Ok.ensures.part in
    let T = c.storage_for.new.table in
    let blank = c.in-Ok-storage_for.field-0.blank in
    let x = c.in-Ok-storage_for.field-0.regrown in
    let place : T ≡ with_storage gr.block gr.fresh (lent_out t b) =
    c.in-Ok-storage_for.ensures.place ∙ ap (λ (u : List Kept). with_storage gr.block gr.fresh u) c.in-Ok.ensures.rest in
    let next : is_next (name_of input) (queued v (past w.told)) ≡ true =
    subst (λ (y : FrameName). is_next y (queued v (past w.told)) ≡ true) (sym named) c.next_queued-name.ensures.next in
    let ls : LendsAt parts_ w.told t (name_of input) b = subst (λ (y : FrameName). LendsAt parts_ w.told t y b) (sym named) l in
    let m : Makes O name_of parts_ bytes s w t r v b gr.block gr.size gr.fresh gr.given_up x input blank =
    record {
      board = c.self.invariant;
      role = c.requires.role;
      allowed = allowed;
      makes = c.requires.makes;
      granted = given;
      size = c.in-Ok-storage_for.ensures.size;
      remade = subst (λ (u : List Kept). IsRemade gr.size gr.block gr.fresh u x) c.in-Ok.ensures.rest c.in-Ok-storage_for.ensures.regrown;
      next = next;
      lends = ls;
      part = c.in-Ok.ensures.part;
    } in
    let told : c.take_block.new.self ≡ record w { told = made name_of parts_ s r v gr.block gr.size gr.fresh gr.given_up x input w.told } =
    c.in-Ok-take_block.ensures.taken
    ∙ ap (λ (y : Coursed). record y { told = made name_of parts_ s r v gr.block gr.size gr.fresh gr.given_up x input y.told })
    c.next_queued-name.ensures.same in
    made-board O name_of parts_ bytes (look_laws parts_)
    (grant_laws parts_) s w c.take_block.new.self t c.take_block.new.table r v b gr.block gr.size gr.fresh gr.given_up x input blank m told
    (c.in-Ok-take_block.ensures.given
    ∙ ap (λ (y : Coursed). without_kept (given_up_for s (past y.told) gr.fresh gr.given_up) T) c.next_queued-name.ensures.same
    ∙ ap (λ (u : List Kept). without_kept (given_up_for s (past w.told) gr.fresh gr.given_up) u) place)

pub returns-clause-gives : goal.returns-clause-gives
returns-clause-gives g c =
    let name_of = g.F.Named.name_of in
    let parts_ = g.F.Held.parts in
    let bytes = g.F.Held.bytes_of in
    let O = g.row.F-Of.Denot in
    let s = run_setting g.F.Of.Run.graph g.F.Of.Run.stack in
    let w = c.self.inside.course in
    let t = c.self.inside.table in
    let r = c.args.role in
    let v = c.args.node in
    let gr = c.args.grant in
    let a = c.next_queued-name.result in
    let b = c.block-block.result in
    let w0 = c.next_queued-name.new.self in
    let allowed : take_refusal {F = g.row.F.Denot} {B = g.row.F-Blank.Denot} {O = g.row.F-Of.Denot} s r v (past w.told) ≡ None =
    subst (λ (x : BoardState). take_refusal {F = g.row.F.Denot} {B = g.row.F-Blank.Denot} {O = g.row.F-Of.Denot} s r v (past x) ≡ None) (sym c.self.view_is)
    c.requires.allowed in
    let given : grant s (past w.told) (s.need v) ≡ Granted gr.block gr.size gr.fresh gr.given_up =
    subst (λ (x : BoardState). grant s (past x) (s.need v) ≡ Granted gr.block gr.size gr.fresh gr.given_up) (sym c.self.view_is) c.requires.granted in
    let i : IsGranted parts_ s w.told t (s.need v) gr.block gr.size gr.fresh gr.given_up =
    record { run = c.self.invariant.run; holds = c.self.invariant.holds; granted = given } in
    let l : LendsAt parts_ w.told t a b =
    lends-at parts_ w.told t a b ((look_laws parts_).queued s w.told t v a c.self.invariant.run c.self.invariant.holds c.next_queued-name.ensures.next)
    (subst (λ (x : Coursed). Tells x.told a b) c.next_queued-name.ensures.same c.block-block.ensures) in
    let beside : LendsBeside parts_ s w.told t v (s.need v) gr.block gr.size gr.fresh gr.given_up a b =
    record { granted = i; next = c.next_queued-name.ensures.next; lends = l } in
    let input = c.in-Ok.input in
    let named : name_of input ≡ a = lent-name parts_ w.told t a b (name_of input) (parts_ input) l c.in-Ok.ensures.part in
    let part : IsPartOf (kept_at t b) a (parts_ input) = subst (λ (x : FrameName). IsPartOf (kept_at t b) x (parts_ input)) named c.in-Ok.ensures.part in
    let T = c.storage_for.new.table in
    let blank = c.in-Ok-storage_for.field-0.blank in
    let x = c.in-Ok-storage_for.field-0.regrown in
    let place : T ≡ with_storage gr.block gr.fresh (lent_out t b) =
    c.in-Ok-storage_for.ensures.place ∙ ap (λ (u : List Kept). with_storage gr.block gr.fresh u) c.in-Ok.ensures.rest in
    let next : is_next (name_of input) (queued v (past w.told)) ≡ true =
    subst (λ (y : FrameName). is_next y (queued v (past w.told)) ≡ true) (sym named) c.next_queued-name.ensures.next in
    let ls : LendsAt parts_ w.told t (name_of input) b = subst (λ (y : FrameName). LendsAt parts_ w.told t y b) (sym named) l in
    let m : Makes O name_of parts_ bytes s w t r v b gr.block gr.size gr.fresh gr.given_up x input blank =
    record {
      board = c.self.invariant;
      role = c.requires.role;
      allowed = allowed;
      makes = c.requires.makes;
      granted = given;
      size = c.in-Ok-storage_for.ensures.size;
      remade = subst (λ (u : List Kept). IsRemade gr.size gr.block gr.fresh u x) c.in-Ok.ensures.rest c.in-Ok-storage_for.ensures.regrown;
      next = next;
      lends = ls;
      part = c.in-Ok.ensures.part;
    } in
    let told : c.take_block.new.self ≡ record w { told = made name_of parts_ s r v gr.block gr.size gr.fresh gr.given_up x input w.told } =
    c.in-Ok-take_block.ensures.taken
    ∙ ap (λ (y : Coursed). record y { told = made name_of parts_ s r v gr.block gr.size gr.fresh gr.given_up x input y.told })
    c.next_queued-name.ensures.same in
    subst (λ (y : BoardState). TakeGives {F = g.row.F.Denot} {B = g.row.F-Blank.Denot} {O = g.row.F-Of.Denot} name_of parts_ bytes s y r v
    (take.Job v input (Some blank)) c.take_block.new.self.told) c.self.view_is
    (made-gives O name_of parts_ bytes (look_laws parts_)
    (grant_laws parts_) s w t r v b gr.block gr.size gr.fresh gr.given_up x input blank c.take_block.new.self.told m (ap (λ (y : Coursed). y.told) told))

pub returns-clause-lent : goal.returns-clause-lent
returns-clause-lent g c =
    let name_of = g.F.Named.name_of in
    let parts_ = g.F.Held.parts in
    let bytes = g.F.Held.bytes_of in
    let O = g.row.F-Of.Denot in
    let s = run_setting g.F.Of.Run.graph g.F.Of.Run.stack in
    let w = c.self.inside.course in
    let t = c.self.inside.table in
    let r = c.args.role in
    let v = c.args.node in
    let gr = c.args.grant in
    let a = c.next_queued-name.result in
    let b = c.block-block.result in
    let w0 = c.next_queued-name.new.self in
    let allowed : take_refusal {F = g.row.F.Denot} {B = g.row.F-Blank.Denot} {O = g.row.F-Of.Denot} s r v (past w.told) ≡ None =
    subst (λ (x : BoardState). take_refusal {F = g.row.F.Denot} {B = g.row.F-Blank.Denot} {O = g.row.F-Of.Denot} s r v (past x) ≡ None) (sym c.self.view_is)
    c.requires.allowed in
    let given : grant s (past w.told) (s.need v) ≡ Granted gr.block gr.size gr.fresh gr.given_up =
    subst (λ (x : BoardState). grant s (past x) (s.need v) ≡ Granted gr.block gr.size gr.fresh gr.given_up) (sym c.self.view_is) c.requires.granted in
    let i : IsGranted parts_ s w.told t (s.need v) gr.block gr.size gr.fresh gr.given_up =
    record { run = c.self.invariant.run; holds = c.self.invariant.holds; granted = given } in
    let l : LendsAt parts_ w.told t a b =
    lends-at parts_ w.told t a b ((look_laws parts_).queued s w.told t v a c.self.invariant.run c.self.invariant.holds c.next_queued-name.ensures.next)
    (subst (λ (x : Coursed). Tells x.told a b) c.next_queued-name.ensures.same c.block-block.ensures) in
    let beside : LendsBeside parts_ s w.told t v (s.need v) gr.block gr.size gr.fresh gr.given_up a b =
    record { granted = i; next = c.next_queued-name.ensures.next; lends = l } in
    let input = c.in-Ok.input in
    let named : name_of input ≡ a = lent-name parts_ w.told t a b (name_of input) (parts_ input) l c.in-Ok.ensures.part in
    let part : IsPartOf (kept_at t b) a (parts_ input) = subst (λ (x : FrameName). IsPartOf (kept_at t b) x (parts_ input)) named c.in-Ok.ensures.part in
    let T = c.storage_for.new.table in
    let blank = c.in-Ok-storage_for.field-0.blank in
    let x = c.in-Ok-storage_for.field-0.regrown in
    let place : T ≡ with_storage gr.block gr.fresh (lent_out t b) =
    c.in-Ok-storage_for.ensures.place ∙ ap (λ (u : List Kept). with_storage gr.block gr.fresh u) c.in-Ok.ensures.rest in
    let next : is_next (name_of input) (queued v (past w.told)) ≡ true =
    subst (λ (y : FrameName). is_next y (queued v (past w.told)) ≡ true) (sym named) c.next_queued-name.ensures.next in
    let ls : LendsAt parts_ w.told t (name_of input) b = subst (λ (y : FrameName). LendsAt parts_ w.told t y b) (sym named) l in
    let m : Makes O name_of parts_ bytes s w t r v b gr.block gr.size gr.fresh gr.given_up x input blank =
    record {
      board = c.self.invariant;
      role = c.requires.role;
      allowed = allowed;
      makes = c.requires.makes;
      granted = given;
      size = c.in-Ok-storage_for.ensures.size;
      remade = subst (λ (u : List Kept). IsRemade gr.size gr.block gr.fresh u x) c.in-Ok.ensures.rest c.in-Ok-storage_for.ensures.regrown;
      next = next;
      lends = ls;
      part = c.in-Ok.ensures.part;
    } in
    let told : c.take_block.new.self ≡ record w { told = made name_of parts_ s r v gr.block gr.size gr.fresh gr.given_up x input w.told } =
    c.in-Ok-take_block.ensures.taken
    ∙ ap (λ (y : Coursed). record y { told = made name_of parts_ s r v gr.block gr.size gr.fresh gr.given_up x input y.told })
    c.next_queued-name.ensures.same in
    made-lends O name_of parts_ bytes (look_laws parts_) s w t r v b gr.block gr.size gr.fresh gr.given_up x input blank c.take_block.new.self.told m
    (ap (λ (y : Coursed). y.told) told)

pub returns-clause-reused : goal.returns-clause-reused
returns-clause-reused g c =
    let name_of = g.F.Named.name_of in
    let parts_ = g.F.Held.parts in
    let bytes = g.F.Held.bytes_of in
    let O = g.row.F-Of.Denot in
    let s = run_setting g.F.Of.Run.graph g.F.Of.Run.stack in
    let w = c.self.inside.course in
    let t = c.self.inside.table in
    let r = c.args.role in
    let v = c.args.node in
    let gr = c.args.grant in
    let a = c.next_queued-name.result in
    let b = c.block-block.result in
    let w0 = c.next_queued-name.new.self in
    let allowed : take_refusal {F = g.row.F.Denot} {B = g.row.F-Blank.Denot} {O = g.row.F-Of.Denot} s r v (past w.told) ≡ None =
    subst (λ (x : BoardState). take_refusal {F = g.row.F.Denot} {B = g.row.F-Blank.Denot} {O = g.row.F-Of.Denot} s r v (past x) ≡ None) (sym c.self.view_is)
    c.requires.allowed in
    let given : grant s (past w.told) (s.need v) ≡ Granted gr.block gr.size gr.fresh gr.given_up =
    subst (λ (x : BoardState). grant s (past x) (s.need v) ≡ Granted gr.block gr.size gr.fresh gr.given_up) (sym c.self.view_is) c.requires.granted in
    let i : IsGranted parts_ s w.told t (s.need v) gr.block gr.size gr.fresh gr.given_up =
    record { run = c.self.invariant.run; holds = c.self.invariant.holds; granted = given } in
    let l : LendsAt parts_ w.told t a b =
    lends-at parts_ w.told t a b ((look_laws parts_).queued s w.told t v a c.self.invariant.run c.self.invariant.holds c.next_queued-name.ensures.next)
    (subst (λ (x : Coursed). Tells x.told a b) c.next_queued-name.ensures.same c.block-block.ensures) in
    let beside : LendsBeside parts_ s w.told t v (s.need v) gr.block gr.size gr.fresh gr.given_up a b =
    record { granted = i; next = c.next_queued-name.ensures.next; lends = l } in
    let input = c.in-Ok.input in
    let named : name_of input ≡ a = lent-name parts_ w.told t a b (name_of input) (parts_ input) l c.in-Ok.ensures.part in
    let part : IsPartOf (kept_at t b) a (parts_ input) = subst (λ (x : FrameName). IsPartOf (kept_at t b) x (parts_ input)) named c.in-Ok.ensures.part in
    let T = c.storage_for.new.table in
    let blank = c.in-Ok-storage_for.field-0.blank in
    let x = c.in-Ok-storage_for.field-0.regrown in
    let place : T ≡ with_storage gr.block gr.fresh (lent_out t b) =
    c.in-Ok-storage_for.ensures.place ∙ ap (λ (u : List Kept). with_storage gr.block gr.fresh u) c.in-Ok.ensures.rest in
    let next : is_next (name_of input) (queued v (past w.told)) ≡ true =
    subst (λ (y : FrameName). is_next y (queued v (past w.told)) ≡ true) (sym named) c.next_queued-name.ensures.next in
    let ls : LendsAt parts_ w.told t (name_of input) b = subst (λ (y : FrameName). LendsAt parts_ w.told t y b) (sym named) l in
    let near : LendsBeside parts_ s w.told t v (s.need v) gr.block gr.size gr.fresh gr.given_up (name_of input) b =
    record { granted = i; next = next; lends = ls } in
    let same_ : IsSameStorage gr.block gr.fresh (lent_out t b) x (g.F.Held.is_used blank) =
    subst (λ (u : List Kept). IsSameStorage gr.block gr.fresh u x (g.F.Held.is_used blank)) c.in-Ok.ensures.rest c.in-Ok-storage_for.ensures.used in
    let told : c.take_block.new.self ≡ record w { told = made name_of parts_ s r v gr.block gr.size gr.fresh gr.given_up x input w.told } =
    c.in-Ok-take_block.ensures.taken
    ∙ ap (λ (y : Coursed). record y { told = made name_of parts_ s r v gr.block gr.size gr.fresh gr.given_up x input y.told })
    c.next_queued-name.ensures.same in
    subst (λ (y : BoardState). TakeReuses {F = g.row.F.Denot} {B = g.row.F-Blank.Denot} {O = g.row.F-Of.Denot} parts_ g.F.Held.is_used y r
    (take.Job v input (Some blank)) c.take_block.new.self.told) c.self.view_is
    (made-reuses O name_of parts_ g.F.Held.is_used (look_laws parts_)
    (grant_laws parts_) s w t r v b gr.block gr.size gr.fresh gr.given_up x input blank c.take_block.new.self.told near same_
    (ap (λ (y : Coursed). y.told) told))
