use Rattle.std.proofs.Common.{◌≡◌, ◌≤◌, ◌∙◌, Bool, sym, subst, true}
use Rattle.pool_ledger.specs.Grants.{has_number, sizes}
use Rattle.flow_journal.specs.Accounts.{known}
use Rattle.flow_journal.proofs.Limits.{limit_laws}
use Rattle.board_rules.specs.RunMeasures.{run_setting}
use Rattle.board_rules.specs.States.{BoardState, past}
use Rattle.board_rules.specs.LastGrants.{last_grant}
use Rattle.board_rules.specs.Storage.{is_away}
use Rattle.frame_table.specs.Kept.{kept_at}
use Rattle.flow_core.proofs.Boarding.{legal-of}
use Rattle.flow_core.specs.Boards.{TellsKept}
use Rattle.flow_core.proofs.Stored.{kept-known, kept-told}
use Rattle.flow_core.proofs.board.Board.keeps.Goals as goal

pub returns-clause-told : goal.returns-clause-told
returns-clause-told g c = λ tell is.
    let s = run_setting g.F.Of.Run.graph g.F.Of.Run.stack in
    let w = c.self.inside.course in
    let t = c.self.inside.table in
    let n = c.args.number in
    let here : has_number n (known s (past w.told)) ≡ true =
    subst (λ (b : BoardState). has_number n (known s (past b)) ≡ true) (sym c.self.view_is) is in
    let kept = kept-told g.F.Held.parts s w.told n (last_grant n (past w.told)) (kept_at t n) (c.self.invariant.holds.kept n here) tell in
    subst (λ (b : BoardState). TellsKept (is_away n b) (last_grant n (past b)) c.keeps.result) c.self.view_is
    (subst (λ (y : Bool). TellsKept (is_away n w.told) (last_grant n (past w.told)) y) (sym c.keeps.ensures) kept)

pub returns-clause-known : goal.returns-clause-known
returns-clause-known g c = λ kept.
    let s = run_setting g.F.Of.Run.graph g.F.Of.Run.stack in
    let w = c.self.inside.course in
    let t = c.self.inside.table in
    subst (λ (b : BoardState). has_number c.args.number (known s (past b)) ≡ true) c.self.view_is
    (kept-known g.F.Held.parts s w.told t c.args.number c.self.invariant.holds (sym c.keeps.ensures ∙ kept))

pub returns-clause-within : goal.returns-clause-within
returns-clause-within g c = λ some.
    let s = run_setting g.F.Of.Run.graph g.F.Of.Run.stack in
    let w = c.self.inside.course in
    subst (λ (b : BoardState). sizes (known s (past b)) ≤ s.limit) c.self.view_is
    (limit_laws.within s (past w.told) c.self.invariant.run.pooled some (legal-of s w.told c.self.invariant.run.history))
