use Rattle.std.proofs.Common.{◌≡◌, None, sym, subst}
use Rattle.pool_ledger.specs.Grants.{Refused}
use Rattle.board_rules.specs.RunMeasures.{run_setting}
use Rattle.board_rules.specs.States.{BoardState, past}
use Rattle.board_rules.specs.Working.{take_refusal}
use Rattle.flow_journal.specs.Accounts.{grant}
use Rattle.flow_core.proofs.Laws.{move_laws}
use Rattle.flow_core.proofs.Takes.{dropped-board}
use Rattle.flow_core.proofs.board.Board.take_refused.Goals as goal

pub invariant_of-self : goal.invariant_of-self
invariant_of-self g c =
    let name_of = g.F.Named.name_of in
    let parts_ = g.F.Held.parts in
    let bytes = g.F.Held.bytes_of in
    let O = g.row.F-Of.Denot in
    let s = run_setting g.F.Of.Run.graph g.F.Of.Run.stack in
    let w = c.self.inside.course in
    let t = c.self.inside.table in
    let r = c.args.role in
    let v = c.args.node in
    let allowed : take_refusal {F = g.row.F.Denot} {B = g.row.F-Blank.Denot} {O = g.row.F-Of.Denot} s r v (past w.told) ≡ None =
    subst (λ (x : BoardState). take_refusal {F = g.row.F.Denot} {B = g.row.F-Blank.Denot} {O = g.row.F-Of.Denot} s r v (past x) ≡ None) (sym c.self.view_is)
    c.requires.allowed in
    let given : grant s (past w.told) (s.need v) ≡ Refused =
    subst (λ (x : BoardState). grant s (past x) (s.need v) ≡ Refused) (sym c.self.view_is) c.requires.refused in
    dropped-board O name_of parts_ bytes (move_laws O name_of parts_ bytes) s w c.drop_at_pool-index.new.course t r v c.drop_at_pool-index.result c.self.invariant
    c.requires.role allowed c.requires.makes given c.drop_at_pool-index.ensures.next c.drop_at_pool-index.ensures.told
