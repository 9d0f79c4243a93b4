use Rattle.std.proofs.Common.{◌∙◌, sym}
use Rattle.board_rules.specs.RunMeasures.{run_setting}
use Rattle.flow_core.proofs.Laws.{move_laws}
use Rattle.flow_core.proofs.Boarding.{closes-board}
use Rattle.flow_core.proofs.calls.BoardBoardCalls.close.Goals as goal

pub invariant_of-self : goal.invariant_of-self
invariant_of-self g c =
    let name_of = g.F.Named.name_of in
    let parts_ = g.F.Held.parts in
    let bytes = g.F.Held.bytes_of in
    let s = run_setting g.F.Of.Run.graph g.F.Of.Run.stack in
    let w = c.self.inside.course in
    let t = c.self.inside.table in
    closes-board (Unit {0}) name_of parts_ bytes (move_laws (Unit {0}) name_of parts_ bytes) s w c.close.new.self t c.args.role c.self.invariant c.requires.role
    (sym c.waits_to_close.ensures ∙ c.if-waits_to_close.false) (sym c.is_closed.ensures ∙ c.if-not-is_closed.true) c.close.ensures
