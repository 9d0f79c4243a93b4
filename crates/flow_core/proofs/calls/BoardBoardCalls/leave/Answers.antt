use Rattle.std.proofs.Common.{◌∙◌, sym}
use Rattle.board_rules.specs.RunMeasures.{run_setting}
use Rattle.flow_core.proofs.Laws.{move_laws}
use Rattle.flow_core.proofs.Boarding.{leaves-board}
use Rattle.flow_core.proofs.calls.BoardBoardCalls.leave.Goals as goal

pub invariant_of-self : goal.invariant_of-self
invariant_of-self g c =
    let name_of = g.F.Named.name_of in
    let parts_ = g.F.Held.parts in
    let bytes = g.F.Held.bytes_of in
    let s = run_setting g.F.Of.Run.graph g.F.Of.Run.stack in
    let w = c.self.inside.course in
    let t = c.self.inside.table in
    leaves-board (Unit {0}) name_of parts_ bytes (move_laws (Unit {0}) name_of parts_ bytes) s w c.leave.new.self t c.args.role c.self.invariant c.requires.role
    (sym c.has_left.ensures ∙ c.if-not-has_left.true) c.leave.ensures
