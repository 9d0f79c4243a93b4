use Rattle.std.proofs.Common.{◌∙◌, sym}
use Rattle.board_rules.specs.RunMeasures.{run_setting}
use Rattle.flow_core.proofs.Laws.{move_laws}
use Rattle.flow_core.proofs.Boarding.{settles-board}
use Rattle.flow_core.proofs.calls.BoardBoardCalls.settle.Goals as goal

pub invariant_of-self : goal.invariant_of-self
invariant_of-self g c =
    let name_of = g.F.Named.name_of in
    let parts_ = g.F.Held.parts in
    let bytes = g.F.Held.bytes_of in
    let s = run_setting g.F.Of.Run.graph g.F.Of.Run.stack in
    let w = c.self.inside.course in
    let t = c.self.inside.table in
    settles-board (Unit {0}) name_of parts_ bytes
    (move_laws (Unit {0}) name_of parts_ bytes) s w c.settle.new.course t c.args.role c.args.node c.self.invariant c.requires.role c.requires.node
    (sym c.waits_to_settle.ensures ∙ c.if-waits_to_settle.false) (sym c.is_settled.ensures ∙ c.if-not-is_settled.true) c.settle.ensures
