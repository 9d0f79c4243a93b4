use Rattle.std.proofs.Common.{◌≡◌, ◌∙◌, true, sym, ap, subst}
use Rattle.nd_base.specs.declared.frame.FrameName.{FrameName}
use Rattle.board_rules.specs.RunMeasures.{run_setting}
use Rattle.board_rules.specs.States.{BoardState, past}
use Rattle.flow_journal.specs.Hands.{hand}
use Rattle.flow_core.proofs.Laws.{move_laws}
use Rattle.board_rules.specs.InHand.{is_load_of, granted_size, IsWholeOf}
use Rattle.kept_blocks.proofs.Looks.{look_laws}
use Rattle.flow_core.proofs.Handing.{issued-board, issued_after}
use Rattle.flow_core.proofs.calls.BoardBoardCalls.issue.Goals as goal

pub keep-requires : goal.keep-requires
keep-requires g c =
    let name_of = g.F.Named.name_of in
    let parts_ = g.F.Held.parts in
    let bytes = g.F.Held.bytes_of in
    let s = run_setting g.F.Of.Run.graph g.F.Of.Run.stack in
    let w = c.self.inside.course in
    let t = c.self.inside.table in
    ((look_laws parts_).in_making s w.told t c.args.role c.in-Some.block.number c.self.invariant.run c.self.invariant.holds c.in-Some.ensures.block).place

pub invariant_of-self : goal.invariant_of-self
invariant_of-self g c =
    let name_of = g.F.Named.name_of in
    let parts_ = g.F.Held.parts in
    let bytes = g.F.Held.bytes_of in
    let s = run_setting g.F.Of.Run.graph g.F.Of.Run.stack in
    let w = c.self.inside.course in
    let t = c.self.inside.table in
    let f = c.args.frame in
    let named : c.name-name.result ≡ name_of f = c.name-name.ensures in
    let loaded : is_load_of (name_of f) (hand c.args.role (past w.told)) ≡ true =
    subst (λ (a : FrameName). is_load_of a (hand c.args.role (past w.told)) ≡ true) named (sym c.is_load_of.ensures ∙ c.if-not-is_load_of.false) in
    let view : BoardState → Type 0 = λ b. IsWholeOf (granted_size (hand c.args.role (past b))) (parts_ f) in
    let loaded_now : is_load_of (name_of f) (hand c.args.role (past c.args.self.now)) ≡ true =
    ap (λ (b : BoardState). is_load_of (name_of f) (hand c.args.role (past b))) (sym c.self.view_is) ∙ loaded in
    let whole = subst view (sym c.self.view_is) (c.requires.whole loaded_now) in
    issued-board {O = Unit {0}} name_of parts_ bytes (move_laws (Unit {0}) name_of parts_ bytes) s w c.issue.new.course t c.keep.new.self c.args.role
    c.in-Some.block.number f c.self.invariant loaded c.in-Some.ensures.block whole
    (c.issue.ensures ∙ ap (λ (a : FrameName). issued_after s w c.args.role a) named) c.keep.ensures
