use Rattle.std.proofs.Common.{◌≡◌, ◌∙◌, Option, true, sym, ap, subst}
use Rattle.nd_base.specs.declared.frame.FrameName.{FrameName}
use Rattle.nd_base.specs.Parts.{Parts}
use Rattle.board_rules.specs.RunMeasures.{run_setting}
use Rattle.board_rules.specs.States.{BoardState, past, plain, lent_to}
use Rattle.board_rules.specs.Moving.{moved}
use Rattle.flow_journal.specs.Hands.{hand}
use Rattle.flow_journal.specs.declared.entry.Entry.TheVariants.{Saved}
use Rattle.board_rules.specs.InHand.{is_piece_on, hand_node}
use Rattle.frame_table.specs.Kept.{kept_at, MayGiveBack}
use Rattle.kept_blocks.proofs.Looks.{look_laws}
use Rattle.flow_core.proofs.Laws.{move_laws}
use Rattle.flow_core.proofs.Lent.{LentAt, lent-at}
use Rattle.flow_core.proofs.Handing.{piece-shares, saved-board}
use Rattle.flow_core.proofs.calls.BoardBoardCalls.saved.Goals as goal

pub give_back-requires-clause-place : goal.give_back-requires-clause-place
give_back-requires-clause-place g c =
    let parts_ = g.F.Held.parts in
    let s = run_setting g.F.Of.Run.graph g.F.Of.Run.stack in
    let w = c.self.inside.course in
    let t = c.self.inside.table in
    let a = c.name-name.result in
    let o = hand c.args.role (past w.told) in
    let piece : is_piece_on a o ≡ true = sym c.is_piece_on.ensures ∙ c.if-not-is_piece_on.false in
    let l = lent-at parts_ (look_laws parts_) s w t c.args.role a c.block-block.result c.self.invariant c.block-block.ensures (piece-shares a o piece) in
    l.place

pub give_back-requires-clause-frame : goal.give_back-requires-clause-frame
give_back-requires-clause-frame g c =
    let parts_ = g.F.Held.parts in
    let s = run_setting g.F.Of.Run.graph g.F.Of.Run.stack in
    let w = c.self.inside.course in
    let t = c.self.inside.table in
    let f = c.args.frame in
    let a = c.name-name.result in
    let o = hand c.args.role (past w.told) in
    let piece : is_piece_on a o ≡ true = sym c.is_piece_on.ensures ∙ c.if-not-is_piece_on.false in
    let l = lent-at parts_ (look_laws parts_) s w t c.args.role a c.block-block.result c.self.invariant c.block-block.ensures (piece-shares a o piece) in
    let mine : is_piece_on (g.F.Named.name_of f) (hand c.args.role (past c.args.self.now)) ≡ true =
    subst (λ (b : BoardState). is_piece_on (g.F.Named.name_of f) (hand c.args.role (past b)) ≡ true) c.self.view_is
    (subst (λ (x : FrameName). is_piece_on x o ≡ true) c.name-name.ensures piece) in
    let own : parts_ f ≡ lent_to c.args.role w.told =
    subst (λ (b : BoardState). parts_ f ≡ lent_to c.args.role b) (sym c.self.view_is) (c.requires.brings mine) in
    subst (λ (q : Option Parts). MayGiveBack (kept_at t c.block-block.result) q) (sym own) l.may

pub invariant_of-self : goal.invariant_of-self
invariant_of-self g c =
    let name_of = g.F.Named.name_of in
    let parts_ = g.F.Held.parts in
    let bytes = g.F.Held.bytes_of in
    let s = run_setting g.F.Of.Run.graph g.F.Of.Run.stack in
    let w = c.self.inside.course in
    let t = c.self.inside.table in
    let f = c.args.frame in
    let named = c.name-name.ensures in
    let o = hand c.args.role (past w.told) in
    let b = c.block-block.result in
    let piece : is_piece_on (name_of f) o ≡ true =
    subst (λ (x : FrameName). is_piece_on x o ≡ true) named (sym c.is_piece_on.ensures ∙ c.if-not-is_piece_on.false) in
    let mine : is_piece_on (name_of f) (hand c.args.role (past c.args.self.now)) ≡ true =
    subst (λ (x : BoardState). is_piece_on (name_of f) (hand c.args.role (past x)) ≡ true) c.self.view_is piece in
    let own : parts_ f ≡ lent_to c.args.role w.told =
    subst (λ (x : BoardState). parts_ f ≡ lent_to c.args.role x) (sym c.self.view_is) (c.requires.brings mine) in
    let l : LentAt c.args.role w.told t (name_of f) b =
    subst (λ (x : FrameName). LentAt c.args.role w.told t x b) named
    (lent-at parts_ (look_laws parts_) s w t c.args.role c.name-name.result b c.self.invariant c.block-block.ensures
    (piece-shares c.name-name.result o (sym c.is_piece_on.ensures ∙ c.if-not-is_piece_on.false))) in
    saved-board {O = Unit {0}} name_of parts_ bytes
    (move_laws (Unit {0}) name_of parts_ bytes) s w c.saved.new.course t c.give_back.new.self c.args.role b f c.self.invariant piece l.has own
    (c.saved.ensures ∙ ap (λ (x : FrameName). record w { told = moved s (plain (Saved c.args.role (hand_node o) x.maker x.index)) w.told }) named)
    c.give_back.ensures
