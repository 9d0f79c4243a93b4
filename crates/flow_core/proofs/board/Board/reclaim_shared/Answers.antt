use Rattle.std.proofs.Common.{◌≡◌, ◌∙◌, ℕ, true, false, List, None, sym, ap, subst}
use Rattle.std.specs.Option.{option_to_list}
use Rattle.flow_journal.specs.Hands.{hand}
use Rattle.board_rules.specs.RunMeasures.{run_setting}
use Rattle.board_rules.specs.States.{BoardState, past, loses}
use Rattle.board_rules.specs.Moving.{moved}
use Rattle.board_rules.specs.InHand.{has_part_of, has_grant}
use Rattle.board_rules.specs.Leaving.{reclaim_refusal, MayReclaim}
use Rattle.run_course.specs.Courses.{Coursed}
use Rattle.kept_blocks.specs.MoveLaws.{taken_back}
use Rattle.kept_blocks.proofs.Looks.{look_laws}
use Rattle.flow_core.specs.Boards.{IsBoard}
use Rattle.flow_core.proofs.Laws.{move_laws}
use Rattle.flow_core.proofs.Lent.{lent-at}
use Rattle.flow_core.proofs.Reclaims.{TakesBack, may-input, part-back, part-lost}
use Rattle.flow_core.proofs.board.Board.reclaim_shared.Goals as goal

pub keep_input-lost-requires-clause-place : goal.keep_input-lost-requires-clause-place
keep_input-lost-requires-clause-place g c =
    let name_of = g.F.Named.name_of in
    let parts_ = g.F.Held.parts in
    let bytes = g.F.Held.bytes_of in
    let s = run_setting g.F.Of.Run.graph g.F.Of.Run.stack in
    let w = c.self.inside.course in
    let t = c.self.inside.table in
    let r = c.args.role in
    let left = c.args.left in
    let board : IsBoard parts_ s w t = c.self.invariant in
    let back = sym c.self.view_is in
    let allowed : reclaim_refusal s r (past w.told) ≡ None = subst (λ (b : BoardState). reclaim_refusal s r (past b) ≡ None) back c.requires.allowed in
    let brings : MayReclaim name_of parts_ bytes s w.told r left =
    subst (λ (b : BoardState). MayReclaim name_of parts_ bytes s b r left) back c.requires.brings in
    let takes : TakesBack name_of parts_ bytes s w t r left = record { board = board; allowed = allowed; brings = brings } in
    let part : has_part_of c.args.name (hand r (past w.told)) ≡ true =
    subst (λ (b : BoardState). has_part_of c.args.name (hand r (past b)) ≡ true) back c.requires.part in
    let at = lent-at parts_ (look_laws parts_) s w t r c.args.name c.block-block.result board c.block-block.ensures part in
    at.place

pub keep_input-lost-requires-clause-may : goal.keep_input-lost-requires-clause-may
keep_input-lost-requires-clause-may g c =
    let name_of = g.F.Named.name_of in
    let parts_ = g.F.Held.parts in
    let bytes = g.F.Held.bytes_of in
    let s = run_setting g.F.Of.Run.graph g.F.Of.Run.stack in
    let w = c.self.inside.course in
    let t = c.self.inside.table in
    let r = c.args.role in
    let left = c.args.left in
    let board : IsBoard parts_ s w t = c.self.invariant in
    let back = sym c.self.view_is in
    let allowed : reclaim_refusal s r (past w.told) ≡ None = subst (λ (b : BoardState). reclaim_refusal s r (past b) ≡ None) back c.requires.allowed in
    let brings : MayReclaim name_of parts_ bytes s w.told r left =
    subst (λ (b : BoardState). MayReclaim name_of parts_ bytes s b r left) back c.requires.brings in
    let takes : TakesBack name_of parts_ bytes s w t r left = record { board = board; allowed = allowed; brings = brings } in
    let part : has_part_of c.args.name (hand r (past w.told)) ≡ true =
    subst (λ (b : BoardState). has_part_of c.args.name (hand r (past b)) ≡ true) back c.requires.part in
    let at = lent-at parts_ (look_laws parts_) s w t r c.args.name c.block-block.result board c.block-block.ensures part in
    may-input name_of parts_ bytes s w.told t r c.block-block.result c.args.name left part allowed brings at.may

pub invariant_of-self : goal.invariant_of-self
invariant_of-self g c =
    let name_of = g.F.Named.name_of in
    let parts_ = g.F.Held.parts in
    let bytes = g.F.Held.bytes_of in
    let s = run_setting g.F.Of.Run.graph g.F.Of.Run.stack in
    let w = c.self.inside.course in
    let t = c.self.inside.table in
    let r = c.args.role in
    let left = c.args.left in
    let board : IsBoard parts_ s w t = c.self.invariant in
    let back = sym c.self.view_is in
    let allowed : reclaim_refusal s r (past w.told) ≡ None = subst (λ (b : BoardState). reclaim_refusal s r (past b) ≡ None) back c.requires.allowed in
    let brings : MayReclaim name_of parts_ bytes s w.told r left =
    subst (λ (b : BoardState). MayReclaim name_of parts_ bytes s b r left) back c.requires.brings in
    let takes : TakesBack name_of parts_ bytes s w t r left = record { board = board; allowed = allowed; brings = brings } in
    let part : has_part_of c.args.name (hand r (past w.told)) ≡ true =
    subst (λ (b : BoardState). has_part_of c.args.name (hand r (past b)) ≡ true) back c.requires.part in
    let at = lent-at parts_ (look_laws parts_) s w t r c.args.name c.block-block.result board c.block-block.ensures part in
    let ungranted : has_grant (hand r (past w.told)) ≡ false = subst (λ (b : BoardState). has_grant (hand r (past b)) ≡ false) back c.requires.ungranted in
    let gone = c.new.ensures ∙ ap option_to_list c.keep_input-lost.ensures.lost in
    part-back name_of parts_ bytes (move_laws _ name_of parts_ bytes) s w c.reclaim.new.course t c.keep_input-lost.new.table r c.block-block.result c.args.name
    left c.new.result takes ungranted part at.has c.reclaim.ensures gone c.keep_input-lost.ensures.table

pub returns : goal.returns
returns g c =
    let name_of = g.F.Named.name_of in
    let parts_ = g.F.Held.parts in
    let bytes = g.F.Held.bytes_of in
    let s = run_setting g.F.Of.Run.graph g.F.Of.Run.stack in
    let w = c.self.inside.course in
    let t = c.self.inside.table in
    let r = c.args.role in
    let left = c.args.left in
    let board : IsBoard parts_ s w t = c.self.invariant in
    let back = sym c.self.view_is in
    let allowed : reclaim_refusal s r (past w.told) ≡ None = subst (λ (b : BoardState). reclaim_refusal s r (past b) ≡ None) back c.requires.allowed in
    let brings : MayReclaim name_of parts_ bytes s w.told r left =
    subst (λ (b : BoardState). MayReclaim name_of parts_ bytes s b r left) back c.requires.brings in
    let takes : TakesBack name_of parts_ bytes s w t r left = record { board = board; allowed = allowed; brings = brings } in
    let part : has_part_of c.args.name (hand r (past w.told)) ≡ true =
    subst (λ (b : BoardState). has_part_of c.args.name (hand r (past b)) ≡ true) back c.requires.part in
    let at = lent-at parts_ (look_laws parts_) s w t r c.args.name c.block-block.result board c.block-block.ensures part in
    let ungranted : has_grant (hand r (past w.told)) ≡ false = subst (λ (b : BoardState). has_grant (hand r (past b)) ≡ false) back c.requires.ungranted in
    let gone = c.new.ensures ∙ ap option_to_list c.keep_input-lost.ensures.lost in
    let lost = part-lost name_of w.told r c.block-block.result c.args.name left ungranted part at.has in
    ap (λ (x : Coursed). x.told) c.reclaim.ensures
    ∙ (ap (λ (xs : List ℕ). moved s (loses r xs) w.told) (gone ∙ lost) ∙ ap (λ (b : BoardState). taken_back name_of s r left b) c.self.view_is)
