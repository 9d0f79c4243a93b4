use Rattle.std.proofs.Common.{◌≡◌, ◌<◌, ◌∙◌, ◌∷◌, ◌++◌, ℕ, [], true, List, Option, None, length, sym, ap, subst}
use Rattle.std.specs.Prelude.{is_some, ◌||◌}
use Rattle.std.specs.Option.{option_to_list}
use Rattle.flow_journal.specs.Hands.{hand}
use Rattle.board_rules.specs.RunMeasures.{run_setting}
use Rattle.board_rules.specs.States.{BoardState, past, loses}
use Rattle.board_rules.specs.Moving.{moved}
use Rattle.board_rules.specs.InHand.{granted_block, has_part_of}
use Rattle.board_rules.specs.Leaving.{reclaim_refusal, MayReclaim}
use Rattle.frame_table.specs.Kept.{Kept}
use Rattle.run_course.specs.Courses.{Coursed}
use Rattle.kept_blocks.specs.MoveLaws.{taken_back, with_grant}
use Rattle.kept_blocks.proofs.Looks.{look_laws}
use Rattle.flow_core.specs.Boards.{IsBoard, lost_block}
use Rattle.flow_core.proofs.Laws.{move_laws}
use Rattle.flow_core.proofs.Lent.{lent-at}
use Rattle.flow_core.proofs.Reclaims.{TakesBack, may-input, input-length, making-back, making-lost}
use Rattle.flow_core.proofs.board.Board.reclaim_making.Goals as goal

pub keep_input-array-requires-clause-place : goal.keep_input-array-requires-clause-place
keep_input-array-requires-clause-place g c =
    let name_of = g.F.Named.name_of in
    let parts_ = g.F.Held.parts in
    let bytes = g.F.Held.bytes_of in
    let s = run_setting g.F.Of.Run.graph g.F.Of.Run.stack in
    let w = c.self.inside.course in
    let t = c.self.inside.table in
    let r = c.args.role in
    let left = c.args.left in
    let board : IsBoard parts_ s w t = c.self.invariant in
    let back = sym c.self.view_is in
    let allowed : reclaim_refusal s r (past w.told) ≡ None = subst (λ (b : BoardState). reclaim_refusal s r (past b) ≡ None) back c.requires.allowed in
    let brings : MayReclaim name_of parts_ bytes s w.told r left =
    subst (λ (b : BoardState). MayReclaim name_of parts_ bytes s b r left) back c.requires.brings in
    let takes : TakesBack name_of parts_ bytes s w t r left = record { board = board; allowed = allowed; brings = brings } in
    let part : has_part_of c.args.name (hand r (past w.told)) ≡ true =
    subst (λ (b : BoardState). has_part_of c.args.name (hand r (past b)) ≡ true) back c.requires.part in
    let at = lent-at parts_ (look_laws parts_) s w t r c.args.name c.block-block.result board c.block-block.ensures part in
    at.place

pub keep_input-array-requires-clause-may : goal.keep_input-array-requires-clause-may
keep_input-array-requires-clause-may g c =
    let name_of = g.F.Named.name_of in
    let parts_ = g.F.Held.parts in
    let bytes = g.F.Held.bytes_of in
    let s = run_setting g.F.Of.Run.graph g.F.Of.Run.stack in
    let w = c.self.inside.course in
    let t = c.self.inside.table in
    let r = c.args.role in
    let left = c.args.left in
    let board : IsBoard parts_ s w t = c.self.invariant in
    let back = sym c.self.view_is in
    let allowed : reclaim_refusal s r (past w.told) ≡ None = subst (λ (b : BoardState). reclaim_refusal s r (past b) ≡ None) back c.requires.allowed in
    let brings : MayReclaim name_of parts_ bytes s w.told r left =
    subst (λ (b : BoardState). MayReclaim name_of parts_ bytes s b r left) back c.requires.brings in
    let takes : TakesBack name_of parts_ bytes s w t r left = record { board = board; allowed = allowed; brings = brings } in
    let part : has_part_of c.args.name (hand r (past w.told)) ≡ true =
    subst (λ (b : BoardState). has_part_of c.args.name (hand r (past b)) ≡ true) back c.requires.part in
    let at = lent-at parts_ (look_laws parts_) s w t r c.args.name c.block-block.result board c.block-block.ensures part in
    may-input name_of parts_ bytes s w.told t r c.block-block.result c.args.name left part allowed brings at.may

pub keep_grant-lost-requires : goal.keep_grant-lost-requires
keep_grant-lost-requires g c =
    let name_of = g.F.Named.name_of in
    let parts_ = g.F.Held.parts in
    let bytes = g.F.Held.bytes_of in
    let s = run_setting g.F.Of.Run.graph g.F.Of.Run.stack in
    let w = c.self.inside.course in
    let t = c.self.inside.table in
    let r = c.args.role in
    let left = c.args.left in
    let board : IsBoard parts_ s w t = c.self.invariant in
    let back = sym c.self.view_is in
    let allowed : reclaim_refusal s r (past w.told) ≡ None = subst (λ (b : BoardState). reclaim_refusal s r (past b) ≡ None) back c.requires.allowed in
    let brings : MayReclaim name_of parts_ bytes s w.told r left =
    subst (λ (b : BoardState). MayReclaim name_of parts_ bytes s b r left) back c.requires.brings in
    let takes : TakesBack name_of parts_ bytes s w t r left = record { board = board; allowed = allowed; brings = brings } in
    let grant : granted_block (hand r (past w.told)) ≡ c.args.granted ∷ [] =
    subst (λ (b : BoardState). granted_block (hand r (past b)) ≡ c.args.granted ∷ []) back c.requires.granted in
    let place = ((look_laws parts_).in_making s w.told t r c.args.granted board.run board.holds grant).place in
    subst (λ n. c.args.granted < n)
    (sym (ap length c.keep_input-array.ensures.table ∙ input-length name_of parts_ c.args.name c.block-block.result left.input t)) place

pub invariant_of-self : goal.invariant_of-self
invariant_of-self g c =
    let name_of = g.F.Named.name_of in
    let parts_ = g.F.Held.parts in
    let bytes = g.F.Held.bytes_of in
    let s = run_setting g.F.Of.Run.graph g.F.Of.Run.stack in
    let w = c.self.inside.course in
    let t = c.self.inside.table in
    let r = c.args.role in
    let left = c.args.left in
    let board : IsBoard parts_ s w t = c.self.invariant in
    let back = sym c.self.view_is in
    let allowed : reclaim_refusal s r (past w.told) ≡ None = subst (λ (b : BoardState). reclaim_refusal s r (past b) ≡ None) back c.requires.allowed in
    let brings : MayReclaim name_of parts_ bytes s w.told r left =
    subst (λ (b : BoardState). MayReclaim name_of parts_ bytes s b r left) back c.requires.brings in
    let takes : TakesBack name_of parts_ bytes s w t r left = record { board = board; allowed = allowed; brings = brings } in
    let part : has_part_of c.args.name (hand r (past w.told)) ≡ true =
    subst (λ (b : BoardState). has_part_of c.args.name (hand r (past b)) ≡ true) back c.requires.part in
    let at = lent-at parts_ (look_laws parts_) s w t r c.args.name c.block-block.result board c.block-block.ensures part in
    let grant : granted_block (hand r (past w.told)) ≡ c.args.granted ∷ [] =
    subst (λ (b : BoardState). granted_block (hand r (past b)) ≡ c.args.granted ∷ []) back c.requires.granted in
    let gone =
    c.new.ensures
    ∙ (ap (λ (o : Option ℕ). option_to_list o ++ option_to_list c.keep_input-array.result) c.keep_grant-lost.ensures.lost ∙ ap (λ (o : Option ℕ).
    option_to_list (lost_block (is_some left.made || is_some left.blank) c.args.granted) ++ option_to_list o) c.keep_input-array.ensures.lost) in
    making-back name_of parts_ bytes g.F.Held.is_used (move_laws _ name_of parts_ bytes) s w c.reclaim.new.course t c.keep_grant-lost.new.table r c.args.granted
    c.block-block.result c.args.name left c.new.result takes grant part at.has c.reclaim.ensures gone
    (c.keep_grant-lost.ensures.table
    ∙ ap (λ (u : List Kept). with_grant name_of parts_ bytes g.F.Held.is_used c.args.granted left.made left.blank u) c.keep_input-array.ensures.table)

pub returns : goal.returns
returns g c =
    let name_of = g.F.Named.name_of in
    let parts_ = g.F.Held.parts in
    let bytes = g.F.Held.bytes_of in
    let s = run_setting g.F.Of.Run.graph g.F.Of.Run.stack in
    let w = c.self.inside.course in
    let t = c.self.inside.table in
    let r = c.args.role in
    let left = c.args.left in
    let board : IsBoard parts_ s w t = c.self.invariant in
    let back = sym c.self.view_is in
    let allowed : reclaim_refusal s r (past w.told) ≡ None = subst (λ (b : BoardState). reclaim_refusal s r (past b) ≡ None) back c.requires.allowed in
    let brings : MayReclaim name_of parts_ bytes s w.told r left =
    subst (λ (b : BoardState). MayReclaim name_of parts_ bytes s b r left) back c.requires.brings in
    let takes : TakesBack name_of parts_ bytes s w t r left = record { board = board; allowed = allowed; brings = brings } in
    let part : has_part_of c.args.name (hand r (past w.told)) ≡ true =
    subst (λ (b : BoardState). has_part_of c.args.name (hand r (past b)) ≡ true) back c.requires.part in
    let at = lent-at parts_ (look_laws parts_) s w t r c.args.name c.block-block.result board c.block-block.ensures part in
    let grant : granted_block (hand r (past w.told)) ≡ c.args.granted ∷ [] =
    subst (λ (b : BoardState). granted_block (hand r (past b)) ≡ c.args.granted ∷ []) back c.requires.granted in
    let gone =
    c.new.ensures
    ∙ (ap (λ (o : Option ℕ). option_to_list o ++ option_to_list c.keep_input-array.result) c.keep_grant-lost.ensures.lost ∙ ap (λ (o : Option ℕ).
    option_to_list (lost_block (is_some left.made || is_some left.blank) c.args.granted) ++ option_to_list o) c.keep_input-array.ensures.lost) in
    let lost = making-lost name_of w.told r c.args.granted c.block-block.result c.args.name left grant part at.has in
    ap (λ (x : Coursed). x.told) c.reclaim.ensures
    ∙ (ap (λ (xs : List ℕ). moved s (loses r xs) w.told) (gone ∙ lost) ∙ ap (λ (b : BoardState). taken_back name_of s r left b) c.self.view_is)
