use Rattle.std.proofs.Common.{◌≡◌, ◌∙◌, ◌∷◌, ◌++◌, ℕ, [], false, List, Option, None, sym, ap, subst}
use Rattle.std.specs.Option.{option_to_list}
use Rattle.nd_base.specs.declared.frame.FrameName.{FrameName}
use Rattle.flow_journal.specs.Hands.{hand}
use Rattle.board_rules.specs.RunMeasures.{run_setting}
use Rattle.board_rules.specs.States.{BoardState, past, loses}
use Rattle.board_rules.specs.Moving.{moved}
use Rattle.board_rules.specs.InHand.{granted_block, has_part_of}
use Rattle.board_rules.specs.Leaving.{reclaim_refusal, MayReclaim}
use Rattle.run_course.specs.Courses.{Coursed}
use Rattle.kept_blocks.specs.MoveLaws.{taken_back}
use Rattle.kept_blocks.proofs.Looks.{look_laws}
use Rattle.flow_core.specs.Boards.{IsBoard}
use Rattle.flow_core.proofs.Laws.{move_laws}
use Rattle.flow_core.proofs.Reclaims.{TakesBack, load-back, load-lost}
use Rattle.flow_core.proofs.board.Board.reclaim_load.Goals as goal

pub keep_grant-lost-requires : goal.keep_grant-lost-requires
keep_grant-lost-requires g c =
    let name_of = g.F.Named.name_of in
    let parts_ = g.F.Held.parts in
    let bytes = g.F.Held.bytes_of in
    let s = run_setting g.F.Of.Run.graph g.F.Of.Run.stack in
    let w = c.self.inside.course in
    let t = c.self.inside.table in
    let r = c.args.role in
    let left = c.args.left in
    let board : IsBoard parts_ s w t = c.self.invariant in
    let back = sym c.self.view_is in
    let allowed : reclaim_refusal s r (past w.told) ≡ None = subst (λ (b : BoardState). reclaim_refusal s r (past b) ≡ None) back c.requires.allowed in
    let brings : MayReclaim name_of parts_ bytes s w.told r left =
    subst (λ (b : BoardState). MayReclaim name_of parts_ bytes s b r left) back c.requires.brings in
    let takes : TakesBack name_of parts_ bytes s w t r left = record { board = board; allowed = allowed; brings = brings } in
    let grant : granted_block (hand r (past w.told)) ≡ c.args.block ∷ [] =
    subst (λ (b : BoardState). granted_block (hand r (past b)) ≡ c.args.block ∷ []) back c.requires.granted in
    ((look_laws parts_).in_making s w.told t r c.args.block board.run board.holds grant).place

pub invariant_of-self : goal.invariant_of-self
invariant_of-self g c =
    let name_of = g.F.Named.name_of in
    let parts_ = g.F.Held.parts in
    let bytes = g.F.Held.bytes_of in
    let s = run_setting g.F.Of.Run.graph g.F.Of.Run.stack in
    let w = c.self.inside.course in
    let t = c.self.inside.table in
    let r = c.args.role in
    let left = c.args.left in
    let board : IsBoard parts_ s w t = c.self.invariant in
    let back = sym c.self.view_is in
    let allowed : reclaim_refusal s r (past w.told) ≡ None = subst (λ (b : BoardState). reclaim_refusal s r (past b) ≡ None) back c.requires.allowed in
    let brings : MayReclaim name_of parts_ bytes s w.told r left =
    subst (λ (b : BoardState). MayReclaim name_of parts_ bytes s b r left) back c.requires.brings in
    let takes : TakesBack name_of parts_ bytes s w t r left = record { board = board; allowed = allowed; brings = brings } in
    let grant : granted_block (hand r (past w.told)) ≡ c.args.block ∷ [] =
    subst (λ (b : BoardState). granted_block (hand r (past b)) ≡ c.args.block ∷ []) back c.requires.granted in
    let alone : (a : FrameName) → has_part_of a (hand r (past w.told)) ≡ false =
    λ a. subst (λ (b : BoardState). has_part_of a (hand r (past b)) ≡ false) back (c.requires.alone a) in
    let gone = c.new.ensures ∙ ap (λ (o : Option ℕ). option_to_list o ++ []) c.keep_grant-lost.ensures.lost in
    load-back name_of parts_ bytes g.F.Held.is_used
    (move_laws _ name_of parts_ bytes) s w c.reclaim.new.course t c.keep_grant-lost.new.table r c.args.block left c.new.result
    takes grant alone c.reclaim.ensures gone c.keep_grant-lost.ensures.table

pub returns : goal.returns
returns g c =
    let name_of = g.F.Named.name_of in
    let parts_ = g.F.Held.parts in
    let bytes = g.F.Held.bytes_of in
    let s = run_setting g.F.Of.Run.graph g.F.Of.Run.stack in
    let w = c.self.inside.course in
    let t = c.self.inside.table in
    let r = c.args.role in
    let left = c.args.left in
    let board : IsBoard parts_ s w t = c.self.invariant in
    let back = sym c.self.view_is in
    let allowed : reclaim_refusal s r (past w.told) ≡ None = subst (λ (b : BoardState). reclaim_refusal s r (past b) ≡ None) back c.requires.allowed in
    let brings : MayReclaim name_of parts_ bytes s w.told r left =
    subst (λ (b : BoardState). MayReclaim name_of parts_ bytes s b r left) back c.requires.brings in
    let takes : TakesBack name_of parts_ bytes s w t r left = record { board = board; allowed = allowed; brings = brings } in
    let grant : granted_block (hand r (past w.told)) ≡ c.args.block ∷ [] =
    subst (λ (b : BoardState). granted_block (hand r (past b)) ≡ c.args.block ∷ []) back c.requires.granted in
    let alone : (a : FrameName) → has_part_of a (hand r (past w.told)) ≡ false =
    λ a. subst (λ (b : BoardState). has_part_of a (hand r (past b)) ≡ false) back (c.requires.alone a) in
    let gone = c.new.ensures ∙ ap (λ (o : Option ℕ). option_to_list o ++ []) c.keep_grant-lost.ensures.lost in
    let lost = load-lost name_of w.told r c.args.block left grant alone in
    ap (λ (x : Coursed). x.told) c.reclaim.ensures
    ∙ (ap (λ (xs : List ℕ). moved s (loses r xs) w.told) (gone ∙ lost) ∙ ap (λ (b : BoardState). taken_back name_of s r left b) c.self.view_is)
