-- The steps of a block: it is frozen and thawed, and a part of it is read and borrowed. Assumes `Logic`.
use Rattle.std.proofs.Common.{ℕ, ◌^◌, [], ◌∷◌}
use seplogic.Ra.Ura.{Ura}
use mir.Syntax.{Ty}
use base.Fml.{Lft, GName, Share, Incl, Incl-trans, Fml, ftrue, fsep, fseps, fex, fwand, fupd, fdead, fbor, flft, finv}
use base.Fraction.{full_share}
use base.Logic.{SProp, ent, sep, wand, upd, upd_i, id⊢, via, guard, guard_i}
use contract.BorrowLft.{meet_⊑_left, meet_⊑_right}
use contract.Monad.{fact_use}
use denote.Moves.{moves_from}
use denote.RattleType.{RattleType}
use denote.RawPtr.{Ptr, InBlock}
use denote.Sharing.{ShrLaws, beside, one, held}
use denote.SharingLaws.{contraction, beside_shr_laws, one_shr_laws, held_shr_laws}
use denote.Steps.{nothing}
use denote.Struct.Lending.{Lends, in_block_says}
use types.Kit.{‵, raw, ◌⊛◌, some, later, ◌$◌, ◌∵◌, !, qed, by, move, keep, split, split3, join, group, fsplit, fsplit3, fjoin, fpick, fpack, pick, assume}
use types.Kit.{suffices, await, updating, now, use0, use1, use2, done}
use types.Logic.{Logic, sem}
use types.Owned.{own_new, basic}
use types.Tokens.{lft_new, lft_end, bor_new, lent_back, bor_open, obor_alter, bor_fracture}
use Rattle.core.proofs.cell.Borrows.{by_one}
use Rattle.shared_parts.specs.Ownership.{named, name_share, block_share, IsParts, parts, State, lent, given_back, home, kept, part_owns}
use Rattle.shared_parts.proofs.Shares.{all_parts, parts_of, parts_whole, none_beside}

-- what a `&` to a part holds, where t is what a `&` to its value does
abbrev pub Shown : ℕ → (Lft → Fml) → Lft → Fml
Shown a t = beside (one (λ e. flft (a ∷ []) e)) (held (a ∷ []) t)

pub shown_laws : (a : ℕ) (t : Lft → Fml) → ShrLaws t → ShrLaws (Shown a t)
shown_laws a t L = beside_shr_laws (one (λ e. flft (a ∷ []) e)) (held (a ∷ []) t) (one_shr_laws (λ e. flft (a ∷ []) e)) (held_shr_laws (a ∷ []) t L)

module _ {M : Type 1} {𝓤 : Ura M} (𝓛 : Logic 𝓤) where
  open 𝓛 use {H, A}

  abbrev ◌⊢◌ : SProp 𝓤 → SProp 𝓤 → Type 1
  P ⊢ Q = ent 𝓤 P Q

  abbrev ◌∗◌ : SProp 𝓤 → SProp 𝓤 → SProp 𝓤
  P ∗ Q = sep 𝓤 P Q

  abbrev ⟦◌⟧ : Fml → SProp 𝓤
  ⟦ P ⟧ = sem 𝓛 P

  infix 26 ◌⊢◌
  infixr 35 ◌∗◌
  module _ (P frees : Fml) where
    -- all parts of a new block, whose value is shown by t
    abbrev pub all_of : (Lft → Fml) → GName × ℕ → Fml
    all_of t n = fsep (parts n.0 n.1 (2 ^ 32)) (fsep (t (n.1 ∷ [])) (finv (kept P frees n.0 n.1)))

    pub freezes : (t : Lft → Fml) (l μ : Lft) (q : Share) → Lends 𝓛 P t l → Incl μ l
        → ⟦ P ⟧ ∗ (⟦ frees ⟧ ∗ A.lft μ q) ⊢ H.⇛ (⟦ fex (GName × ℕ) (all_of t) ⟧ ∗ A.lft μ q)
    freezes t l μ q lends inc = qed 𝓛 (‵ P ∷ ‵ frees ∷ ‵ (flft μ q) ∷ []) ∵ updating ! $ lft_new ! tt (λ a. let α : Lft = a ∷ [] in
        move ! (1 ∷ []) $ bor_new ! tt α $ move ! (2 ∷ 4 ∷ []) $ join ! $ move ! (1 ∷ 0 ∷ []) $
        use2 𝓛 (later (‵ (t α) ⊛ ‵ (flft α full_share) ⊛ ‵ (flft μ q)))
        (lends α ((α, full_share) ∷ (μ, q) ∷ []) (Incl-trans (meet_⊑_right α μ) inc) (meet_⊑_left α μ)) $ await ! tt $ split3 ! $
        use0 𝓛 (later (some (λ (γ : GName). ‵ (name_share γ a full_share)))) (via 𝓤 _ (own_new 𝓛 named (full_share, a)) (basic 𝓛 _)) $
        await ! tt $ pick ! (λ γ.
        -- [the name; the value, shown; the token; the caller's token; what the lender keeps; the right to free]
        move ! (2 ∷ 0 ∷ []) $ fjoin ! $ use1 𝓛 (‵ (parts γ a (2 ^ 32))) (parts_of 𝓛 γ a (2 ^ 32) full_share all_parts) $
        move ! (3 ∷ 4 ∷ []) $ fjoin ! $ fpack ! State (home P frees γ a) lent $
        use1 𝓛 (later (‵ (finv (kept P frees γ a)))) (𝓛.invs.inv_new (kept P frees γ a)) $ await ! tt $
        move ! (2 ∷ 0 ∷ []) $ fjoin ! $ move ! (1 ∷ 0 ∷ []) $ fjoin ! $ fpack ! (GName × ℕ) (all_of t) (γ, a) $ now ! $ done !))

    module _ (γ : GName) (a : ℕ) where
      abbrev Home : Fml
      Home = home P frees γ a lent

      abbrev Kept : Fml
      Kept = kept P frees γ a

      -- the whole name goes in, and what was there comes out
      swaps : (s : State) → ⟦ home P frees γ a s ⟧ ∗ ⟦ name_share γ a full_share ⟧ ⊢ ⟦ Kept ⟧ ∗ ⟦ Home ⟧
      swaps lent = qed 𝓛 (‵ Home ∷ ‵ (name_share γ a full_share) ∷ []) ∵
          move ! (1 ∷ []) $ fpack ! State (home P frees γ a) given_back $ done !
      swaps given_back = none_beside 𝓛 γ a a full_share _

      pub thaws : ⟦ parts γ a (2 ^ 32) ⟧ ∗ ⟦ finv Kept ⟧ ⊢ H.⇛ (⟦ P ⟧ ∗ ⟦ frees ⟧)
      thaws = qed 𝓛 (‵ (parts γ a (2 ^ 32)) ∷ ‵ (finv Kept) ∷ []) ∵ updating ! $
          use1 𝓛 (‵ (block_share γ a full_share)) (parts_whole 𝓛 γ a) $ fsplit ! $ move ! (1 ∷ []) $
          use1 𝓛 (raw (wand 𝓤 ⟦ Kept ⟧ (upd 𝓤 (⟦ Kept ⟧ ∗ ⟦ Home ⟧))))
          (qed 𝓛 (‵ (name_share γ a full_share) ∷ []) ∵ assume ! (‵ Kept) $ suffices ! _ (upd_i 𝓤 _) $ fpick ! (λ s. by ! (swaps s))) $
          move ! (2 ∷ 0 ∷ []) $ use2 𝓛 (later (‵ Home)) (𝓛.invs.inv_acc Kept ⟦ Home ⟧) $ await ! tt $
          fsplit ! $ move ! (2 ∷ []) $ lft_end ! tt $ lent_back ! tt $ now ! $ done !

  module _ (γ : GName) (a k : ℕ) (I : Fml) (t : Lft → Fml) (L : ShrLaws t) where
    abbrev α : Lft
    α = a ∷ []

    abbrev Owned : Fml
    Owned = fsep (parts γ a k) (fsep (t α) (finv I))

    -- what a borrowed part gives up for its lifetime is its share of the token alone
    returns : (κ : Lft) (e : Share) → IsParts k e
        → ⟦ name_share γ a e ⟧ ∗ (⟦ t α ⟧ ∗ ⟦ finv I ⟧) ⊢ ⟦ fwand (fsep (fdead κ) (fseps (flft α e ∷ []))) (fupd Owned) ⟧
    unfolding fseps
    returns κ e is = qed 𝓛 (‵ (name_share γ a e) ∷ ‵ (t α) ∷ ‵ (finv I) ∷ []) ∵ assume ! (‵ (fsep (fdead κ) (fsep (flft α e) ftrue))) $
        suffices ! ⟦ Owned ⟧ (upd_i 𝓤 ⟦ Owned ⟧) $ fsplit3 ! $ keep ! (1 ∷ 3 ∷ 4 ∷ 5 ∷ []) $ fjoin ! $
        use1 𝓛 (‵ (parts γ a k)) (parts_of 𝓛 γ a k e is) $ done !

    shows_by : (κ : Lft) (q : Share) → A.bor κ Owned ∗ A.lft κ q ⊢ H.⇛ (⟦ Shown a t κ ⟧ ∗ A.lft κ q)
    unfolding fseps
    shows_by κ q = qed 𝓛 (‵ (fbor κ Owned) ∷ ‵ (flft κ q) ∷ []) ∵ updating ! $ bor_open ! tt $ move ! (1 ∷ []) $ fsplit3 ! $
        fpick ! (λ e. fpick ! (λ is. fsplit ! $ move ! (2 ∷ []) $ use1 𝓛 (‵ (t α) ⊛ ‵ (t α)) (contraction 𝓛 t L α) $ split ! $
        -- [the value, shown, twice; the token; the name; the invariant; the open borrow]
        move ! (3 ∷ 1 ∷ 4 ∷ []) $ group ! 3 $
        use1 𝓛 (‵ (fwand (fsep (fdead κ) (fseps (flft α e ∷ []))) (fupd Owned))) (returns κ e is) $
        nothing ! $ move ! (3 ∷ 0 ∷ []) $ fjoin ! $ move ! (3 ∷ 0 ∷ 1 ∷ []) $ obor_alter ! tt (flft α e ∷ []) $
        use1 𝓛 (‵ (fbor κ (flft α e)) ⊛ ‵ ftrue) (id⊢ 𝓤 _) $ split ! $ bor_fracture ! tt (λ r. flft α r) e $
        move ! (0 ∷ 3 ∷ []) $ fjoin ! $ now ! $ keep ! (0 ∷ 2 ∷ []) $ done !))

    pub lends_part : (l : Lft) → Lends 𝓛 Owned (Shown a t) l
    lends_part l κ ts inc sp = by_one 𝓛 κ ts sp (A.bor κ Owned) ⟦ Shown a t κ ⟧ (shows_by κ)

  -- the value, for as long as the part is borrowed
  pub sees : (a : ℕ) (t : Lft → Fml) → ShrLaws t → (κ : Lft) → ⟦ Shown a t κ ⟧ ⊢ ⟦ t κ ⟧
  sees a t L κ = qed 𝓛 (‵ (Shown a t κ) ∷ []) ∵ fsplit ! $ by ! (moves_from 𝓛 t L κ (a ∷ []) (a ∷ []) (meet_⊑_left (a ∷ []) κ))

  pub lies : (frees : Ty → Ptr → Fml) (R : RattleType) (p : Ptr) (x : R.Denot) (γ : GName) (a k : ℕ)
      → ⟦ part_owns frees R p x γ a k ⟧ ⊢ guard 𝓤 (InBlock p) ⟦ part_owns frees R p x γ a k ⟧
  lies frees R p x γ a k = let Whole : SProp 𝓤 = ⟦ part_owns frees R p x γ a k ⟧ in fact_use 𝓤 _
      (qed 𝓛 (‵ (part_owns frees R p x γ a k) ∷ []) ∵ fsplit3 ! $ move ! (1 ∷ []) $ fsplit ! $ keep ! (0 ∷ []) $ by ! (in_block_says 𝓛 p))
      (guard_i 𝓤 (InBlock p) Whole)
