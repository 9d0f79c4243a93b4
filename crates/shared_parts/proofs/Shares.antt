-- The parts of a block are cut and joined, and two of one block are compared. Assumes `Logic`.
use Rattle.std.proofs.Common.{◌≡◌, ℕ, ◌+◌, ◌-◌, ◌^◌, ◌<◌, ◌≤◌, [], ◌∷◌, refl, sym, subst, arith}
use mathlib.Core.Logic.{dite}
use mathlib.Mathlib.Data.Part.{◌∈◌}
use native.Mathlib.Decide.{dec_le}
use seplogic.Ra.Ura.{Ura}
use seplogic.Ra.Constructions.Prod
use seplogic.Ra.Instances.Ag
use base.Fml.{GName, Share, Fml, fex, flft}
use base.Fraction.{full_share}
use base.FractionLaws.{counts_some, Counts-op, Counts-all, not-OpDef-full_share}
use base.Logic.{SProp, ent, sep, guard, guard_i}
use base.SetCodes.{coded, SetCoded-set}
use base.Share
use base.Stored.{coded_ℕ}
use types.Kit.{‵, ◌⊛◌, given, ◌$◌, ◌∵◌, !, qed, by, move, keep, split, fsplit, fjoin, fpick, fpack, learn, check, rewrite, use1, use2, done}
use types.Logic.{Logic, sem}
use types.Owned.{own_glued, own_sum, own_join}
use Rattle.shared_parts.specs.Ownership.{named, name_share, block_share, IsParts, parts}

-- a share of k parts
share_of : (k : ℕ) → 0 < k → k ≤ 2 ^ 32 → (e : Share) × IsParts k e
share_of k some few = let e = counts_some 32 k some few in (e.0, (some, few, e.1))

pub all_parts : IsParts (2 ^ 32) full_share
all_parts = (omega arith, omega arith, Counts-all 32)

module _ {M : Type 1} {𝓤 : Ura M} (𝓛 : Logic 𝓤) (γ : GName) where
  abbrev ◌⊢◌ : SProp 𝓤 → SProp 𝓤 → Type 1
  P ⊢ Q = ent 𝓤 P Q

  abbrev ◌∗◌ : SProp 𝓤 → SProp 𝓤 → SProp 𝓤
  P ∗ Q = sep 𝓤 P Q

  abbrev ⟦◌⟧ : Fml → SProp 𝓤
  ⟦ P ⟧ = sem 𝓛 P

  infix 26 ◌⊢◌
  infixr 35 ◌∗◌
  -- shares of the name that add up, of one lifetime
  named_sum : (a : ℕ) (r e f : Share) → r ∈ Share.op e f → ◌∈◌ {α = Share × ℕ} (r, a) (named.op (e, a) (f, a))
  named_sum a r e f m = let codes = SetCoded-set (coded coded_ℕ) in
      Prod.mk-mem-op Share.op (Ag.op codes) {a = e} {a' = f} {x = r} {b = a} {b' = a} {y = a} m (Ag.idem codes a)

  pub parts_of : (a k : ℕ) (e : Share) → IsParts k e → ⟦ block_share γ a e ⟧ ⊢ ⟦ parts γ a k ⟧
  parts_of a k e is = qed 𝓛 (‵ (block_share γ a e) ∷ []) ∵ fpack ! (IsParts k e) (λ _. block_share γ a e) is $
      fpack ! Share (λ s. fex (IsParts k s) (λ _. block_share γ a s)) e $ done !

  share_cut : (a : ℕ) (r e f : Share) → r ∈ Share.op e f → ⟦ block_share γ a r ⟧ ⊢ ⟦ block_share γ a e ⟧ ∗ ⟦ block_share γ a f ⟧
  share_cut a r e f m = qed 𝓛 (‵ (block_share γ a r) ∷ []) ∵ fsplit ! $
      use1 𝓛 (‵ (flft (a ∷ []) e) ⊛ ‵ (flft (a ∷ []) f)) (𝓛.lfts.lft_cut (a ∷ []) r e f m) $ split ! $ move ! (2 ∷ []) $
      use1 𝓛 (‵ (name_share γ a e) ⊛ ‵ (name_share γ a f)) (𝓛.algebras.own_cut named γ (e, a) (f, a) (r, a) (named_sum a r e f m)) $ split ! $
      move ! (2 ∷ 0 ∷ []) $ fjoin ! $ move ! (2 ∷ 1 ∷ []) $ fjoin ! $ move ! (1 ∷ 0 ∷ []) $ done !

  share_glue : (a : ℕ) (r e f : Share) → r ∈ Share.op e f → ⟦ block_share γ a e ⟧ ∗ ⟦ block_share γ a f ⟧ ⊢ ⟦ block_share γ a r ⟧
  share_glue a r e f m = qed 𝓛 (‵ (block_share γ a e) ∷ ‵ (block_share γ a f) ∷ []) ∵ fsplit ! $ move ! (2 ∷ []) $ fsplit ! $
      move ! (3 ∷ 1 ∷ []) $ use2 𝓛 (‵ (name_share γ a r)) (own_join 𝓛 named γ (e, a) (f, a) (r, a) (named_sum a r e f m)) $
      move ! (2 ∷ 1 ∷ []) $ use2 𝓛 (‵ (flft (a ∷ []) r)) (𝓛.lfts.lft_glue (a ∷ []) r e f m) $ fjoin ! $ done !

  pub parts_cut : (a k i j : ℕ) → 0 < i → 0 < j → i + j ≡ k → ⟦ parts γ a k ⟧ ⊢ ⟦ parts γ a i ⟧ ∗ ⟦ parts γ a j ⟧
  parts_cut a k i j some_i some_j sum = qed 𝓛 (‵ (parts γ a k) ∷ []) ∵ fpick ! (λ r. fpick ! (λ is.
      let few = is.1 in let e = share_of i some_i (omega arith) in let f = share_of j some_j (omega arith) in
      use1 𝓛 (‵ (block_share γ a e.0) ⊛ ‵ (block_share γ a f.0))
      (share_cut a r e.0 f.0 (Counts-op 32 e.0 f.0 r i j k e.1.2 f.1.2 is.2 sum)) $ split ! $
      use1 𝓛 (‵ (parts γ a i)) (parts_of a i e.0 e.1) $ move ! (1 ∷ []) $ use1 𝓛 (‵ (parts γ a j)) (parts_of a j f.0 f.1) $
      move ! (1 ∷ 0 ∷ []) $ done !))

  parts_glue : (a i j : ℕ) (r : Share) → IsParts (i + j) r → ⟦ parts γ a i ⟧ ∗ ⟦ parts γ a j ⟧ ⊢ ⟦ block_share γ a r ⟧
  parts_glue a i j r is = qed 𝓛 (‵ (parts γ a i) ∷ ‵ (parts γ a j) ∷ []) ∵
      fpick ! (λ e. fpick ! (λ ei. move ! (1 ∷ []) $ fpick ! (λ f. fpick ! (λ fj. move ! (1 ∷ []) $
      by ! (share_glue a r e f (Counts-op 32 e f r i j (i + j) ei.2 fj.2 is.2 refl))))))

  pub parts_whole : (a : ℕ) → ⟦ parts γ a (2 ^ 32) ⟧ ⊢ ⟦ block_share γ a full_share ⟧
  parts_whole a = let rest : ℕ = 2 ^ 32 - 1 in qed 𝓛 (‵ (parts γ a (2 ^ 32)) ∷ []) ∵
      use1 𝓛 (‵ (parts γ a 1) ⊛ ‵ (parts γ a rest)) (parts_cut a (2 ^ 32) 1 rest (omega arith) (omega arith) (omega arith)) $ split ! $
      by ! (parts_glue a 1 rest full_share all_parts)

  -- nothing stands beside the whole name
  pub none_beside : (a c : ℕ) (e : Share) (Z : SProp 𝓤) → ⟦ name_share γ a full_share ⟧ ∗ ⟦ name_share γ c e ⟧ ⊢ Z
  none_beside a c e Z = own_glued 𝓛 named γ (full_share, a) (e, c) Z (λ x m. absurd (not-OpDef-full_share e m.0.0))

  no_parts_beside : (a k : ℕ) (Z : SProp 𝓤) → ⟦ block_share γ a full_share ⟧ ∗ ⟦ parts γ a k ⟧ ⊢ Z
  no_parts_beside a k Z = qed 𝓛 (‵ (block_share γ a full_share) ∷ ‵ (parts γ a k) ∷ []) ∵ fsplit ! $ move ! (2 ∷ []) $
      fpick ! (λ e. fpick ! (λ _. fsplit ! $ keep ! (3 ∷ 1 ∷ []) $ by ! (none_beside a a e Z)))

  too_many : (a i j : ℕ) → i ≤ 2 ^ 32 → ¬ (i + j ≤ 2 ^ 32) → (Z : SProp 𝓤) → ⟦ parts γ a i ⟧ ∗ ⟦ parts γ a j ⟧ ⊢ Z
  too_many a i j few many Z = let m : ℕ = 2 ^ 32 - i in dite (dec_le (2 ^ 32) i)
      (λ all. qed 𝓛 (‵ (parts γ a i) ∷ ‵ (parts γ a j) ∷ []) ∵ let is : i ≡ 2 ^ 32 = omega arith in
      rewrite ! 0 (λ (k : ℕ). ‵ (parts γ a k)) is refl $ use1 𝓛 (‵ (block_share γ a full_share)) (parts_whole a) $
      by ! (no_parts_beside a j Z))
      (λ less. qed 𝓛 (‵ (parts γ a i) ∷ ‵ (parts γ a j) ∷ []) ∵ move ! (1 ∷ []) $
      use1 𝓛 (‵ (parts γ a m) ⊛ ‵ (parts γ a (j - m))) (parts_cut a j m (j - m) (omega arith) (omega arith) (omega arith)) $ split ! $
      let all : IsParts (i + m) full_share = subst (λ (k : ℕ). IsParts k full_share) (omega arith) all_parts in
      move ! (2 ∷ 0 ∷ []) $ use2 𝓛 (‵ (block_share γ a full_share)) (parts_glue a i m full_share all) $
      by ! (no_parts_beside a (j - m) Z))

  parts_agree : (a c i j : ℕ) → ⟦ parts γ a i ⟧ ∗ ⟦ parts γ c j ⟧ ⊢ guard 𝓤 ((c ≡ a) × (i ≤ 2 ^ 32)) (⟦ parts γ a i ⟧ ∗ ⟦ parts γ c j ⟧)
  parts_agree a c i j = qed 𝓛 (‵ (parts γ a i) ∷ ‵ (parts γ c j) ∷ []) ∵ fpick ! (λ e. fpick ! (λ ei. fsplit ! $ move ! (2 ∷ []) $
      fpick ! (λ f. fpick ! (λ fj. fsplit ! $ move ! (3 ∷ 1 ∷ []) $
      let Both : SProp 𝓤 = ⟦ name_share γ a e ⟧ ∗ ⟦ name_share γ c f ⟧ in
      use2 𝓛 (given (c ≡ a) (‵ (name_share γ a e) ⊛ ‵ (name_share γ c f)))
      (own_sum 𝓛 named γ (e, a) (f, c) (guard 𝓤 (c ≡ a) Both) (λ x m. guard_i 𝓤 (c ≡ a) Both (sym m.0.1))) $
      learn ! (λ same. check ! (same, ei.1) $ split ! $ move ! (2 ∷ 1 ∷ []) $ fjoin ! $ use1 𝓛 (‵ (parts γ c j)) (parts_of c j f fj) $
      move ! (2 ∷ 1 ∷ []) $ fjoin ! $ use1 𝓛 (‵ (parts γ a i)) (parts_of a i e ei) $ done !)))))

  -- parts of one block are of one lifetime, and at most all of them
  pub parts_join : (a c i j : ℕ) → ⟦ parts γ a i ⟧ ∗ ⟦ parts γ c j ⟧ ⊢ guard 𝓤 (i + j ≤ 2 ^ 32) ⟦ parts γ a (i + j) ⟧
  parts_join a c i j = qed 𝓛 (‵ (parts γ a i) ∷ ‵ (parts γ c j) ∷ []) ∵
      use2 𝓛 (given ((c ≡ a) × (i ≤ 2 ^ 32)) (‵ (parts γ a i) ⊛ ‵ (parts γ c j))) (parts_agree a c i j) $ learn ! (λ known. split ! $
      rewrite ! 1 (λ (b : ℕ). ‵ (parts γ b j)) known.0 refl $ move ! (1 ∷ []) $ fpick ! (λ f. fpick ! (λ fj.
      use1 𝓛 (‵ (parts γ a j)) (parts_of a j f fj) $ move ! (1 ∷ 0 ∷ []) $
      by ! (dite (dec_le (i + j) (2 ^ 32))
      (λ few. let some = fj.0 in let r = share_of (i + j) (omega arith) few in qed 𝓛 (‵ (parts γ a i) ∷ ‵ (parts γ a j) ∷ []) ∵ check ! few $
      use2 𝓛 (‵ (block_share γ a r.0)) (parts_glue a i j r.0 r.1) $ by ! (parts_of a (i + j) r.0 r.1))
      (λ many. too_many a i j known.1 many _)))))
