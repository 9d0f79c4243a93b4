-- Keys put in and taken out.
use Rattle.std.proofs.Common.{◌≡◌, ℕ, ◌+◌, ◌<◌, ◌≤◌, true, eqb, ltb, List, [], ◌∷◌, suc, length, subst, refl, ap, sym, ◌∙◌, inl, inr, arith}
use Rattle.std.specs.List.{AllByRecursion, list_any}
use Rattle.std.proofs.lemmas.Bool.{lt-ltb, le-ltb, eq-eqb, ne_eqb, eqb-true, cases_lt, cases_order, cases_Bool}
use Rattle.pool_ledger.specs.Keys.{IsRising, with_key, without_key}

pub with_key-past : (key k : ℕ) (ks : List ℕ) → k < key → with_key key (k ∷ ks) ≡ k ∷ with_key key ks
with_key-past key k ks h = rw (lt-ltb k key h)

pub with_key-here : (key k : ℕ) (ks : List ℕ) → key ≤ k → with_key key (k ∷ ks) ≡ key ∷ k ∷ ks
with_key-here key k ks h = rw (le-ltb k key h)

-- the lesser of two keys goes in before the greater one, in either order
with_key-both : (a b : ℕ) (ks : List ℕ) → a < b → with_key a (with_key b ks) ≡ with_key b (with_key a ks)
with_key-both a b [] h = with_key-here a b [] (omega arith) ∙ sym (with_key-past b a [] h)
with_key-both a b (k ∷ ks) h =
    elim (cases_lt k a) [
      | inl below ↦
          ap (with_key a) (with_key-past b k ks (omega arith)) ∙ with_key-past a k (with_key b ks) below
          ∙ ap (λ ts. k ∷ ts) (with_key-both a b ks h) ∙ sym (with_key-past b k (with_key a ks) (omega arith))
          ∙ ap (with_key b) (sym (with_key-past a k ks below))
      | inr above ↦
          elim (cases_lt k b) [
            | inl past ↦
                ap (with_key a) (with_key-past b k ks past) ∙ with_key-here a k (with_key b ks) above
                ∙ ap (λ ts. a ∷ ts) (sym (with_key-past b k ks past)) ∙ sym (with_key-past b a (k ∷ ks) h)
                ∙ ap (with_key b) (sym (with_key-here a k ks above))
            | inr here ↦
                ap (with_key a) (with_key-here b k ks here) ∙ with_key-here a b (k ∷ ks) (omega arith)
                ∙ ap (λ ts. a ∷ ts) (sym (with_key-here b k ks here)) ∙ sym (with_key-past b a (k ∷ ks) h)
                ∙ ap (with_key b) (sym (with_key-here a k ks above))
          ]
    ]

pub with_key-swap : (a b : ℕ) (ks : List ℕ) → with_key a (with_key b ks) ≡ with_key b (with_key a ks)
with_key-swap a b ks =
    elim (cases_order a b) [
      | inl same ↦ ap (λ x. with_key a (with_key x ks)) (sym same) ∙ ap (λ x. with_key x (with_key a ks)) same
      | inr (inl less) ↦ with_key-both a b ks less
      | inr (inr more) ↦ sym (with_key-both b a ks more)
    ]

-- no key of these is the one
pub without_key-absent : (key : ℕ) (ks : List ℕ) → AllByRecursion (λ k. key < k) ks → without_key key ks ≡ ks
without_key-absent key [] h = refl
without_key-absent key (k ∷ ks) h = let past : key < k = h.0 in rw (ne_eqb k key (λ e. omega arith)) (ap (λ ts. k ∷ ts) (without_key-absent key ks h.1))

-- what is put in can be taken out again
pub without-with_key : (key : ℕ) (ks : List ℕ) → IsRising (with_key key ks) → without_key key (with_key key ks) ≡ ks
without-with_key key [] h = rw (eq-eqb key key refl)
without-with_key key (k ∷ ks) h =
    elim (cases_lt k key) [
      | inl past ↦
          let s = rw (with_key-past key k ks past) at h in
          ap (without_key key) (with_key-past key k ks past) ∙ rw (ne_eqb k key (λ e. omega arith)) (ap (λ ts. k ∷ ts) (without-with_key key ks s.1))
      | inr here ↦
          let s = rw (with_key-here key k ks here) at h in
          ap (without_key key) (with_key-here key k ks here) ∙ rw (eq-eqb key key refl) (without_key-absent key (k ∷ ks) s.0)
    ]

pub length-with_key : (key : ℕ) (ks : List ℕ) → length (with_key key ks) ≡ suc (length ks)
length-with_key key [] = refl
length-with_key key (k ∷ ks) =
    elim (cases_Bool (ltb k key)) [ inl t ↦ rw t (ap suc (length-with_key key ks)) | inr f ↦ rw f ]

pub length-without_key : (key : ℕ) (ks : List ℕ) → IsRising ks → list_any (λ k. eqb k key) ks ≡ true → length (without_key key ks) + 1 ≡ length ks
length-without_key key [] r m = absurd (cc)
length-without_key key (k ∷ ks) r m =
    elim (cases_Bool (eqb k key)) [
      | inl t ↦
          let same = eqb-true k key t in
          let later = without_key-absent key ks (subst (λ x. AllByRecursion (λ j. x < j) ks) same r.0) in
          rw (t, later) (omega arith)
      | inr f ↦
          let rest = length-without_key key ks r.1 (rw f at m) in
          rw f (omega arith)
    ]
