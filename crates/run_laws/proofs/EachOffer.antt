-- Each array that came to a node was accepted there or found its queue full, and was accepted for good unless a later entry drops it.
use Rattle.std.proofs.Common.{◌≡◌, ℕ, Bool, true, false, ◌||◌, not, cond, eqb, List, [], ◌∷◌, ◌++◌, ◌<◌, refl, sym, ap, subst, arith, inl, inr, ◌⊎◌}
use Rattle.std.specs.List.{Contains, filter, list_any}
use Rattle.std.proofs.lemmas.Bool.{cases_Bool, eq-eqb}
use Rattle.std.proofs.lemmas.List.Elements.{Contains-get_or, Contains-append_left, Contains-append_right, Contains-append_cases}
use Rattle.std.proofs.lemmas.List.Elements.{Contains-push, Contains-push_cases}
use Rattle.nd_base.specs.declared.frame.FrameName.{FrameName}
use Rattle.flow_journal.specs.declared.entry.Entry.TheVariants.{Accept, Full}
use Rattle.flow_journal.specs.Setting.{Setting}
use Rattle.flow_journal.specs.Pasts.{Past, frame, same, comes_at}
use Rattle.flow_journal.specs.Offered.{offered}
use Rattle.flow_journal.specs.Accepted.{accepts, accepted, is_dropped_by}
use Rattle.run_laws.specs.DropLaws.{is_full_for, was_dropped}

-- a member that passes a test is one of those that pass it
kept-first : {X : Type 0} (p : X → Bool) (y : X) (ys : List X) → p y ≡ true → Contains (filter p (y ∷ ys)) y
kept-first p y ys is =
    subst (λ (b : Bool). Contains (cond b (y ∷ filter p ys) (filter p ys)) y) (sym is)
    (Contains-get_or (y ∷ filter p ys) 0 y (let some : 0 < 1 = omega arith in omega (arith, some)))

kept-later : {X : Type 0} (p : X → Bool) (y x : X) (ys : List X) → Contains (filter p ys) x → Contains (filter p (y ∷ ys)) x
kept-later p y x ys more =
    elim (cases_Bool (p y)) [
      | inl passes ↦
          subst (λ (b : Bool). Contains (cond b (y ∷ filter p ys) (filter p ys)) x) (sym passes)
          (Contains-append_right (y ∷ []) (filter p ys) x more)
      | inr fails ↦ subst (λ (b : Bool). Contains (cond b (y ∷ filter p ys) (filter p ys)) x) (sym fails) more
    ]

kept : {X : Type 0} (p : X → Bool) (xs : List X) (x : X) → p x ≡ true → Contains xs x → Contains (filter p xs) x
kept p [] x is here = here
kept p (y ∷ ys) x is here =
    elim (Contains-append_cases (y ∷ []) ys x here) [
      | inl first ↦ elim (Contains-push_cases [] y x first) [
        | inl none ↦ absurd (let off : none.0 < 0 = none.1 in omega (arith, off))
        | inr same ↦ subst (λ z. Contains (filter p (y ∷ ys)) z) same (kept-first p y ys (subst (λ z. p z ≡ true) (sym same) is))
      ]
      | inr later ↦ kept-later p y x ys (kept p ys x is later)
    ]

-- a list to which an array comes at a node
comes-cases : (v w : ℕ) (x a : FrameName) (xs : List FrameName) → Contains (comes_at v w x xs) a → Contains xs a ⊎ ((eqb w v ≡ true) × (x ≡ a))
comes-cases v w x a xs h =
    elim (cases_Bool (eqb w v)) [
      | inl here ↦
          elim (Contains-push_cases xs x a (subst (λ (b : Bool). Contains (cond b (xs ++ x ∷ []) xs) a) here h)) [
            | inl before ↦ inl before
            | inr is ↦ inr (here, is)
          ]
      | inr away ↦ inl (subst (λ (b : Bool). Contains (cond b (xs ++ x ∷ []) xs) a) away h)
    ]

comes-old : (v w : ℕ) (x a : FrameName) (xs : List FrameName) → Contains xs a → Contains (comes_at v w x xs) a
comes-old v w x a xs h =
    elim (cases_Bool (eqb w v)) [
      | inl here ↦ subst (λ (b : Bool). Contains (cond b (xs ++ x ∷ []) xs) a) (sym here) (Contains-append_left xs (x ∷ []) a h)
      | inr away ↦ subst (λ (b : Bool). Contains (cond b (xs ++ x ∷ []) xs) a) (sym away) h
    ]

comes-new : (v w : ℕ) (x : FrameName) (xs : List FrameName) → eqb w v ≡ true → Contains (comes_at v w x xs) x
comes-new v w x xs here = subst (λ (b : Bool). Contains (cond b (xs ++ x ∷ []) xs) x) (sym here) (Contains-push xs x)

-- the entry tells of its own array
full-for : (v w m k : ℕ) → eqb w v ≡ true → is_full_for v (frame m k) (Full w m k) ≡ true
full-for v w m k here = rw here (rw (eq-eqb m m refl) (eq-eqb k k refl))

either-left : (a b : Bool) → a ≡ true → (a || b) ≡ true
either-left a b h = rw h refl

either-right : (a b : Bool) → b ≡ true → (a || b) ≡ true
either-right true b h = refl
either-right false b h = h

-- what came was accepted, or the queue was full
accepted_or_full : (v : ℕ) (P : Past) (a : FrameName) → Contains (offered v P) a → Contains (accepts v P) a ⊎ (list_any (is_full_for v a) P ≡ true)
accepted_or_full v [] a h = inl h
accepted_or_full v (Accept w m k ∷ P) a h =
    elim (comes-cases v w (frame m k) a (offered v P) h) [
      | inl before ↦ elim (accepted_or_full v P a before) [
        | inl there ↦ inl (comes-old v w (frame m k) a (accepts v P) there)
        | inr full ↦ inr full
      ]
      | inr now ↦ inl (subst (λ b. Contains (comes_at v w (frame m k) (accepts v P)) b) now.1 (comes-new v w (frame m k) (accepts v P) now.0))
    ]
accepted_or_full v (Full w m k ∷ P) a h =
    elim (comes-cases v w (frame m k) a (offered v P) h) [
      | inl before ↦ elim (accepted_or_full v P a before) [
        | inl there ↦ inl there
        | inr full ↦ inr (either-right (is_full_for v a (Full w m k)) (list_any (is_full_for v a) P) full)
      ]
      | inr now ↦ inr (either-left (is_full_for v a (Full w m k)) (list_any (is_full_for v a) P)
          (subst (λ b. is_full_for v b (Full w m k) ≡ true) now.1 (full-for v w m k now.0)))
    ]
accepted_or_full v (_ ∷ P) a h = accepted_or_full v P a h

pub each-offer : (s : Setting) (P : Past) (v : ℕ) (a : FrameName) → Contains (offered v P) a
    → Contains (accepted s v P) a ⊎ (was_dropped s v a P ≡ true)
each-offer s P v a h =
    let full = list_any (is_full_for v a) P in
    let dropped = list_any (is_dropped_by s v a) P in
    elim (accepted_or_full v P a h) [
      | inl there ↦ elim (cases_Bool dropped) [
        | inl later ↦ inr (either-right full dropped later)
        | inr never ↦ inl (kept (λ b. not (list_any (is_dropped_by s v b) P)) (accepts v P) a (ap not never) there)
      ]
      | inr at_once ↦ inr (either-left full dropped at_once)
    ]
