-- What a pool answers.
use Rattle.std.proofs.Common.{◌≡◌, ◌≤◌, ◌+◌, ℕ, true, false, Bool, List, [], ◌∷◌, Option, Some, None, Ok, Err, refl, subst, arith, inl, inr, cond}
use Rattle.std.specs.Prelude.{find}
use Rattle.std.proofs.lemmas.Bool.{cases_Bool, leb-true}
use Rattle.pool_ledger.specs.Grants.{Answer, Block, Granted, Refused, passes, granted, fit_or_fresh, smallest_fit, free_in_order}
use Rattle.pool_ledger.specs.Ledger.{answered}
use Rattle.pool_ledger.specs.declared.grants.Grant.{Grant}
use Rattle.pool_ledger.specs.declared.grants.Refused.{Refused as RefusedAnswer}
use Rattle.std.specs.Prelude.{nat_le}
use Rattle.flow_journal.specs.Setting.{Setting}
use Rattle.flow_journal.specs.Pasts.{Past}
use Rattle.flow_journal.specs.Accounts.{grant, held, is_unplaced, known}

pub answered-ok : (h : ℕ) (a : Answer) (g : Grant) → answered h a ≡ Ok g → a ≡ Granted g.block g.size g.fresh g.given_up
answered-ok h Refused g e = cc
answered-ok h (Granted b n f k) g e = cc

pub answered-err : (h : ℕ) (a : Answer) (r : RefusedAnswer) → answered h a ≡ Err r → (a ≡ Refused) × (r.held ≡ h)
answered-err h Refused r e = (refl, cc)
answered-err h (Granted b n f k) r e = absurd (cc)

passes-found : {X : Type 0} (p : X → Bool) (xs : List X) (x : X) → find p xs ≡ Some x → p x ≡ true
passes-found p [] x h = cc
passes-found p (y ∷ ys) x h = elim (cases_Bool (p y)) [
  | inl yes_ ↦ let is : Some y ≡ Some x = rw yes_ at h in let same_ : y ≡ x = cc in subst (λ z. p z ≡ true) same_ yes_
  | inr no_ ↦ passes-found p ys x (rw no_ at h)
]

fit-enough : (limit n b z : ℕ) (f : Bool) (g : ℕ) (is_free : ℕ → Bool) (bs : List Block) (o : Option Block) → smallest_fit n is_free bs ≡ o
    → fit_or_fresh limit n is_free bs o ≡ Granted b z f g → n ≤ z
fit-enough limit n b z f g is_free bs (Some c) found h =
    let fits = passes-found (λ (d : Block). nat_le n d.size) (free_in_order is_free bs) c found in
    let size : c.size ≡ z = cc in
    omega (arith, leb-true n c.size fits, size)
fit-enough limit n b z f g is_free bs None found h = let size : n ≡ z = cc in omega (arith, size)

granted-enough : (limit n h b z : ℕ) (f : Bool) (g : ℕ) (is_free : ℕ → Bool) (bs : List Block) → granted limit n h is_free bs ≡ Granted b z f g → n ≤ z
granted-enough limit n h b z f g is_free bs e = by (passes limit (h + n)) e where
  by : (p : Bool) → cond p Refused (fit_or_fresh limit n is_free bs (smallest_fit n is_free bs)) ≡ Granted b z f g → n ≤ z
  by true e = absurd (cc)
  by false e = fit-enough limit n b z f g is_free bs (smallest_fit n is_free bs) refl e

-- what is granted is enough
pub enough : (s : Setting) (P : Past) (n b z : ℕ) (f : Bool) (g : ℕ) → s.pooled ≡ true → grant s P n ≡ Granted b z f g → n ≤ z
enough s P n b z f g pooled h = granted-enough s.limit n (held s P) b z f g (is_unplaced s P) (known s P) (rw pooled at h)
