-- What roles have counted, and the passes of a new lock from the last one on.
use Rattle.std.proofs.Common.{◌≡◌, ℕ, suc, zero, ◌+◌, ◌≤◌, Bool, true, false, eqb, List, [], ◌∷◌, ◌++◌, length, drop, refl, ap, ◌∙◌, sym, subst, arith}
use Rattle.std.proofs.Common.{length-append, eqb-true}
use Rattle.atomic_table.specs.Seated.{TableId}
use Rattle.turn_lock.specs.declared.counter.Count.{Count}
use Rattle.turn_lock.specs.declared.rule.Moves.{Moves}
use Rattle.turn_lock.specs.Logs.{moves_of}
use Rattle.turn_lock.specs.Views.{one_if, times, adds, no_moves}
use Rattle.turn_lock.specs.Rule.{AreExact}
use Rattle.turn_lock.specs.Passes.{PassFacts, pass_facts, new_passes}
use Rattle.turn_lock.specs.Counting.{count, counted_by, HasCounted, EachCounted}

pub counted_none : (role : ℕ) (made : List (Moves Count)) → made ≡ no_moves role ∷ [] → HasCounted role 0 made
counted_none role made is = ([], is, refl)

pub counted_more : (role n : ℕ) (made made' : List (Moves Count)) → HasCounted role n made → made' ≡ adds (count role ∷ []) made
    → HasCounted role (n + 1) made'
counted_more role n made made' has is = let len = length-append has.0 (count role ∷ []) in let before = has.2 in
    (has.0 ++ count role ∷ [], is ∙ ap (adds (count role ∷ [])) has.1, omega arith)

pub counted_each : (role n : ℕ) (made : List (Moves Count)) → HasCounted role n made → (length made ≡ 1) × EachCounted n made
counted_each role n made has = (ap length has.1, subst (EachCounted n) (sym has.1) (has.2, tt))

pub each_append : (n : ℕ) (xs ys : List (Moves Count)) → EachCounted n xs → EachCounted n ys → EachCounted n (xs ++ ys)
each_append n [] ys a b = b
each_append n (x ∷ xs) ys a b = (a.0, each_append n xs ys a.1 b)

by_case : {X : Type 0} (b : Bool) → (b ≡ true → X) → (b ≡ false → X) → X
by_case true h k = h refl
by_case false h k = k refl

-- a role that is among them has counted so often
pub each_here : (q n : ℕ) (log : List Count) (made : List (Moves Count)) → AreExact counted_by log made → EachCounted n made → 1 ≤ times q made
    → length (moves_of counted_by q log) ≡ n
each_here q n log [] exact each some_here = absurd (omega arith)
each_here q n log (m ∷ ms) exact each some_here = by_case (eqb m.role q)
    (λ hit. ap (λ k. length (moves_of counted_by k log)) (sym (eqb-true m.role q hit)) ∙ (ap length exact.0 ∙ each.0))
    (λ miss. let none_here : one_if (eqb m.role q) ≡ 0 = ap one_if miss in each_here q n log ms exact.1 each.1 (omega arith))

abbrev one : TableId → ℕ → List (PassFacts Count)
one id k = pass_facts id [] (no_moves k ∷ []) ∷ []

dealt_last : (id : TableId) (k n : ℕ) → new_passes {E = Count} id k (n + 1) ≡ new_passes id k n ++ one id (k + n)
dealt_last id k zero = ap (one id) (omega arith)
dealt_last id k (suc n) = let r = dealt_last id (suc k) n in
    ap (new_passes id k) (let e : suc n + 1 ≡ suc (n + 1) = omega arith in e) ∙ (ap (λ l. pass_facts id [] (no_moves k ∷ []) ∷ l) r
    ∙ ap (λ (j : ℕ). pass_facts id [] (no_moves k ∷ []) ∷ (new_passes id (suc k) n ++ one id j)) (let e : suc k + n ≡ k + suc n = omega arith in e))

module _ {A : Type 0} where
  abbrev head_or : A → List A → A
  head_or d [] = d
  head_or d (x ∷ xs) = x

  last_same : (xs ys : List A) (x y : A) → xs ++ x ∷ [] ≡ ys ++ y ∷ [] → (xs ≡ ys) × (x ≡ y)
  last_same [] [] x y e = (refl, ap (head_or x) e)
  last_same [] (w ∷ ys) x y e = let n = ap length e in let m = length-append ys (y ∷ []) in absurd (omega arith)
  last_same (z ∷ xs) [] x y e = let n = ap length e in let m = length-append xs (x ∷ []) in absurd (omega arith)
  last_same (z ∷ xs) (w ∷ ys) x y e = let r = last_same xs ys x y (ap (drop 1) e) in ((λ i. ap (head_or z) e i ∷ r.0 i), r.1)

-- the last pass is that of the last role
pub popped : (id : TableId) (xs ys : List (PassFacts Count)) (x : PassFacts Count) (n m : ℕ) → xs ≡ ys ++ x ∷ [] → xs ≡ new_passes id 0 n → n ≡ m + 1
    → (ys ≡ new_passes id 0 m) × (x ≡ pass_facts id [] (no_moves m ∷ []))
popped id xs ys x n m a b c = let same = last_same ys (new_passes id 0 m) x (pass_facts id [] (no_moves (0 + m) ∷ []))
    (sym a ∙ (b ∙ (ap (new_passes id 0) c ∙ dealt_last id 0 m))) in
    (same.0, same.1 ∙ ap (λ (k : ℕ). pass_facts id [] (no_moves k ∷ [])) (let e : 0 + m ≡ m = omega arith in e))
