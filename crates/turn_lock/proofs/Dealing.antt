-- Passes are dealt out, one for each role.
use Rattle.std.proofs.Common.{◌≡◌, ℕ, suc, ◌+◌, ◌-◌, ◌<◌, List, [], ◌∷◌, ◌++◌, take, drop, sym, ap, ◌∙◌, arith, append_assoc}
use Rattle.atomic_table.specs.Seated.{TableId}
use Rattle.turn_lock.specs.declared.rule.View.{View}
use Rattle.turn_lock.specs.declared.rule.Stage.TheVariants.{Idle}
use Rattle.turn_lock.specs.Views.{view, unused, no_moves, first_role, other_roles}
use Rattle.turn_lock.specs.Passes.{PassFacts, pass_facts, new_passes}

module _ (E : Type 0) where
  -- the seat that has n unused roles from k on
  abbrev pub from : ℕ → ℕ → View E
  from k n = view Idle [] (unused k n)

  one_more : (k k' n m : ℕ) → n ≡ suc m → k' ≡ suc k → unused {E = E} k n ≡ no_moves k ∷ unused k' m
  one_more k k' n m more next = ap (unused k) more ∙ ap (λ (j : ℕ). no_moves k ∷ unused j m) (sym next)

  pub others_from : (k seats : ℕ) → k + 1 < seats → other_roles (from k (seats - k)) ≡ from (k + 1) (seats - (k + 1))
  others_from k seats more = ap (λ l. view Idle [] (drop 1 l)) (one_more k (k + 1) (seats - k) (seats - (k + 1)) (omega arith) (omega arith))

  pub dealt_one : (id : TableId) (k seats : ℕ) (v : View E) (items items' all : List (PassFacts E)) → k < seats → v ≡ from k (seats - k)
      → items' ≡ items ++ pass_facts id (first_role v).seen (first_role v).made ∷ [] → items ++ new_passes id k (seats - k) ≡ all
      → items' ++ new_passes id (k + 1) (seats - (k + 1)) ≡ all
  dealt_one id k seats v items items' all more is pushed before = let m : ℕ = seats - (k + 1) in
      let role : take 1 v.made ≡ no_moves k ∷ [] =
      ap (λ (w : View E). take 1 w.made) is ∙ ap (take 1) (one_more k (k + 1) (seats - k) m (omega arith) (omega arith)) in
      let next : new_passes {E = E} id k (seats - k) ≡ pass_facts id [] (no_moves k ∷ []) ∷ new_passes id (k + 1) m =
      ap (new_passes id k) (let e : seats - k ≡ suc m = omega arith in e)
      ∙ ap (λ (j : ℕ). pass_facts id [] (no_moves k ∷ []) ∷ new_passes id j m) (let e : suc k ≡ k + 1 = omega arith in e) in
      let x : pass_facts id (first_role v).seen (first_role v).made ≡ pass_facts id [] (no_moves k ∷ []) = λ i. pass_facts id ((is i).seen) (role i) in
      ap (λ l. l ++ new_passes id (k + 1) m) pushed
      ∙ (append_assoc items (pass_facts id (first_role v).seen (first_role v).made ∷ []) (new_passes id (k + 1) m)
      ∙ (ap (λ y. items ++ y ∷ new_passes id (k + 1) m) x ∙ (ap (λ l. items ++ l) (sym next) ∙ before)))
