-- Prefixes of lists, and the longer of two.
use Rattle.std.proofs.Common.{◌≡◌, List, [], ◌∷◌, ◌++◌, ◌⊎◌, length, drop, sym, refl, ap, ◌∙◌, subst, arith, append_assoc, append-nil, ⊎_elim}
use Rattle.turn_lock.specs.Logs.{IsPrefix, longer}

module _ {E : Type 0} where
  pub prefix_same : (xs : List E) → IsPrefix xs xs
  prefix_same xs = ([], sym (append-nil xs))

  pub prefix_none : (xs : List E) → IsPrefix [] xs
  prefix_none xs = (xs, refl)

  pub prefix_more : (xs ys new : List E) → IsPrefix xs ys → IsPrefix xs (ys ++ new)
  prefix_more xs ys new p = (p.0 ++ new, ap (λ l. l ++ new) p.1 ∙ append_assoc xs p.0 new)

  abbrev head_or : E → List E → E
  head_or d [] = d
  head_or d (x ∷ xs) = x

  -- two lists that begin with each other are one
  pub prefix_both : (xs ys : List E) → IsPrefix xs ys → IsPrefix ys xs → xs ≡ ys
  prefix_both [] [] p q = refl
  prefix_both [] (y ∷ ys) p q = let n = ap length q.1 in absurd (omega arith)
  prefix_both (x ∷ xs) [] p q = let n = ap length p.1 in absurd (omega arith)
  prefix_both (x ∷ xs) (y ∷ ys) p q = let more = prefix_both xs ys (p.0, ap (drop 1) p.1) (q.0, ap (drop 1) q.1) in
      λ i. head_or x (sym p.1 i) ∷ more i

  -- the longer of two prefixes is a prefix, and begins with both
  pub longer_is : (a b l : List E) → IsPrefix a l → IsPrefix b l → IsPrefix (longer a b) l × IsPrefix a (longer a b) × IsPrefix b (longer a b)
  longer_is [] b l p q = (q, prefix_none b, prefix_same b)
  longer_is (x ∷ xs) [] l p q = (p, prefix_same (x ∷ xs), prefix_none (x ∷ xs))
  longer_is (x ∷ xs) (y ∷ ys) l p q = let both : x ∷ (xs ++ p.0) ≡ y ∷ (ys ++ q.0) = sym p.1 ∙ q.1 in
      let heads : x ≡ y = ap (head_or x) both in let tails : xs ++ p.0 ≡ ys ++ q.0 = ap (drop 1) both in
      let r = longer_is xs ys (xs ++ p.0) (p.0, refl) (q.0, tails) in
      ((r.0.0, p.1 ∙ ap (λ t. x ∷ t) r.0.1), (r.1.0, ap (λ t. x ∷ t) r.1.1), (r.2.0, λ i. heads i ∷ r.2.1 i))

  -- where one of the two is the whole list, so is the longer
  pub longer_all : (a b l : List E) → IsPrefix a l → IsPrefix b l → (a ≡ l) ⊎ (b ≡ l) → longer a b ≡ l
  longer_all a b l p q whole = let long = longer_is a b l p q in
      prefix_both (longer a b) l long.0
      (⊎_elim (λ e. subst (λ (x : List E). IsPrefix x (longer a b)) e long.1) (λ e. subst (λ (x : List E). IsPrefix x (longer a b)) e long.2) whole)
