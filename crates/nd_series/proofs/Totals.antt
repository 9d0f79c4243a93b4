-- The sums as the totals of a row come or go, one after another.
use Rattle.std.proofs.Common.{◌≡◌, ◌≢◌, ℕ, ◌+◌, ◌<◌, ◌≤◌, ◌^◌, List, length, get_or, set, ℤ, pos, ap, ◌∙◌, arith, below_more}
use Rattle.std.specs.Prelude.{unsigned_abs}
use Rattle.std.proofs.lemmas.List.{get_or-set_other, get_or-set_same}
use Rattle.nd_series.specs.declared.row.Part.{Part}
use Rattle.nd_series.specs.Kept.{part_at}

module _ (change : ℤ → ℤ → ℤ) (parts : List Part) (old : List ℤ) where
  -- the first k sums are changed by the totals of their regions, and the others are left
  pub record AreChangedTo (now : List ℤ) (k : ℕ) : Type 0 where
    pub changed : (j : ℕ) → j < k → get_or now j (pos 0) ≡ change (get_or old j (pos 0)) (part_at j parts).total
    pub left : (j : ℕ) → k ≤ j → get_or now j (pos 0) ≡ get_or old j (pos 0)

  pub left_room : (now : List ℤ) (k : ℕ) → AreChangedTo now k → ((j : ℕ) → unsigned_abs (get_or old j (pos 0)) < 2 ^ 100)
      → unsigned_abs (get_or now k (pos 0)) < 2 ^ 100
  left_room now k are room = let same = are.left k (omega arith) in rw same (room k)

  pub one_changed : (now : List ℤ) (k : ℕ) (sum : ℤ) → k < length now → sum ≡ change (get_or now k (pos 0)) (part_at k parts).total
      → AreChangedTo now k → AreChangedTo (set now k sum) (k + 1)
  one_changed now k sum within is are = record {
    changed = below_more _ _ (λ j h. let ne : j ≢ k = omega arith in rw get_or-set_other (are.changed j h))
        (rw get_or-set_same (is ∙ ap (λ z. change z (part_at k parts).total) (are.left k (omega arith))));
    left = λ j h. let ne : j ≢ k = omega arith in rw get_or-set_other (are.left j (omega arith));
  }
