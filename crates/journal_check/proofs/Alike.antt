-- Entries that are compared one by one.
use Rattle.std.proofs.Common.{◌≡◌, ◌≢◌, ℕ, suc, ◌+◌, ◌<◌, ◌≤◌, ◌⊎◌, true, List, [], ◌∷◌, ◌++◌, length, take, get_or}
use Rattle.std.proofs.Common.{sym, ap, ◌∙◌, rules, arith, Some, None, inl, inr, min, leb}
use Rattle.std.specs.Prelude.{slice_get}
use Rattle.std.proofs.lemmas.Bool.{false≢true, cases_Bool, leb-true, leb-false}
use Rattle.std.proofs.lemmas.Option.{get_or_from_slice_get, slice_get_past}
use Rattle.std.proofs.Math.Seq.{take-suc}
use Rattle.journal_check.specs.Steps.{AreAlike}
use Rattle.flow_journal.specs.declared.entry.Entry.{Entry}
use Rattle.flow_journal.specs.declared.entry.Entry.TheVariants.{Load, LoadRefused, Tick, Issue, Emit, Accept, Full, Take, TakeBlock, PoolDrop, Put}
use Rattle.flow_journal.specs.declared.entry.Entry.TheVariants.{SortDrop, Settle, Save, Saved, Close, Leave, Reclaim}
use Rattle.flow_journal.specs.contracts.entry.EntryPartialEq.TheImpl.{ghosts}

-- what the test of two entries passes is one
pub entry-one : (a b : Entry) → ghosts.eq a b ≡ true → a ≡ b
entry-one (Load r k b n f g x) (Load r' k' b' n' f' g' x') e_ = search rules
entry-one (LoadRefused r k n h) (LoadRefused r' k' n' h') e_ = search rules
entry-one (Tick t) (Tick t') e_ = search rules
entry-one (Issue r k) (Issue r' k') e_ = search rules
entry-one (Emit v m k w) (Emit v' m' k' w') e_ = search rules
entry-one (Accept v m k) (Accept v' m' k') e_ = search rules
entry-one (Full v m k) (Full v' m' k') e_ = search rules
entry-one (Take r v m k) (Take r' v' m' k') e_ = search rules
entry-one (TakeBlock f x r v m k b n g) (TakeBlock f' x' r' v' m' k' b' n' g') e_ = search rules
entry-one (PoolDrop r v m k n h) (PoolDrop r' v' m' k' n' h') e_ = search rules
entry-one (Put r v m k f) (Put r' v' m' k' f') e_ = search rules
entry-one (SortDrop v m k) (SortDrop v' m' k') e_ = search rules
entry-one (Settle r v) (Settle r' v') e_ = search rules
entry-one (Save r v m k g) (Save r' v' m' k' g') e_ = search rules
entry-one (Saved r v m k) (Saved r' v' m' k') e_ = search rules
entry-one (Close r) (Close r') e_ = search rules
entry-one (Leave r) (Leave r') e_ = search rules
entry-one (Reclaim r) (Reclaim r') e_ = search rules
entry-one _ _ e_ = absurd (false≢true e_)

take-more : (xs : List Entry) (n : ℕ) (d : Entry) → n < length xs → take (n + 1) xs ≡ take n xs ++ get_or xs n d ∷ []
take-more xs n d h = let e : n + 1 ≡ suc n = omega arith in ap (λ (i : ℕ). take i xs) e ∙ take-suc xs n d h

pub alike-more : (made es : List Entry) (n : ℕ) (d c : Entry) → n < length made → n < length es → take n made ≡ take n es → get_or made n d ≡ get_or es n c
    → (n + 1 ≤ length made) × (n + 1 ≤ length es) × (take (n + 1) made ≡ take (n + 1) es)
alike-more made es n d c h i same one = (
  omega (arith, h),
  omega (arith, i),
  take-more made n d h ∙ (ap (λ (xs : List Entry). xs ++ get_or made n d ∷ []) same ∙ (ap (λ (x : Entry). take n es ++ x ∷ []) one ∙ sym (take-more es n c i))),
)

pub alike-apart : (made es : List Entry) (n : ℕ) (d c : Entry) → n < length made → n < length es → take n made ≡ take n es → get_or made n d ≢ get_or es n c
    → AreAlike made es n
alike-apart made es n d c h i same ne =
    record {
      same = same;
      in_made = omega (arith, h);
      in_es = omega (arith, i);
      apart = λ a x p q e. ne (get_or_from_slice_get made n a d p ∙ (e ∙ sym (get_or_from_slice_get es n x c q)));
    }

none-there : (xs : List Entry) (n : ℕ) (a : Entry) → length xs ≤ n → slice_get xs n ≡ Some a → ⊥
none-there xs n a h e = let none : None ≡ Some a = sym (slice_get_past xs n h) ∙ e in cc

min-over : (a b n : ℕ) → min a b ≤ n → (a ≤ n) ⊎ (b ≤ n)
min-over a b n h =
    elim (cases_Bool (leb a n)) [
      | inl low ↦ inl (leb-true a n low)
      | inr high ↦ inr (omega (arith, h, leb-false a n high))
    ]

pub alike-end : (made es : List Entry) (n : ℕ) → n ≤ length made → n ≤ length es → take n made ≡ take n es → min (length made) (length es) ≤ n
    → AreAlike made es n
alike-end made es n h i same end =
    record {
      same = same;
      in_made = h;
      in_es = i;
      apart = λ a x p q e. (elim over [ inl m ↦ none-there made n a m p | inr m ↦ none-there es n x m q ]);
    }
  where
    over : (length made ≤ n) ⊎ (length es ≤ n)
    over = min-over (length made) (length es) n end
