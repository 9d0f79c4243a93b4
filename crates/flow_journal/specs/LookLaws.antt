-- LAWS of what goes out of a sort list: at each moment a look begins with the least one, and goes on with a look at what is left.
use Rattle.std.specs.Prelude.{◌≡◌, ℕ, ◌+◌, ◌==◌, nat_lt, Bool, true, false, List, [], ◌∷◌, length, map}
use Rattle.flow_journal.specs.declared.entry.Entry.TheVariants.{Emit, Accept, Full, Put, SortDrop, Settle}
use Rattle.flow_journal.specs.declared.entry.Why.TheVariants.{Step, Late, Flush}
use Rattle.flow_journal.specs.Setting.{Setting, node, id_at, is_sorted}
use Rattle.flow_journal.specs.Pasts.{Past}
use Rattle.flow_journal.specs.Ended.{now}
use Rattle.flow_journal.specs.Waiting.{Waiting, waiting, least_first, id_of}
use Rattle.queue_sort.specs.Sorting.{keeps_step}
use Rattle.flow_journal.specs.Breaks.{prev}
use Rattle.flow_journal.specs.Following.{emit, look, calls_for}
use Rattle.flow_journal.specs.Histories.{is_legal}

-- w is the least that waits at the node, and rest is what waits besides
abbrev pub IsLeastWaiting : Setting → ℕ → Past → Waiting → List Waiting → Type 0
IsLeastWaiting s v P w rest = least_first s (waiting s v P) ≡ w ∷ rest

-- it keeps step
abbrev pub is_in_step : Setting → ℕ → Past → Waiting → Bool
is_in_step s v P w = keeps_step (prev s v P) (id_of s w)

-- it has waited for longer than the sort time
abbrev pub is_late : Setting → ℕ → Past → Waiting → Bool
is_late s v P w = nat_lt (w.tick + (node s v).sort_time) (now P)

pub record LookLaws : Type 0 where
  pub none : (s : Setting) (v : ℕ) (P : Past) → waiting s v P ≡ [] → look s v P ≡ []
  pub stays : (s : Setting) (v : ℕ) (P : Past) (w : Waiting) (rest : List Waiting) → IsLeastWaiting s v P w rest → is_in_step s v P w ≡ false
      → is_late s v P w ≡ false → look s v P ≡ []
  pub step : (s : Setting) (v : ℕ) (P : Past) (w : Waiting) (rest : List Waiting) → IsLeastWaiting s v P w rest → is_in_step s v P w ≡ true
      → look s v P ≡ emit v Step w.array ∷ look s v (emit v Step w.array ∷ P)
  pub late : (s : Setting) (v : ℕ) (P : Past) (w : Waiting) (rest : List Waiting) → IsLeastWaiting s v P w rest → is_in_step s v P w ≡ false
      → is_late s v P w ≡ true → look s v P ≡ emit v Late w.array ∷ look s v (emit v Late w.array ∷ P)
  -- offers leave it as it is
  pub accept : (s : Setting) (v w m k : ℕ) (P : Past) → look s v (Accept w m k ∷ P) ≡ look s v P
  pub full : (s : Setting) (v w m k : ℕ) (P : Past) → look s v (Full w m k ∷ P) ≡ look s v P
  -- a settle lets all out
  pub flush : (s : Setting) (r v : ℕ) (P : Past) (w : Waiting) (rest : List Waiting) → IsLeastWaiting s v P w rest
      → calls_for s P (Settle r v) ≡ emit v Flush w.array ∷ map (λ u. emit v Flush u.array) (least_first s (waiting s v (emit v Flush w.array ∷ P)))
  -- a put at a sorted node
  pub put_steps : (s : Setting) (r v m k : ℕ) (f : Bool) (P : Past) → is_sorted s v ≡ true → is_legal s (Put r v m k f ∷ P) ≡ true
      → keeps_step (prev s v P) (id_at s k) ≡ true → calls_for s P (Put r v m k f) ≡ Emit v m k Step ∷ look s v (Emit v m k Step ∷ Put r v m k f ∷ P)
  pub put_full : (s : Setting) (r v m k : ℕ) (f : Bool) (P : Past) → is_sorted s v ≡ true → is_legal s (Put r v m k f ∷ P) ≡ true
      → keeps_step (prev s v P) (id_at s k) ≡ false → length (waiting s v P) ≡ (node s v).sort
      → calls_for s P (Put r v m k f) ≡ SortDrop v m k ∷ look s v (SortDrop v m k ∷ Put r v m k f ∷ P)
  pub put_waits : (s : Setting) (r v m k : ℕ) (f : Bool) (P : Past) → is_sorted s v ≡ true → is_legal s (Put r v m k f ∷ P) ≡ true
      → keeps_step (prev s v P) (id_at s k) ≡ false → (length (waiting s v P) == (node s v).sort) ≡ false
      → calls_for s P (Put r v m k f) ≡ look s v (Put r v m k f ∷ P)
