-- LAWS of the next index: the frames that were offered at the driver are those below it, and what each entry does to it.
use Rattle.std.specs.Prelude.{◌≡◌, ℕ, zero, suc, ◌+◌, Bool, true, false, List, [], ◌∷◌, Some}
use Rattle.flow_journal.specs.declared.entry.Entry.{Entry}
use Rattle.flow_journal.specs.declared.entry.Entry.TheVariants.{Load, LoadRefused, Reclaim}
use Rattle.flow_journal.specs.Setting.{Setting}
use Rattle.flow_journal.specs.Pasts.{Past}
use Rattle.flow_journal.specs.Hands.{hand, is_loaded}
use Rattle.flow_journal.specs.Offered.{offered_frames, next_index}
use Rattle.flow_journal.specs.Histories.{is_legal}
use Rattle.flow_journal.specs.EntryLaws.{offers_frames}

-- the numbers below n, the greatest first
abbrev pub below : ℕ → List ℕ
below zero = []
below (suc n) = n ∷ below n

pub record IndexLaws : Type 0 where
  pub offered : (s : Setting) (P : Past) → is_legal s P ≡ true → offered_frames P ≡ below (next_index P)
  pub load : (s : Setting) (r k b n : ℕ) (f : Bool) (g : ℕ) (x : Bool) (P : Past) → is_legal s (Load r k b n f g x ∷ P) ≡ true
      → next_index (Load r k b n f g x ∷ P) ≡ next_index P + 1
  pub load_refused : (s : Setting) (r k n h : ℕ) (P : Past) → is_legal s (LoadRefused r k n h ∷ P) ≡ true
      → next_index (LoadRefused r k n h ∷ P) ≡ next_index P + 1
  pub reclaim : (s : Setting) (r q k b n : ℕ) (f : Bool) (g : ℕ) (x : Bool) (P : Past) → is_legal s (Reclaim r ∷ P) ≡ true
      → hand r P ≡ Some (Load q k b n f g x) → next_index P ≡ next_index (Reclaim r ∷ P) + 1
  pub reclaim_other : (s : Setting) (r : ℕ) (e : Entry) (P : Past) → is_legal s P ≡ true → hand r P ≡ Some e → is_loaded e ≡ false
      → next_index (Reclaim r ∷ P) ≡ next_index P
  pub others : (e : Entry) (P : Past) → offers_frames e ≡ false → next_index (e ∷ P) ≡ next_index P
