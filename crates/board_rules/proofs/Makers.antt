-- In a legal history the jobs of makers are those with a block.
use Rattle.std.proofs.Common.{◌≡◌, ℕ, Bool, true, not, List, [], ◌∷◌, refl, subst, Some, inl, inr}
use Rattle.std.specs.Prelude.{find}
use Rattle.std.specs.List.{list_all}
use Rattle.std.proofs.lemmas.Bool.{and_parts, and_from, false≢true, cases_Bool, not_from_false}
use Rattle.flow_journal.specs.declared.entry.Entry.{Entry}
use Rattle.flow_journal.specs.declared.entry.Entry.TheVariants.{Load, LoadRefused, Tick, Issue, Emit, Accept, Full, Take, TakeBlock, PoolDrop, Put}
use Rattle.flow_journal.specs.declared.entry.Entry.TheVariants.{SortDrop, Settle, Save, Saved, Close, Leave, Reclaim}
use Rattle.flow_journal.specs.Setting.{Setting, is_maker}
use Rattle.flow_journal.specs.Pasts.{Past}
use Rattle.flow_journal.specs.Hands.{takes_up, hand, hands, let_go}
use Rattle.flow_journal.specs.Following.{owed}
use Rattle.flow_journal.specs.Histories.{is_legal, next}
use Rattle.flow_journal.proofs.Rows.{row_laws}

-- a job with a block is one of a maker, and one without a block of another node
abbrev pub suits : Setting → Entry → Bool
suits s (Take r v m k) = not (is_maker s v)
suits s (TakeBlock f x r v m k b n g) = is_maker s v
suits s _ = true

suits-kept : (s : Setting) (r : ℕ) (H : Past) → list_all (suits s) H ≡ true → list_all (suits s) (let_go r H) ≡ true
suits-kept s r [] h = refl
suits-kept s r (e ∷ H) h =
    let p = and_parts (suits s e) (list_all (suits s) H) h in
    elim (cases_Bool (takes_up r e)) [
      | inl up ↦ rw up p.1
      | inr other ↦ rw other (and_from _ _ p.0 (suits-kept s r H p.1))
    ]

take-suits : (s : Setting) (P : Past) (r v m k : ℕ) (ds : List Entry) → next s P (Take r v m k) ds ≡ true → suits s (Take r v m k) ≡ true
take-suits s P r v m k [] h = not_from_false (is_maker s v) ((row_laws.take s P r v m k).0 h).1
take-suits s P r v m k (d ∷ ds) h = absurd (false≢true h)

block-suits : (s : Setting) (P : Past) (r v m k b n : ℕ) (f : Bool) (g : ℕ) (x : Bool) (ds : List Entry) → next s P (TakeBlock f x r v m k b n g) ds ≡ true
    → suits s (TakeBlock f x r v m k b n g) ≡ true
block-suits s P r v m k b n f g x [] h = ((row_laws.take_block s P r v m k b n f g x).0 h).1
block-suits s P r v m k b n f g x (d ∷ ds) h = absurd (false≢true h)

pub hands-suit : (s : Setting) (P : Past) → is_legal s P ≡ true → list_all (suits s) (hands P) ≡ true
hands-suit s [] h = refl
hands-suit s (Load r k b n f g x ∷ P) h = suits-kept s r (hands P) (hands-suit s P (and_parts (is_legal s P) _ h).0)
hands-suit s (Take r v m k ∷ P) h =
    let p = and_parts (is_legal s P) (next s P (Take r v m k) (owed s P)) h in
    and_from _ _ (take-suits s P r v m k (owed s P) p.1) (suits-kept s r (hands P) (hands-suit s P p.0))
hands-suit s (TakeBlock f x r v m k b n g ∷ P) h =
    let p = and_parts (is_legal s P) (next s P (TakeBlock f x r v m k b n g) (owed s P)) h in
    and_from _ _ (block-suits s P r v m k b n f g x (owed s P) p.1) (suits-kept s r (hands P) (hands-suit s P p.0))
hands-suit s (Save r v m k g ∷ P) h = suits-kept s r (hands P) (hands-suit s P (and_parts (is_legal s P) _ h).0)
hands-suit s (Issue r k ∷ P) h = suits-kept s r (hands P) (hands-suit s P (and_parts (is_legal s P) _ h).0)
hands-suit s (Put r v m k f ∷ P) h = suits-kept s r (hands P) (hands-suit s P (and_parts (is_legal s P) _ h).0)
hands-suit s (Saved r v m k ∷ P) h = suits-kept s r (hands P) (hands-suit s P (and_parts (is_legal s P) _ h).0)
hands-suit s (Reclaim r ∷ P) h = suits-kept s r (hands P) (hands-suit s P (and_parts (is_legal s P) _ h).0)
hands-suit s (LoadRefused r k n z ∷ P) h = hands-suit s P (and_parts (is_legal s P) _ h).0
hands-suit s (Tick t ∷ P) h = hands-suit s P (and_parts (is_legal s P) _ h).0
hands-suit s (Emit v m k why ∷ P) h = hands-suit s P (and_parts (is_legal s P) _ h).0
hands-suit s (Accept v m k ∷ P) h = hands-suit s P (and_parts (is_legal s P) _ h).0
hands-suit s (Full v m k ∷ P) h = hands-suit s P (and_parts (is_legal s P) _ h).0
hands-suit s (PoolDrop r v m k n z ∷ P) h = hands-suit s P (and_parts (is_legal s P) _ h).0
hands-suit s (SortDrop v m k ∷ P) h = hands-suit s P (and_parts (is_legal s P) _ h).0
hands-suit s (Settle r v ∷ P) h = hands-suit s P (and_parts (is_legal s P) _ h).0
hands-suit s (Close r ∷ P) h = hands-suit s P (and_parts (is_legal s P) _ h).0
hands-suit s (Leave r ∷ P) h = hands-suit s P (and_parts (is_legal s P) _ h).0

some-same : {X : Type 0} {x y : X} → Some x ≡ Some y → x ≡ y
some-same h = cc

found-all : (p q : Entry → Bool) (xs : Past) (e : Entry) → list_all p xs ≡ true → find q xs ≡ Some e → p e ≡ true
found-all p q [] e h f = cc
found-all p q (x ∷ xs) e h f =
    let a = and_parts (p x) (list_all p xs) h in
    elim (cases_Bool (q x)) [
      | inl yes_ ↦ let same_ : x ≡ e = some-same (rw yes_ at f) in subst (λ (y : Entry). p y ≡ true) same_ a.0
      | inr no_ ↦ found-all p q xs e a.1 (rw no_ at f)
    ]

-- the hand of a role is so
pub hand-suits : (s : Setting) (P : Past) (r : ℕ) (e : Entry) → is_legal s P ≡ true → hand r P ≡ Some e → suits s e ≡ true
hand-suits s P r e h is = found-all (suits s) (takes_up r) (hands P) e (hands-suit s P h) is
