-- A closed feed has offered every frame, and the input of a settled node has ended.
use Rattle.std.proofs.Common.{◌≡◌, ℕ, ◌≤◌, Bool, true, false, eqb, [], ◌∷◌, length, refl, ◌∙◌, subst, arith, Some, inl, inr}
use Rattle.std.specs.Prelude.{find}
use Rattle.std.specs.List.{list_any}
use Rattle.std.proofs.lemmas.Bool.{and_parts, or_parts, false≢true, eqb-true, cases_Bool}
use Rattle.flow_journal.specs.declared.entry.Entry.{Entry}
use Rattle.flow_journal.specs.declared.entry.Entry.TheVariants.{Load, LoadRefused, Issue, Take, TakeBlock, Put, Settle, Save, Saved, Close, Reclaim}
use Rattle.flow_journal.specs.Setting.{Setting, node}
use Rattle.flow_journal.specs.Pasts.{Past}
use Rattle.flow_journal.specs.Hands.{takes_up, let_go, hands, hand, is_loaded}
use Rattle.flow_journal.specs.Ended.{closes, is_closed, settles, is_settled, has_ended}
use Rattle.flow_journal.specs.Offered.{next_index}
use Rattle.flow_journal.specs.Histories.{is_legal}
use Rattle.flow_journal.proofs.Hands.{row_of}
use Rattle.flow_journal.proofs.Rows.{row_laws}
use Rattle.flow_journal.proofs.Indices.{index_laws}

-- none passes, and so none that is found
pub found-not : (p q : Entry → Bool) (xs : Past) (e : Entry) → list_any p xs ≡ false → find q xs ≡ Some e → p e ≡ false
found-not p q [] e h f = cc
found-not p q (x ∷ xs) e h f =
    let a = or_parts (p x) (list_any p xs) h in
    elim (cases_Bool (q x)) [
      | inl yes_ ↦ let is : Some x ≡ Some e = rw yes_ at f in let same_ : x ≡ e = cc in subst (λ (y : Entry). p y ≡ false) same_ a.0
      | inr no_ ↦ found-not p q xs e a.1 (rw no_ at f)
    ]

pub none-let_go : (p : Entry → Bool) (r : ℕ) (hs : Past) → list_any p hs ≡ false → list_any p (let_go r hs) ≡ false
none-let_go p r [] h = refl
none-let_go p r (e ∷ hs) h =
    let a = or_parts (p e) (list_any p hs) h in
    elim (cases_Bool (takes_up r e)) [
      | inl up ↦ rw up a.1
      | inr other ↦ rw (other, a.0) (none-let_go p r hs a.1)
    ]

-- every frame was offered, and none is loaded
pub record AllOffered (s : Setting) (P : Past) : Type 0 where
  pub all : next_index P ≡ length s.ids
  pub none : list_any is_loaded (hands P) ≡ false

pub all-offered : (s : Setting) (P : Past) → is_legal s P ≡ true → is_closed P ≡ true → AllOffered s P
all-offered s [] h c = absurd (false≢true c)
all-offered s (Close r ∷ P) h c =
    let f = ((row_laws.close s P r).0 (row_of s (Close r) P (λ d. refl) h)).1 in
    record { all = f.offered; none = f.unloaded }
all-offered s (Load r k b n f g x ∷ P) h c =
    let i = all-offered s P (and_parts (is_legal s P) _ h).0 c in
    let l = ((row_laws.load s P r k b n f g x).0 (row_of s (Load r k b n f g x) P (λ d. refl) h)).0 in
    absurd (omega (arith, i.all, l.in_turn, l.some))
all-offered s (LoadRefused r k n z ∷ P) h c =
    let i = all-offered s P (and_parts (is_legal s P) _ h).0 c in
    let l = ((row_laws.load_refused s P r k n z).0 (row_of s (LoadRefused r k n z) P (λ d. refl) h)).0 in
    absurd (omega (arith, i.all, l.in_turn, l.some))
all-offered s (Reclaim r ∷ P) h c =
    let legal = (and_parts (is_legal s P) _ h).0 in
    let i = all-offered s P legal c in
    let f = (row_laws.reclaim s P r).0 (row_of s (Reclaim r) P (λ d. refl) h) in
    let other = found-not is_loaded (takes_up r) (hands P) f.holds.0 i.none f.holds.1 in
    record {
      all = index_laws.reclaim_other s r f.holds.0 P legal f.holds.1 other ∙ i.all;
      none = none-let_go is_loaded r (hands P) i.none;
    }
all-offered s (Take r v m k ∷ P) h c =
    let i = all-offered s P (and_parts (is_legal s P) _ h).0 c in
    record { all = index_laws.others (Take r v m k) P refl ∙ i.all; none = none-let_go is_loaded r (hands P) i.none }
all-offered s (TakeBlock f x r v m k b n g ∷ P) h c =
    let i = all-offered s P (and_parts (is_legal s P) _ h).0 c in
    record { all = index_laws.others (TakeBlock f x r v m k b n g) P refl ∙ i.all; none = none-let_go is_loaded r (hands P) i.none }
all-offered s (Save r v m k g ∷ P) h c =
    let i = all-offered s P (and_parts (is_legal s P) _ h).0 c in
    record { all = index_laws.others (Save r v m k g) P refl ∙ i.all; none = none-let_go is_loaded r (hands P) i.none }
all-offered s (Issue r k ∷ P) h c =
    let i = all-offered s P (and_parts (is_legal s P) _ h).0 c in
    record { all = index_laws.others (Issue r k) P refl ∙ i.all; none = none-let_go is_loaded r (hands P) i.none }
all-offered s (Put r v m k f ∷ P) h c =
    let i = all-offered s P (and_parts (is_legal s P) _ h).0 c in
    record { all = index_laws.others (Put r v m k f) P refl ∙ i.all; none = none-let_go is_loaded r (hands P) i.none }
all-offered s (Saved r v m k ∷ P) h c =
    let i = all-offered s P (and_parts (is_legal s P) _ h).0 c in
    record { all = index_laws.others (Saved r v m k) P refl ∙ i.all; none = none-let_go is_loaded r (hands P) i.none }
all-offered s (e ∷ P) h c =
    let i = all-offered s P (and_parts (is_legal s P) _ h).0 c in
    record { all = index_laws.others e P refl ∙ i.all; none = i.none }

-- what has ended stays so
pub ended-on : (u : ℕ) (e : Entry) (P : Past) → has_ended u P ≡ true → has_ended u (e ∷ P) ≡ true
ended-on u e P h =
    elim (cases_Bool (eqb u 0)) [
      | inl driver ↦
          let was : is_closed P ≡ true = rw driver at h in rw driver (elim (cases_Bool (closes e)) [ inl now_ ↦ rw now_ refl | inr not_ ↦ rw not_ was ])
      | inr other ↦
          let was : is_settled u P ≡ true = rw other at h in rw other (elim (cases_Bool (settles u e)) [ inl now_ ↦ rw now_ refl | inr not_ ↦ rw not_ was ])
    ]

pub input-ended : (s : Setting) (P : Past) (v : ℕ) → is_legal s P ≡ true → is_settled v P ≡ true → has_ended (node s v).input P ≡ true
input-ended s [] v h c = absurd (false≢true c)
input-ended s (Settle r w ∷ P) v h c =
    elim (cases_Bool (eqb w v)) [
      | inl here ↦
          let f = ((row_laws.settle s P r w).0 (row_of s (Settle r w) P (λ d. refl) h)).1 in
          ended-on (node s v).input (Settle r w) P (subst (λ (u : ℕ). has_ended (node s u).input P ≡ true) (eqb-true w v here) f.input)
      | inr away ↦ ended-on (node s v).input (Settle r w) P (input-ended s P v (and_parts (is_legal s P) _ h).0 (rw away at c))
    ]
input-ended s (e ∷ P) v h c = ended-on (node s v).input e P (input-ended s P v (and_parts (is_legal s P) _ h).0 c)

-- a reclaim offers none
next-back : (s : Setting) (r : ℕ) (e : Entry) (P : Past) → is_legal s (Reclaim r ∷ P) ≡ true → hand r P ≡ Some e → next_index (Reclaim r ∷ P) ≤ next_index P
next-back s r (Load q k b n f g x) P h held = omega (arith, index_laws.reclaim s r q k b n f g x P h held)
next-back s r (Take q v m k) P h held = omega (arith, index_laws.reclaim_other s r (Take q v m k) P (and_parts (is_legal s P) _ h).0 held refl)
next-back s r (TakeBlock f x q v m k b n g) P h held =
    omega (arith, index_laws.reclaim_other s r (TakeBlock f x q v m k b n g) P (and_parts (is_legal s P) _ h).0 held refl)
next-back s r e P h held = omega (arith, index_laws.reclaim_other s r e P (and_parts (is_legal s P) _ h).0 held refl)

-- no frame beyond the stack is offered
pub next-most : (s : Setting) (P : Past) → is_legal s P ≡ true → next_index P ≤ length s.ids
next-most s [] h = omega arith
next-most s (Load r k b n f g x ∷ P) h =
    let l = ((row_laws.load s P r k b n f g x).0 (row_of s (Load r k b n f g x) P (λ d. refl) h)).0 in
    omega (arith, index_laws.load s r k b n f g x P h, l.in_turn, l.some)
next-most s (LoadRefused r k n z ∷ P) h =
    let l = ((row_laws.load_refused s P r k n z).0 (row_of s (LoadRefused r k n z) P (λ d. refl) h)).0 in
    omega (arith, index_laws.load_refused s r k n z P h, l.in_turn, l.some)
next-most s (Reclaim r ∷ P) h =
    let legal = (and_parts (is_legal s P) _ h).0 in
    let f = (row_laws.reclaim s P r).0 (row_of s (Reclaim r) P (λ d. refl) h) in
    omega (arith, next-back s r f.holds.0 P h f.holds.1, next-most s P legal)
next-most s (e ∷ P) h = omega (arith, index_laws.others e P refl, next-most s P (and_parts (is_legal s P) _ h).0)
