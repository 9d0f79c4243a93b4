-- A role's own entries tell its hand.
use Rattle.std.proofs.Common.{◌≡◌, ◌≢◌, ℕ, true, false, [], ◌∷◌, refl, sym, ap, ◌∙◌, subst, eqb, Option, Some, None, inl, inr}
use Rattle.std.specs.Prelude.{find, filter, if◌then◌else◌}
use Rattle.std.proofs.lemmas.Bool.{false≢true, true≢false, cases_Bool, eqb-true, eq-eqb}
use Rattle.flow_journal.specs.declared.entry.Entry.{Entry}
use Rattle.flow_journal.specs.declared.entry.Entry.TheVariants.{Load, LoadRefused, Tick, Issue, Emit, Accept, Full, Take, TakeBlock, PoolDrop, Put}
use Rattle.flow_journal.specs.declared.entry.Entry.TheVariants.{SortDrop, Settle, Save, Saved, Close, Leave, Reclaim}
use Rattle.flow_journal.specs.Pasts.{Past}
use Rattle.flow_journal.specs.Hands.{takes_up, hands, let_go}
use Rattle.board_rules.specs.States.{BoardState, past, own, lent_to}
use Rattle.flow_journal.specs.MoveLists.{begun_by, is_some_of}
use Rattle.board_rules.specs.MoveLaws.{OwnTellsHand}

abbrev first_in : Past → Option Entry
first_in [] = None
first_in (e ∷ P) = Some e

abbrev rest_of : Past → Past
rest_of [] = []
rest_of (e ∷ P) = P

-- those that give the role a hand
abbrev mine : ℕ → Past → Past
mine r H = filter (takes_up r) H

found-first : (r : ℕ) (H : Past) → find (takes_up r) H ≡ first_in (mine r H)
found-first r [] = refl
found-first r (e ∷ H) =
    elim (cases_Bool (takes_up r e)) [
      | inl up ↦ rw up refl
      | inr other ↦ rw other (found-first r H)
    ]

-- an entry gives a hand to one role
up-one : (q r : ℕ) (e : Entry) → takes_up q e ≡ true → takes_up r e ≡ true → q ≡ r
up-one q r (Load w k b n f g x) h i = sym (eqb-true w q h) ∙ eqb-true w r i
up-one q r (Take w v m k) h i = sym (eqb-true w q h) ∙ eqb-true w r i
up-one q r (TakeBlock f x w v m k b n g) h i = sym (eqb-true w q h) ∙ eqb-true w r i
up-one q r (Save w v m k g) h i = sym (eqb-true w q h) ∙ eqb-true w r i
up-one q r _ h i = absurd (false≢true h)

let-go-other : (q r : ℕ) (H : Past) → q ≢ r → mine r (let_go q H) ≡ mine r H
let-go-other q r [] ne = refl
let-go-other q r (e ∷ H) ne =
    elim (cases_Bool (takes_up q e)) [
      | inl up ↦ elim (cases_Bool (takes_up r e)) [
        | inl both ↦ absurd (ne (up-one q r e up both))
        | inr other ↦ rw (up, other) refl
      ]
      | inr no_ ↦ elim (cases_Bool (takes_up r e)) [
        | inl up ↦ rw (no_, up) (ap (λ (xs : Past). e ∷ xs) (let-go-other q r H ne))
        | inr other ↦ rw (no_, other) (let-go-other q r H ne)
      ]
    ]

let-go-own : (r : ℕ) (H : Past) → mine r (let_go r H) ≡ rest_of (mine r H)
let-go-own r [] = refl
let-go-own r (e ∷ H) =
    elim (cases_Bool (takes_up r e)) [
      | inl up ↦ rw up refl
      | inr other ↦ rw (other, other) (let-go-own r H)
    ]

-- an entry that begins a move of the role
ends-own : (q r : ℕ) (P Q : Past) → eqb q r ≡ true → mine r (hands Q) ≡ mine r (hands P) → mine r (let_go q (hands Q)) ≡ mine r (let_go q (hands P))
ends-own q r P Q h e =
    subst (λ (w : ℕ). mine r (let_go w (hands Q)) ≡ mine r (let_go w (hands P))) (sym (eqb-true q r h))
    (let-go-own r (hands Q) ∙ (ap rest_of e ∙ sym (let-go-own r (hands P))))

keeps : (r : ℕ) (d : Entry) (H I : Past) → mine r H ≡ mine r I → mine r (d ∷ H) ≡ mine r (d ∷ I)
keeps r d H I e = ap (λ (xs : Past). if takes_up r d then d ∷ xs else xs) e

own-step : (r : ℕ) (d : Entry) (P Q : Past) → is_some_of r (begun_by d) ≡ true → mine r (hands Q) ≡ mine r (hands P)
    → mine r (hands (d ∷ Q)) ≡ mine r (hands (d ∷ P))
own-step r (Load q k b n f g x) P Q h e = keeps r (Load q k b n f g x) (let_go q (hands Q)) (let_go q (hands P)) (ends-own q r P Q h e)
own-step r (Take q v m k) P Q h e = keeps r (Take q v m k) (let_go q (hands Q)) (let_go q (hands P)) (ends-own q r P Q h e)
own-step r (TakeBlock f x q v m k b n g) P Q h e = keeps r (TakeBlock f x q v m k b n g) (let_go q (hands Q)) (let_go q (hands P)) (ends-own q r P Q h e)
own-step r (Save q v m k g) P Q h e = keeps r (Save q v m k g) (let_go q (hands Q)) (let_go q (hands P)) (ends-own q r P Q h e)
own-step r (Issue q k) P Q h e = ends-own q r P Q h e
own-step r (Put q v m k f) P Q h e = ends-own q r P Q h e
own-step r (Saved q v m k) P Q h e = ends-own q r P Q h e
own-step r (Reclaim q) P Q h e = ends-own q r P Q h e
own-step r (LoadRefused q k n z) P Q h e = e
own-step r (PoolDrop q v m k n z) P Q h e = e
own-step r (Settle q v) P Q h e = e
own-step r (Close q) P Q h e = e
own-step r (Leave q) P Q h e = e
own-step r _ P Q h e = absurd (false≢true h)

-- and one that doesn't
other-end : (q r : ℕ) (P : Past) → eqb q r ≡ false → mine r (let_go q (hands P)) ≡ mine r (hands P)
other-end q r P h = let-go-other q r (hands P) (λ e. true≢false (sym (eq-eqb q r e) ∙ h))

other-step : (r : ℕ) (d : Entry) (P : Past) → is_some_of r (begun_by d) ≡ false → mine r (hands (d ∷ P)) ≡ mine r (hands P)
other-step r (Load q k b n f g x) P h = rw h (other-end q r P h)
other-step r (Take q v m k) P h = rw h (other-end q r P h)
other-step r (TakeBlock f x q v m k b n g) P h = rw h (other-end q r P h)
other-step r (Save q v m k g) P h = rw h (other-end q r P h)
other-step r (Issue q k) P h = other-end q r P h
other-step r (Put q v m k f) P h = other-end q r P h
other-step r (Saved q v m k) P h = other-end q r P h
other-step r (Reclaim q) P h = other-end q r P h
other-step r (LoadRefused q k n z) P h = refl
other-step r (Tick t) P h = refl
other-step r (Emit v m k why) P h = refl
other-step r (Accept v m k) P h = refl
other-step r (Full v m k) P h = refl
other-step r (PoolDrop q v m k n z) P h = refl
other-step r (SortDrop v m k) P h = refl
other-step r (Settle q v) P h = refl
other-step r (Close q) P h = refl
other-step r (Leave q) P h = refl

mine-own : (b : BoardState) (r : ℕ) → mine r (hands (past (own r b))) ≡ mine r (hands (past b))
mine-own [] r = refl
mine-own (t ∷ b) r =
    elim (cases_Bool (is_some_of r (begun_by t.entry))) [
      | inl yes_ ↦ rw yes_ (own-step r t.entry (past b) (past (own r b)) yes_ (mine-own b r))
      | inr no_ ↦ rw no_ (mine-own b r ∙ sym (other-step r t.entry (past b) no_))
    ]

not-up : (r : ℕ) (d : Entry) → is_some_of r (begun_by d) ≡ false → takes_up r d ≡ false
not-up r (Load q k b n f g x) h = h
not-up r (Take q v m k) h = h
not-up r (TakeBlock f x q v m k b n g) h = h
not-up r (Save q v m k g) h = h
not-up r _ h = refl

lent-own : (b : BoardState) (r : ℕ) → lent_to r (own r b) ≡ lent_to r b
lent-own [] r = refl
lent-own (t ∷ b) r =
    elim (cases_Bool (is_some_of r (begun_by t.entry))) [
      | inl yes_ ↦ elim (cases_Bool (takes_up r t.entry)) [
        | inl up ↦ rw (yes_, up) refl
        | inr other ↦ rw (yes_, other) (lent-own b r)
      ]
      | inr no_ ↦ rw (no_, not-up r t.entry no_) (lent-own b r)
    ]

pub own-tells : OwnTellsHand
own-tells b r =
    (found-first r (hands (past (own r b))) ∙ (ap first_in (mine-own b r) ∙ sym (found-first r (hands (past b)))), lent-own b r)
