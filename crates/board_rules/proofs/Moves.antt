-- What a call adds is one move of its role, and a role's moves tell its hand.
use Rattle.std.proofs.Common.{◌≡◌, ◌≢◌, ℕ, zero, suc, true, false, eqb, List, [], ◌∷◌, ◌++◌, refl, sym, ap, ◌∙◌, Option, Some, None, inl, inr}
use Rattle.std.proofs.lemmas.Bool.{and_parts, and_from, false≢true, cases_Bool, eq-eqb, ne_eqb}
use Rattle.std.specs.List.{list_all}
use Rattle.std.proofs.lemmas.List.{append_assoc}
use Rattle.flow_journal.specs.declared.entry.Entry.{Entry}
use Rattle.flow_journal.specs.declared.entry.Entry.TheVariants.{Tick, Emit, Accept, Full, SortDrop, Save}
use Rattle.flow_journal.specs.Setting.{Setting}
use Rattle.flow_journal.specs.Pasts.{Past}
use Rattle.flow_journal.specs.Hands.{hand}
use Rattle.flow_journal.specs.Queued.{has_room}
use Rattle.flow_journal.specs.Following.{calls_for}
use Rattle.board_rules.specs.declared.told.Told.{Told}
use Rattle.board_rules.specs.States.{BoardState, past, plain, own, lent_to}
use Rattle.flow_journal.specs.MoveLists.{begun_by, is_some_of}
use Rattle.board_rules.specs.Movers.{first_some, mover, moves_by, IsMoveOf}
use Rattle.board_rules.specs.Moving.{made_of, with_all, moved_at}
use Rattle.board_rules.specs.RunLaws.{saves_as}
use Rattle.board_rules.specs.MoveLaws.{MovedIsOneMove, MovesAreAdded, MovesTellHand}
use Rattle.board_rules.proofs.Moved.{fits, all_fit, fit-first, fit-next}
use Rattle.board_rules.proofs.Own.{own-tells}

-- WHAT FOLLOWS BEGINS NO MOVE

made-begins : (s : Setting) (tick n : ℕ) (P : Past) (d : Entry) → fits n d ≡ true → begun_by (made_of s tick P d) ≡ None
made-begins s tick n P (Tick t) h = refl
made-begins s tick n P (Emit v m k why) h = refl
made-begins s tick n P (Accept v m k) h =
    elim (cases_Bool (has_room s P v)) [
      | inl room ↦ rw room refl
      | inr full ↦ rw full refl
    ]
made-begins s tick n P (Full v m k) h = refl
made-begins s tick n P (SortDrop v m k) h = refl
made-begins s tick n P _ h = absurd (false≢true h)

abbrev pub GoOn : BoardState → Type 0
GoOn [] = Unit {0}
GoOn (t ∷ b) = (begun_by t.entry ≡ None) × GoOn b

go-append : (xs ys : BoardState) → GoOn xs → GoOn ys → GoOn (xs ++ ys)
unfolding GoOn
go-append [] ys p q = q
go-append (x ∷ xs) ys p q = (p.0, go-append xs ys p.1 q)

-- these entries were put before the board, and begin no move
pub record Followed (b new : BoardState) : Type 0 where
  pub more : BoardState
  pub whole : new ≡ more ++ b
  pub go : GoOn more

pub followed : (s : Setting) (tick n : ℕ) (ds : List Entry) (b : BoardState) → all_fit n ds ≡ true → Followed b (with_all s tick n ds b)
unfolding GoOn
followed s tick zero ds b h = record { more = []; whole = refl; go = tt }
followed s tick (suc n) [] b h = record { more = []; whole = refl; go = tt }
followed s tick (suc n) (d ∷ ds) b h =
    let p = and_parts (fits (suc n) d) (all_fit (suc n) ds) h in
    let e = made_of s tick (past b) d in
    let mid : BoardState = with_all s tick n (calls_for s (past b) e) (plain e ∷ b) in
    let inner = followed s tick n (calls_for s (past b) e) (plain e ∷ b) (fit-next s tick n (past b) d p.0) in
    let outer = followed s tick (suc n) ds mid p.1 in
    let here : GoOn (plain e ∷ []) = (made-begins s tick (suc n) (past b) d p.0, tt) in
    record {
      more = outer.more ++ (inner.more ++ plain e ∷ []);
      whole =
          outer.whole
          ∙ (ap (λ (xs : BoardState). outer.more ++ xs) (inner.whole ∙ sym (append_assoc inner.more (plain e ∷ []) b))
          ∙ sym (append_assoc outer.more (inner.more ++ plain e ∷ []) b));
      go = go-append outer.more (inner.more ++ plain e ∷ []) outer.go (go-append inner.more (plain e ∷ []) inner.go here);
    }

pub one-move : (r : ℕ) (more : BoardState) (t : Told) → GoOn more → begun_by t.entry ≡ Some r → IsMoveOf r (more ++ t ∷ [])
unfolding GoOn
one-move r [] t g h = h
one-move r (u ∷ []) t g h = (g.0, h)
one-move r (u ∷ w ∷ more) t g h = (g.0, one-move r (w ∷ more) t g.1 h)

-- what the move that begins with an entry adds
pub followers : (s : Setting) (tick : ℕ) (t : Told) (b : BoardState) → Followed (t ∷ b) (moved_at s tick t b)
followers s tick t b = followed s tick 3 (calls_for s (past b) t.entry) (t ∷ b) (fit-first s (past b) t.entry)

pub moved-one : MovedIsOneMove
moved-one s b tick t r h =
    let f = followers s tick t b in
    (f.more ++ t ∷ [], f.whole ∙ sym (append_assoc f.more (t ∷ []) b), one-move r f.more t f.go h)

no-save : (o : Option ℕ) (e : Entry) → begun_by e ≡ None → saves_as o e ≡ true
no-save (Some r) (Save q v m k g) h = cc
no-save None (Save q v m k g) h = cc
no-save o _ h = refl

pub saves-one : (o : Option ℕ) (more : BoardState) (t : Told) → GoOn more → saves_as o t.entry ≡ true → list_all (saves_as o) (past (more ++ t ∷ [])) ≡ true
unfolding GoOn
saves-one o [] t g h = and_from _ _ h refl
saves-one o (u ∷ more) t g h = and_from _ _ (no-save o u.entry g.0) (saves-one o more t g.1 h)

-- THE MOVES OF A ROLE

mover-added : (q : ℕ) (t : Told) (added b : BoardState) → IsMoveOf q (t ∷ added) → mover ((t ∷ added) ++ b) ≡ Some q
mover-added q t [] b h = rw h refl
mover-added q t (u ∷ added) b h = rw h.0 (mover-added q u added b h.1)

rest-of-move : (q : ℕ) (t : Told) (added : BoardState) → IsMoveOf q (t ∷ added) → IsMoveOf q added
rest-of-move q t [] h = tt
rest-of-move q t (u ∷ added) h = h.1

own-added : (q : ℕ) (added b : BoardState) → IsMoveOf q added → moves_by q (added ++ b) ≡ added ++ moves_by q b
own-added q [] b h = refl
own-added q (t ∷ added) b h =
    let m : first_some (begun_by t.entry) (mover (added ++ b)) ≡ Some q = mover-added q t added b h in
    let same_ : eqb q q ≡ true = eq-eqb q q refl in
    rw (m, same_) (ap (λ (xs : BoardState). t ∷ xs) (own-added q added b (rest-of-move q t added h)))

others-added : (q r : ℕ) (added b : BoardState) → r ≢ q → IsMoveOf q added → moves_by r (added ++ b) ≡ moves_by r b
others-added q r [] b ne h = refl
others-added q r (t ∷ added) b ne h =
    let m : first_some (begun_by t.entry) (mover (added ++ b)) ≡ Some q = mover-added q t added b h in
    let other : eqb q r ≡ false = ne_eqb q r (λ e. ne (sym e)) in
    rw (m, other) (others-added q r added b ne (rest-of-move q t added h))

pub moves-added : MovesAreAdded
moves-added added b q h = (own-added q added b h, λ r ne. others-added q r added b ne h)

role-first : (r : ℕ) (o m : Option ℕ) → is_some_of r o ≡ true → is_some_of r (first_some o m) ≡ true
role-first r (Some q) m h = h
role-first r None m h = absurd (false≢true h)

-- the entries that begin the role's moves are all among its moves
own-moves : (r : ℕ) (b : BoardState) → own r (moves_by r b) ≡ own r b
own-moves r [] = refl
own-moves r (t ∷ b) =
    elim (cases_Bool (is_some_of r (begun_by t.entry))) [
      | inl yes_ ↦ rw (role-first r (begun_by t.entry) (mover b) yes_, yes_) (ap (λ (xs : BoardState). t ∷ xs) (own-moves r b))
      | inr no_ ↦ elim (cases_Bool (is_some_of r (first_some (begun_by t.entry) (mover b)))) [
        | inl goes ↦ rw (goes, no_) (own-moves r b)
        | inr other ↦ rw (other, no_) (own-moves r b)
      ]
    ]

pub moves-tell : MovesTellHand
moves-tell b r =
    let one = own-tells (moves_by r b) r in
    let all = own-tells b r in (
      sym one.0 ∙ (ap (λ (xs : BoardState). hand r (past xs)) (own-moves r b) ∙ all.0),
      sym one.1 ∙ (ap (λ (xs : BoardState). lent_to r xs) (own-moves r b) ∙ all.1),
    )
