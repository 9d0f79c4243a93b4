-- Who saves, and what the drain's own moves tell of it.
use Rattle.std.proofs.Common.{◌≡◌, ℕ, Bool, true, false, not, ◌&&◌, eqb, List, [], ◌∷◌, ◌++◌, refl, sym, ap, ◌∙◌, subst, Option, Some, None, inl, inr}
use Rattle.std.specs.Prelude.{find}
use Rattle.std.specs.List.{list_all}
use Rattle.std.proofs.lemmas.Bool.{and_parts, and_from, cases_Bool, false≢true, eqb-true, eq-eqb}
use Rattle.flow_journal.specs.declared.entry.Entry.{Entry}
use Rattle.flow_journal.specs.declared.entry.Entry.TheVariants.{Save, Saved, Reclaim}
use Rattle.flow_journal.specs.Setting.{Setting, last_role}
use Rattle.flow_journal.specs.Pasts.{Past, frame, comes_at}
use Rattle.flow_journal.specs.Hands.{takes_up, let_go, is_free, standing, is_piece}
use Rattle.flow_journal.specs.Unsaved.{saves, standing_saves}
use Rattle.flow_journal.specs.Histories.{is_legal}
use Rattle.flow_journal.proofs.Found.{found_up}
use Rattle.flow_journal.proofs.Hands.{row_of}
use Rattle.flow_journal.proofs.Counts.{hand-standing}
use Rattle.flow_journal.proofs.Pieces.{saves-let_go}
use Rattle.flow_journal.proofs.Jobs.{reclaim_hand}
use Rattle.flow_journal.proofs.Rows.{row_laws}
use Rattle.board_rules.specs.declared.told.Told.{Told}
use Rattle.board_rules.specs.States.{BoardState, past}
use Rattle.flow_journal.specs.MoveLists.{begun_by, is_some_of}
use Rattle.board_rules.specs.Movers.{first_some, mover, moves_by}
use Rattle.flow_roles.specs.Passes.{saved_by_drain, only_drain_saves}
use Rattle.flow_saver.specs.GivenBack.{given_back}

find-all : (p q : Entry → Bool) (es : List Entry) (e : Entry) → list_all p es ≡ true → find q es ≡ Some e → p e ≡ true
find-all p q [] e all h = let none_ : None ≡ Some e = h in absurd (cc)
find-all p q (x ∷ es) e all h =
    let parts = and_parts (p x) (list_all p es) all in
    elim (cases_Bool (q x)) [
      | inl yes_ ↦ let is : Some x ≡ Some e = rw yes_ at h in let same : x ≡ e = cc in subst (λ (y : Entry). p y ≡ true) same parts.0
      | inr no_ ↦ find-all p q es e parts.1 (rw no_ at h)
    ]

let_go-all : (p : Entry → Bool) (r : ℕ) (es : List Entry) → list_all p es ≡ true → list_all p (let_go r es) ≡ true
let_go-all p r [] all = refl
let_go-all p r (x ∷ es) all =
    let parts = and_parts (p x) (list_all p es) all in
    elim (cases_Bool (takes_up r x)) [ inl yes_ ↦ rw yes_ parts.1 | inr no_ ↦ rw no_ (and_from _ _ parts.0 (let_go-all p r es parts.1)) ]

-- what holds of all entries holds of those that stand
standing-all : (p : Entry → Bool) (P : Past) → list_all p P ≡ true → list_all p (standing P) ≡ true
standing-all p [] all = refl
standing-all p (Reclaim r ∷ P) all =
    let parts = and_parts (p (Reclaim r)) (list_all p P) all in
    let rest = standing-all p P parts.1 in
    elim (cases_Bool (is_free r P)) [
      | inl yes_ ↦ rw yes_ (and_from _ _ parts.0 rest)
      | inr no_ ↦ rw no_ (and_from _ _ parts.0 (let_go-all p r (standing P) rest))
    ]
standing-all p (e ∷ P) all = let parts = and_parts (p e) (list_all p P) all in and_from _ _ parts.0 (standing-all p P parts.1)

-- the hand of another role is no piece
no-piece : (s : Setting) (r v : ℕ) (e : Entry) → saved_by_drain s e ≡ true → takes_up r e ≡ true → eqb r (last_role s) ≡ false → is_piece v e ≡ false
no-piece s r v (Save q w m k g) drain up other =
    let is : q ≡ last_role s = eqb-true q (last_role s) drain in
    let mine : q ≡ r = eqb-true q r up in
    absurd (false≢true (sym other ∙ eq-eqb r (last_role s) (sym mine ∙ is)))
no-piece s r v _ drain up other = refl

reclaims-others : (s : Setting) (r : ℕ) (P : Past) → is_legal s (Reclaim r ∷ P) ≡ true → eqb r (last_role s) ≡ false
reclaims-others s r P h =
    let row = row_of s (Reclaim r) P (λ d. refl) h in
    let parts = and_parts (not (is_free r P) && not (eqb r (last_role s))) _ row in
    let two = and_parts (not (is_free r P)) (not (eqb r (last_role s))) parts.0 in
    elim (cases_Bool (eqb r (last_role s))) [ inl yes_ ↦ absurd (false≢true (rw yes_ at two.1)) | inr no_ ↦ no_ ]

-- where the drain alone saves, each save stands
pub saves-stand : (s : Setting) (v : ℕ) (P : Past) → is_legal s P ≡ true → only_drain_saves s P ≡ true → standing_saves v P ≡ saves v P
saves-stand s v [] h d = refl
saves-stand s v (Reclaim r ∷ P) h d =
    let legal = (and_parts (is_legal s P) _ h).0 in
    let before = saves-stand s v P legal d in
    let e = reclaim_hand s r P h in
    let taken = hand-standing s P r e.0 legal e.1 in
    let drain = find-all (saved_by_drain s) (takes_up r) (standing P) e.0 (standing-all (saved_by_drain s) P d) taken in
    let piece = no-piece s r v e.0 drain (found_up (takes_up r) e.0 (standing P) taken) (reclaims-others s r P h) in
    elim (cases_Bool (is_free r P)) [ inl yes_ ↦ rw yes_ before | inr no_ ↦ rw no_ (saves-let_go v r e.0 (standing P) taken piece ∙ before) ]
saves-stand s v (Save r w m k g ∷ P) h d =
    ap (comes_at v w (frame m k))
    (saves-stand s v P (and_parts (is_legal s P) _ h).0 (and_parts (saved_by_drain s (Save r w m k g)) (only_drain_saves s P) d).1)
saves-stand s v (e ∷ P) h d = saves-stand s v P (and_parts (is_legal s P) _ h).0 (and_parts (saved_by_drain s e) (only_drain_saves s P) d).1

-- and is among the drain's own moves
saves-then : (v : ℕ) (e : Entry) (P Q : Past) → saves v P ≡ saves v Q → saves v (e ∷ P) ≡ saves v (e ∷ Q)
saves-then v (Save r w m k g) P Q same = ap (comes_at v w (frame m k)) same
saves-then v _ P Q same = same

saves-skip : (s : Setting) (v : ℕ) (e : Entry) (o : Option ℕ) (P : Past) → saved_by_drain s e ≡ true
    → is_some_of (last_role s) (first_some (begun_by e) o) ≡ false → saves v (e ∷ P) ≡ saves v P
saves-skip s v (Save r w m k g) o P drain not_mine = absurd (false≢true (sym not_mine ∙ drain))
saves-skip s v _ o P drain not_mine = refl

pub saves-mine : (s : Setting) (v : ℕ) (b : BoardState) → only_drain_saves s (past b) ≡ true → saves v (past b) ≡ saves v (past (moves_by (last_role s) b))
saves-mine s v [] d = refl
saves-mine s v (t ∷ b) d =
    let parts = and_parts (saved_by_drain s t.entry) (only_drain_saves s (past b)) d in
    let before = saves-mine s v b parts.1 in
    elim (cases_Bool (is_some_of (last_role s) (first_some (begun_by t.entry) (mover b)))) [
      | inl mine ↦ rw mine (saves-then v t.entry (past b) (past (moves_by (last_role s) b)) before)
      | inr other ↦ rw other (saves-skip s v t.entry (mover b) (past b) parts.0 other ∙ before)
    ]

-- WHAT WAS GIVEN BACK

given-then : (v : ℕ) (e : Entry) (P Q : Past) → given_back v P ≡ given_back v Q → given_back v (e ∷ P) ≡ given_back v (e ∷ Q)
given-then v (Saved r w m k) P Q same = ap (comes_at v w (frame m k)) same
given-then v _ P Q same = same

given-skip : (s : Setting) (v : ℕ) (e : Entry) (o : Option ℕ) (P : Past) → is_legal s (e ∷ P) ≡ true → only_drain_saves s P ≡ true
    → is_some_of (last_role s) (first_some (begun_by e) o) ≡ false → given_back v (e ∷ P) ≡ given_back v P
given-skip s v (Saved r w m k) o P h d not_mine =
    let piece = (row_laws.saved s P r w m k).0 (row_of s (Saved r w m k) P (λ d. refl) h) in
    let taken = hand-standing s P r (Save r w m k piece.0) (and_parts (is_legal s P) _ h).0 piece.1 in
    let drain = find-all (saved_by_drain s) (takes_up r) (standing P) (Save r w m k piece.0) (standing-all (saved_by_drain s) P d) taken in
    absurd (false≢true (sym not_mine ∙ drain))
given-skip s v _ o P h d not_mine = refl

-- the drain gave it back
pub given-mine : (s : Setting) (v : ℕ) (b : BoardState) → is_legal s (past b) ≡ true → only_drain_saves s (past b) ≡ true
    → given_back v (past b) ≡ given_back v (past (moves_by (last_role s) b))
given-mine s v [] h d = refl
given-mine s v (t ∷ b) h d =
    let drained = (and_parts (saved_by_drain s t.entry) (only_drain_saves s (past b)) d).1 in
    let before = given-mine s v b (and_parts (is_legal s (past b)) _ h).0 drained in
    elim (cases_Bool (is_some_of (last_role s) (first_some (begun_by t.entry) (mover b)))) [
      | inl mine ↦ rw mine (given-then v t.entry (past b) (past (moves_by (last_role s) b)) before)
      | inr other ↦ rw other (given-skip s v t.entry (mover b) (past b) h drained other ∙ before)
    ]

-- the place of the log before this entry, at which just this was given back
pub record GivenAt (b : BoardState) (e : Entry) (front : Past) : Type 0 where
  pub newer : Past
  pub before : BoardState
  pub log : past b ≡ newer ++ e ∷ past before
  pub given : (v : ℕ) → given_back v (past before) ≡ given_back v front

one-more : (t : Told) (b : BoardState) (e : Entry) (front : Past) → GivenAt b e front → GivenAt (t ∷ b) e front
one-more t b e front g =
    record { newer = t.entry ∷ g.newer; before = g.before; log = ap (λ (P : Past). t.entry ∷ P) g.log; given = g.given }

-- an entry of the drain's own moves stands on the board, with what was given back before it
pub given-at : (s : Setting) (b : BoardState) → is_legal s (past b) ≡ true → only_drain_saves s (past b) ≡ true → (later : Past) (e : Entry) (front : Past)
    → past (moves_by (last_role s) b) ≡ later ++ e ∷ front → GivenAt b e front
given-at s [] h d [] e front is = absurd (cc)
given-at s [] h d (u ∷ later) e front is = absurd (cc)
given-at s (t ∷ b) h d [] e front is =
    let legal = (and_parts (is_legal s (past b)) _ h).0 in
    let drained = (and_parts (saved_by_drain s t.entry) (only_drain_saves s (past b)) d).1 in
    elim (cases_Bool (is_some_of (last_role s) (first_some (begun_by t.entry) (mover b)))) [
      | inl mine ↦
          let all : t.entry ∷ past (moves_by (last_role s) b) ≡ e ∷ front = rw mine at is in
          let head : t.entry ≡ e = cc in
          let tail : past (moves_by (last_role s) b) ≡ front = cc in
          record {
            newer = [];
            before = b;
            log = ap (λ (x : Entry). x ∷ past b) head;
            given = λ v. given-mine s v b legal drained ∙ ap (given_back v) tail;
          }
      | inr other ↦ one-more t b e front (given-at s b legal drained [] e front (rw other at is))
    ]
given-at s (t ∷ b) h d (u ∷ later) e front is =
    let legal = (and_parts (is_legal s (past b)) _ h).0 in
    let drained = (and_parts (saved_by_drain s t.entry) (only_drain_saves s (past b)) d).1 in
    elim (cases_Bool (is_some_of (last_role s) (first_some (begun_by t.entry) (mover b)))) [
      | inl mine ↦
          let all : t.entry ∷ past (moves_by (last_role s) b) ≡ u ∷ (later ++ e ∷ front) = rw mine at is in
          let tail : past (moves_by (last_role s) b) ≡ later ++ e ∷ front = cc in
          one-more t b e front (given-at s b legal drained later e front tail)
      | inr other ↦ one-more t b e front (given-at s b legal drained (u ∷ later) e front (rw other at is))
    ]
