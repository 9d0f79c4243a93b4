-- Whose moves the entries of a board are, and what moves after all roles have ended leave of them.
use Rattle.std.proofs.Common.{◌≡◌, ◌≢◌, ℕ, suc, ◌+◌, ◌<◌, ◌≤◌, Bool, true, false, eqb, List, [], ◌∷◌, ◌++◌, map, length, refl, sym, ap, ◌∙◌, subst, arith}
use Rattle.std.proofs.Common.{Option, Some, None, inl, inr}
use Rattle.std.specs.List.{list_all, list_any}
use Rattle.std.proofs.lemmas.Bool.{and_parts, and_from, false≢true, true≢false, cases_Bool, eqb-true, ltb-true, lt-ltb}
use Rattle.nd_base.specs.declared.frame.FrameName.{FrameName}
use Rattle.flow_journal.specs.declared.entry.Entry.{Entry}
use Rattle.flow_journal.specs.declared.entry.Entry.TheVariants.{Load, LoadRefused, Issue, Take, TakeBlock, PoolDrop, Put, Settle, Save, Saved, Close, Reclaim}
use Rattle.flow_journal.specs.Setting.{Setting, last_role}
use Rattle.flow_journal.specs.Pasts.{Past}
use Rattle.flow_journal.specs.Hands.{hand, is_free}
use Rattle.board_rules.specs.declared.answers.Left.{Left}
use Rattle.board_rules.specs.States.{BoardState, past, plain, loses}
use Rattle.flow_journal.specs.MoveLists.{begun_by, is_some_of}
use Rattle.board_rules.specs.Movers.{first_some, mover, moves_by}
use Rattle.board_rules.specs.Storage.{lost_of}
use Rattle.board_rules.proofs.Moves.{moved-one, moves-added}
use Rattle.flow_roles.specs.TurnPasses.{BeginsWith}
use Rattle.flow_drain.specs.Drains.{is_drains, DrainMoves, taken, taken_back}
use Rattle.flow_drain.proofs.Growth.{begins-on}
use Rattle.flow_run.specs.Strangers.{entries_by}
use Rattle.flow_run.specs.Ticks.{is_after, AfterMoves}

-- THE LOG ALONE TELLS WHOSE MOVES ITS ENTRIES ARE

mover-plain : (b : BoardState) → mover (map plain (past b)) ≡ mover b
mover-plain [] = refl
mover-plain (t ∷ b) = ap (first_some (begun_by t.entry)) (mover-plain b)

pub entries-are : (r : ℕ) (b : BoardState) → entries_by r (past b) ≡ past (moves_by r b)
entries-are r [] = refl
entries-are r (t ∷ b) =
    let same = mover-plain b in
    elim (cases_Bool (is_some_of r (first_some (begun_by t.entry) (mover b)))) [
      | inl yes_ ↦ rw (same, yes_) (ap (λ (P : Past). t.entry ∷ P) (entries-are r b))
      | inr no_ ↦ rw (same, no_) (entries-are r b)
    ]

-- LISTS OF ENTRIES

pub all-weaker : (p q : Entry → Bool) (P : Past) → ((e : Entry) → p e ≡ true → q e ≡ true) → list_all p P ≡ true → list_all q P ≡ true
all-weaker p q [] goes h = refl
all-weaker p q (e ∷ P) goes h = let a = and_parts (p e) (list_all p P) h in and_from _ _ (goes e a.0) (all-weaker p q P goes a.1)

pub all-append : (p : Entry → Bool) (P Q : Past) → list_all p P ≡ true → list_all p Q ≡ true → list_all p (P ++ Q) ≡ true
all-append p [] Q h k = k
all-append p (e ∷ P) Q h k = let a = and_parts (p e) (list_all p P) h in and_from _ _ a.0 (all-append p P Q a.1 k)

pub any-later : (q : Entry → Bool) (P Q : Past) → list_any q Q ≡ true → list_any q (P ++ Q) ≡ true
any-later q [] Q h = h
any-later q (e ∷ P) Q h =
    elim (cases_Bool (q e)) [
      | inl yes_ ↦ rw yes_ refl
      | inr no_ ↦ rw no_ (any-later q P Q h)
    ]

pub none-before : (q : Entry → Bool) (P Q : Past) → list_any q (P ++ Q) ≡ false → list_any q Q ≡ false
none-before q P Q h =
    elim (cases_Bool (list_any q Q)) [
      | inl yes_ ↦ absurd (true≢false (sym (any-later q P Q yes_) ∙ h))
      | inr no_ ↦ no_
    ]

pub none-append : (q : Entry → Bool) (P Q : Past) → list_any q P ≡ false → list_any q Q ≡ false → list_any q (P ++ Q) ≡ false
none-append q [] Q h k = k
none-append q (e ∷ P) Q h k =
    elim (cases_Bool (q e)) [
      | inl yes_ ↦ let some : true ≡ false = rw yes_ at h in absurd (true≢false some)
      | inr no_ ↦ rw no_ (none-append q P Q (rw no_ at h) k)
    ]

-- MOVES OF THE LAST ROLE, AND OF OTHERS

-- moves of one role, one entry each
pub single-moves : (q : ℕ) (added b : BoardState) → list_all (λ (e : Entry). is_some_of q (begun_by e)) (past added) ≡ true
    → (moves_by q (added ++ b) ≡ added ++ moves_by q b) × ((r : ℕ) → r ≢ q → moves_by r (added ++ b) ≡ moves_by r b)
single-moves q [] b h = (refl, λ r ne. refl)
single-moves q (t ∷ added) b h =
    let a = and_parts (is_some_of q (begun_by t.entry)) (list_all (λ (e : Entry). is_some_of q (begun_by e)) (past added)) h in
    let rest = single-moves q added b a.1 in
    let one = moves-added (t ∷ []) (added ++ b) q (role-is (begun_by t.entry) a.0) in
    (one.0 ∙ ap (λ (c : BoardState). t ∷ c) rest.0, λ r ne. one.1 r ne ∙ rest.1 r ne)
  where
    role-is : (o : Option ℕ) → is_some_of q o ≡ true → o ≡ Some q
    role-is (Some p) is = ap (λ (x : ℕ). Some x) (eqb-true p q is)
    role-is None is = absurd (false≢true is)

-- MOVES AFTER ALL ROLES

by-role : (s : Setting) (r : ℕ) → eqb r (last_role s) ≡ true → r ≤ last_role s
by-role s r h = omega (arith, eqb-true r (last_role s) h)

-- each begins with an entry of a role of the run
after-role : (s : Setting) (e : Entry) → is_after s e ≡ true → (q : ℕ) × (begun_by e ≡ Some q) × (q ≤ last_role s)
after-role s (Load r k b n f g x) h = (r, refl, by-role s r h)
after-role s (LoadRefused r k n z) h = (r, refl, by-role s r h)
after-role s (Issue r k) h = (r, refl, by-role s r h)
after-role s (Take r v m k) h = (r, refl, by-role s r h)
after-role s (TakeBlock f x r v m k b n g) h = (r, refl, by-role s r h)
after-role s (PoolDrop r v m k n z) h = (r, refl, by-role s r h)
after-role s (Put r v m k f) h = (r, refl, by-role s r h)
after-role s (Settle r v) h = (r, refl, by-role s r h)
after-role s (Close r) h = (r, refl, by-role s r h)
after-role s (Save r v m k g) h = (r, refl, by-role s r h)
after-role s (Saved r v m k) h = (r, refl, by-role s r h)
after-role s (Reclaim r) h = (r, refl, let below : r < last_role s = ltb-true r (last_role s) h in omega (arith, below))
after-role s _ h = absurd (false≢true h)

pub after-none : (s : Setting) (tick : ℕ) (b : BoardState) → AfterMoves s tick b b
after-none s tick b = AfterMoves.none b refl

pub after-on : (s : Setting) (tick : ℕ) (a b c : BoardState) → AfterMoves s tick a b → AfterMoves s tick b c → AfterMoves s tick a c
after-on s tick a b _ m (AfterMoves.none c is) = subst (λ (x : BoardState). AfterMoves s tick a x) (sym is) m
after-on s tick a b _ m (AfterMoves.more d c t at n e l is) = AfterMoves.more d c t at (after-on s tick a b d m n) e l is

-- the old board stands at the beginning of the new one
pub after-begins : (s : Setting) (tick : ℕ) (old new : BoardState) → AfterMoves s tick old new → BeginsWith new old
after-begins s tick old _ (AfterMoves.none new is) = ([], is)
after-begins s tick old _ (AfterMoves.more b new t at m e l is) =
    let r = after-role s t.entry e in
    let one = moved-one s b at t r.0 r.1 in
    begins-on old b new (after-begins s tick old b m) (one.0, is ∙ one.1)

-- a role beyond the last one makes no move
pub after-others : (s : Setting) (tick r : ℕ) (old new : BoardState) → last_role s < r → AfterMoves s tick old new → moves_by r new ≡ moves_by r old
after-others s tick r old _ high (AfterMoves.none new is) = ap (moves_by r) is
after-others s tick r old _ high (AfterMoves.more b new t at m e l is) =
    let q = after-role s t.entry e in
    let one = moved-one s b at t q.0 q.1 in
    let ne : r ≢ q.0 = λ same. omega (arith, same, q.2, high) in
    ap (moves_by r) (is ∙ one.1) ∙ ((moves-added one.0 b q.0 one.2).1 r ne ∙ after-others s tick r old b high m)

drains-after : (s : Setting) (e : Entry) → is_drains s e ≡ true → is_after s e ≡ true
drains-after s (Reclaim r) h = absurd (false≢true h)
drains-after s (Save r v m k g) h = absurd (false≢true h)
drains-after s (Saved r v m k) h = absurd (false≢true h)
drains-after s e h = h

-- what the drain does is of this kind
pub after-drain : (s : Setting) (tick : ℕ) (old new : BoardState) → DrainMoves s tick old new → AfterMoves s tick old new
after-drain s tick old _ (DrainMoves.none new is) = AfterMoves.none new is
after-drain s tick old _ (DrainMoves.more b new t at m d l k is) = AfterMoves.more b new t at (after-drain s tick old b m) (drains-after s t.entry d) l is

-- and so it is where hands are taken back
after-taken : {F B O : Type 0} (name_of : F → FrameName) (s : Setting) (tick r : ℕ) (left : Left F B O) (b : BoardState) → r < last_role s
    → AfterMoves s tick b (taken name_of s r left b)
after-taken name_of s tick r left b low =
    elim (cases_Bool (is_free r (past b))) [
      | inl free ↦ rw free (AfterMoves.none b refl)
      | inr held ↦
          rw held (AfterMoves.more b _ (loses r (lost_of name_of (past b) (hand r (past b)) left)) 0 (AfterMoves.none b refl) (lt-ltb r (last_role s) low)
          (λ no. absurd (false≢true no)) refl)
    ]

pub after-back : {F B O : Type 0} (name_of : F → FrameName) (s : Setting) (tick r : ℕ) (ends : List (Left F B O)) (b : BoardState)
    → r + length ends ≤ last_role s
    → AfterMoves s tick b (taken_back name_of s r ends b)
after-back name_of s tick r [] b few = AfterMoves.none b refl
after-back {F} {B} {O} name_of s tick r (left ∷ ends) b few =
    let next : BoardState = taken {F = F} {B = B} {O = O} name_of s r left b in
    after-on s tick b next (taken_back {F = F} {B = B} {O = O} name_of s (suc r) ends next)
    (after-taken name_of s tick r left b (omega (arith, few)))
    (after-back name_of s tick (suc r) ends next (omega (arith, few)))
