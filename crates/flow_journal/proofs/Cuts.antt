-- The moves of a log are cut by the kinds of its entries, in one way, and what a role has in hand depends on its own moves.
use Rattle.std.proofs.Common.{◌≡◌, ℕ, Bool, true, false, not, ◌&&◌, cond, eqb, List, [], ◌∷◌, ◌++◌, refl, sym, ap, ◌∙◌, subst, inl, inr, append_assoc}
use Rattle.std.specs.Prelude.{filter, reverse, drop}
use Rattle.std.specs.List.{find, list_all}
use Rattle.std.proofs.lemmas.Bool.{and_parts, and_from, false≢true, true≢false, eqb-true, cases_Bool}
use Rattle.std.proofs.lemmas.List.{append-nil, reverse-append, reverse-reverse}
use Rattle.std.proofs.lemmas.List.Elements.{filter-append}
use Rattle.flow_journal.specs.declared.entry.Entry.{Entry}
use Rattle.flow_journal.specs.declared.entry.Entry.TheVariants.{Load, Tick, Issue, Emit, Accept, Full, Take, TakeBlock, Put, SortDrop, Save, Saved, Reclaim}
use Rattle.flow_journal.specs.Setting.{Setting}
use Rattle.flow_journal.specs.Pasts.{Past}
use Rattle.flow_journal.specs.Hands.{takes_up, let_go, hands, hand}
use Rattle.flow_journal.specs.FirstEntries.{first}
use Rattle.flow_journal.specs.Following.{owed}
use Rattle.flow_journal.specs.Histories.{next, answers, is_nothing, is_history}
use Rattle.flow_journal.specs.Moves.{onto, follow, is_move, are_moves, all_of}
use Rattle.flow_journal.specs.RowLaws.{begins}
use Rattle.flow_journal.specs.MoveLists.{joined, cut, moves, is_some_of, names, move_role, role_moves}
use Rattle.flow_journal.proofs.Rows.{row_laws}
use Rattle.flow_journal.proofs.AsMoves.{moves_of}
use Rattle.flow_journal.proofs.Hands.{takes_up-one}

-- NO ENTRY IS LOST

all_of-joined : (e : Entry) (ms : List (List Entry)) → all_of (joined e ms) ≡ e ∷ all_of ms
all_of-joined e [] = refl
all_of-joined e ([] ∷ ms) = refl
all_of-joined e ((d ∷ m) ∷ ms) =
    elim (begins d) as (λ b. all_of (cond b ((e ∷ []) ∷ (d ∷ m) ∷ ms) ((e ∷ d ∷ m) ∷ ms)) ≡ e ∷ all_of ((d ∷ m) ∷ ms)) [ true ↦ refl | false ↦ refl ]

all_of-cut : (es : List Entry) → all_of (cut es) ≡ es
all_of-cut [] = refl
all_of-cut (e ∷ es) = all_of-joined e (cut es) ∙ ap (λ (ds : List Entry). e ∷ ds) (all_of-cut es)

onto-reverse : (es : List Entry) (P : Past) → onto es P ≡ reverse es ++ P
onto-reverse [] P = refl
onto-reverse (e ∷ es) P =
    onto-reverse es (e ∷ P) ∙ (sym (append_assoc (reverse es) (e ∷ []) P) ∙ ap (λ (ds : List Entry). ds ++ P) (sym (reverse-append (e ∷ []) es)))

-- the past of the entries that stand the other way round
onto-nil : (es : List Entry) → onto es [] ≡ reverse es
onto-nil es = onto-reverse es [] ∙ append-nil (reverse es)

pub whole : (P : Past) → onto (all_of (moves P)) [] ≡ P
whole P = ap (λ (es : List Entry). onto es []) (all_of-cut (reverse P)) ∙ (onto-nil (reverse P) ∙ reverse-reverse P)

-- ONE WAY TO CUT

-- only the first entry of the move begins one
abbrev IsCutMove : List Entry → Type 0
IsCutMove [] = ⊥
IsCutMove (e ∷ es) = (begins e ≡ true) × (list_all (λ d. not (begins d)) es ≡ true)

abbrev AreCutMoves : List (List Entry) → Type 0
AreCutMoves [] = Unit {0}
AreCutMoves (m ∷ ms) = IsCutMove m × AreCutMoves ms

-- a move begins with each cut
cut-head : (d : Entry) (ds : List Entry) → (m : List Entry) × (ms : List (List Entry)) × (cut (d ∷ ds) ≡ (d ∷ m) ∷ ms)
cut-head d ds = joined-head d (cut ds)
  where
    joined-head : (d : Entry) (ms : List (List Entry)) → (m : List Entry) × (ns : List (List Entry)) × (joined d ms ≡ (d ∷ m) ∷ ns)
    joined-head d [] = ([], [], refl)
    joined-head d ([] ∷ ms) = ([], ms, refl)
    joined-head d ((c ∷ m) ∷ ms) =
        elim (cases_Bool (begins c)) [
          | inl first_one ↦ ([], (c ∷ m) ∷ ms, rw first_one refl)
          | inr later ↦ (c ∷ m, ms, rw later refl)
        ]

cut-apart : (e d : Entry) (ds : List Entry) → begins d ≡ true → cut (e ∷ d ∷ ds) ≡ (e ∷ []) ∷ cut (d ∷ ds)
cut-apart e d ds h =
    let head = cut-head d ds in
    ap (joined e) head.2
    ∙ (ap (λ (b : Bool). cond b ((e ∷ []) ∷ (d ∷ head.0) ∷ head.1) ((e ∷ d ∷ head.0) ∷ head.1)) h ∙ ap (λ (ms : List (List Entry)). (e ∷ []) ∷ ms) (sym head.2))

-- nothing follows, or an entry that begins a move
abbrev BeginsOrEnds : List Entry → Type 0
BeginsOrEnds [] = Unit {0}
BeginsOrEnds (d ∷ ds) = begins d ≡ true

cut-move : (e : Entry) (es ds : List Entry) → list_all (λ d. not (begins d)) es ≡ true → BeginsOrEnds ds → cut (e ∷ es ++ ds) ≡ (e ∷ es) ∷ cut ds
cut-move e [] [] none h = refl
cut-move e [] (d ∷ ds) none h = cut-apart e d ds h
cut-move e (x ∷ xs) ds none h =
    let p = and_parts (not (begins x)) (list_all (λ d. not (begins d)) xs) none in
    ap (joined e) (cut-move x xs ds p.1 h) ∙ goes_on (begins x) p.0
  where
    goes_on : (b : Bool) → not b ≡ true → cond b ((e ∷ []) ∷ (x ∷ xs) ∷ cut ds) ((e ∷ x ∷ xs) ∷ cut ds) ≡ (e ∷ x ∷ xs) ∷ cut ds
    goes_on true n = absurd (false≢true n)
    goes_on false n = refl

begins-rest : (ms : List (List Entry)) → AreCutMoves ms → BeginsOrEnds (all_of ms)
begins-rest [] h = tt
begins-rest ([] ∷ ms) h = absurd h.0
begins-rest ((e ∷ es) ∷ ms) h = h.0.0

cut-all : (ms : List (List Entry)) → AreCutMoves ms → cut (all_of ms) ≡ ms
cut-all [] h = refl
cut-all ([] ∷ ms) h = absurd h.0
cut-all ((e ∷ es) ∷ ms) h = cut-move e es (all_of ms) h.0.1 (begins-rest ms h.1) ∙ ap (λ (ns : List (List Entry)). (e ∷ es) ∷ ns) (cut-all ms h.1)

-- LEGAL MOVES

first-begins : (s : Setting) (P : Past) (e : Entry) → first s P e ≡ true → begins e ≡ true
first-begins s P e h =
    elim (cases_Bool (begins e)) [
      | inl is ↦ is
      | inr never ↦ absurd (true≢false (sym h ∙ row_laws.no_others s P e never))
    ]

-- what begins a move answers nothing
no_answer : (s : Setting) (P : Past) (e d : Entry) → begins e ≡ true → answers s P e d ≡ false
no_answer s P (Tick t) d h = absurd (false≢true h)
no_answer s P (Emit v m k why) d h = absurd (false≢true h)
no_answer s P (Accept v m k) d h = absurd (false≢true h)
no_answer s P (Full v m k) d h = absurd (false≢true h)
no_answer s P (SortDrop v m k) d h = absurd (false≢true h)
no_answer s P _ d h = refl

pub answer-follows : (s : Setting) (P : Past) (e d : Entry) → answers s P e d ≡ true → begins e ≡ false
answer-follows s P e d h =
    elim (cases_Bool (begins e)) [
      | inl is ↦ absurd (true≢false (sym h ∙ no_answer s P e d is))
      | inr never ↦ never
    ]

next-follows : (s : Setting) (P : Past) (e : Entry) (ds : List Entry) → not (is_nothing ds) ≡ true → next s P e ds ≡ true → begins e ≡ false
next-follows s P e [] some h = absurd (false≢true some)
next-follows s P e (d ∷ ds) some h = answer-follows s P e d h

follow-none : (s : Setting) (P : Past) (es : List Entry) → follow s P es ≡ true → list_all (λ d. not (begins d)) es ≡ true
follow-none s P [] h = refl
follow-none s P (e ∷ es) h =
    let p = and_parts (not (is_nothing (owed s P)) && next s P e (owed s P)) (follow s (e ∷ P) es) h in
    let q = and_parts (not (is_nothing (owed s P))) (next s P e (owed s P)) p.0 in
    and_from _ _ (ap not (next-follows s P e (owed s P) q.0 q.1)) (follow-none s (e ∷ P) es p.1)

cut-legal : (s : Setting) (P : Past) (m : List Entry) → is_move s P m ≡ true → IsCutMove m
cut-legal s P [] h = absurd (false≢true h)
cut-legal s P (e ∷ es) h =
    let p = and_parts (first s P e) (follow s (e ∷ P) es) h in
    (first-begins s P e p.0, follow-none s (e ∷ P) es p.1)

cut-legals : (s : Setting) (P : Past) (ms : List (List Entry)) → are_moves s P ms ≡ true → AreCutMoves ms
cut-legals s P [] h = tt
cut-legals s P (m ∷ ms) h =
    let p = and_parts (is_move s P m) (are_moves s (onto m P) ms) h in
    (cut-legal s P m p.0, cut-legals s (onto m P) ms p.1)

pub one_way : (s : Setting) (P : Past) (ms : List (List Entry)) → are_moves s [] ms ≡ true → onto (all_of ms) [] ≡ P → ms ≡ moves P
one_way s P ms h is =
    let back : reverse P ≡ all_of ms = ap (λ (Q : Past). reverse Q) (sym is ∙ onto-nil (all_of ms)) ∙ reverse-reverse (all_of ms) in
    sym (cut-all ms (cut-legals s [] ms h)) ∙ ap cut (sym back)

pub cut-history : (s : Setting) (P : Past) → is_history s P ≡ true → are_moves s [] (moves P) ≡ true
cut-history s P h =
    let ms = moves_of s P h in
    subst (λ (ns : List (List Entry)). are_moves s [] ns ≡ true) (one_way s P ms.0 ms.1 ms.2) ms.1

-- HANDS

-- whoever lets go loses the newest
own-let_go : (r : ℕ) (hs : List Entry) → filter (takes_up r) (let_go r hs) ≡ drop 1 (filter (takes_up r) hs)
own-let_go r [] = refl
own-let_go r (e ∷ hs) =
    elim (cases_Bool (takes_up r e)) [
      | inl here ↦ rw here refl
      | inr away ↦ rw (away, away) (own-let_go r hs)
    ]

-- and nobody else anything
other-let_go : (q r : ℕ) (hs : List Entry) → eqb q r ≡ false → filter (takes_up r) (let_go q hs) ≡ filter (takes_up r) hs
other-let_go q r [] ne = refl
other-let_go q r (e ∷ hs) ne =
    elim (cases_Bool (takes_up q e)) [
      | inl here ↦ let other : takes_up r e ≡ false = takes_up-one q r e here ∙ ne in rw (here, other) refl
      | inr away ↦ elim (cases_Bool (takes_up r e)) [
        | inl up ↦ rw (away, up) (ap (λ (ds : List Entry). e ∷ ds) (other-let_go q r hs ne))
        | inr off ↦ rw (away, off) (other-let_go q r hs ne)
      ]
    ]

same-let_go : (q r : ℕ) (hs ks : List Entry) → filter (takes_up r) hs ≡ filter (takes_up r) ks
    → filter (takes_up r) (let_go q hs) ≡ filter (takes_up r) (let_go q ks)
same-let_go q r hs ks h =
    elim (cases_Bool (eqb q r)) [
      | inl here ↦
          subst (λ (p : ℕ). filter (takes_up r) (let_go p hs) ≡ filter (takes_up r) (let_go p ks)) (sym (eqb-true q r here))
          (own-let_go r hs ∙ (ap (λ (ds : List Entry). drop 1 ds) h ∙ sym (own-let_go r ks)))
      | inr away ↦ other-let_go q r hs away ∙ (h ∙ sym (other-let_go q r ks away))
    ]

one_more_hand : (r : ℕ) (e : Entry) (hs ks : List Entry) → filter (takes_up r) hs ≡ filter (takes_up r) ks
    → filter (takes_up r) (e ∷ hs) ≡ filter (takes_up r) (e ∷ ks)
one_more_hand r e hs ks h =
    elim (takes_up r e) as (λ b. cond b (e ∷ filter (takes_up r) hs) (filter (takes_up r) hs) ≡ cond b (e ∷ filter (takes_up r) ks) (filter (takes_up r) ks)) [
      | true ↦ ap (λ (ds : List Entry). e ∷ ds) h
      | false ↦ h
    ]

same-hands : (r : ℕ) (e : Entry) (P Q : Past) → filter (takes_up r) (hands P) ≡ filter (takes_up r) (hands Q)
    → filter (takes_up r) (hands (e ∷ P)) ≡ filter (takes_up r) (hands (e ∷ Q))
same-hands r (Load q k b n f g x) P Q h = one_more_hand r (Load q k b n f g x) (let_go q (hands P)) (let_go q (hands Q)) (same-let_go q r (hands P) (hands Q) h)
same-hands r (Take q v m k) P Q h = one_more_hand r (Take q v m k) (let_go q (hands P)) (let_go q (hands Q)) (same-let_go q r (hands P) (hands Q) h)
same-hands r (TakeBlock f x q v m k b n g) P Q h =
    one_more_hand r (TakeBlock f x q v m k b n g) (let_go q (hands P)) (let_go q (hands Q)) (same-let_go q r (hands P) (hands Q) h)
same-hands r (Save q v m k g) P Q h = one_more_hand r (Save q v m k g) (let_go q (hands P)) (let_go q (hands Q)) (same-let_go q r (hands P) (hands Q) h)
same-hands r (Issue q k) P Q h = same-let_go q r (hands P) (hands Q) h
same-hands r (Put q v m k f) P Q h = same-let_go q r (hands P) (hands Q) h
same-hands r (Saved q v m k) P Q h = same-let_go q r (hands P) (hands Q) h
same-hands r (Reclaim q) P Q h = same-let_go q r (hands P) (hands Q) h
same-hands r _ P Q h = h

-- an entry that doesn't name the role leaves its hands
other-hands : (r : ℕ) (e : Entry) (P : Past) → names r e ≡ false → filter (takes_up r) (hands (e ∷ P)) ≡ filter (takes_up r) (hands P)
other-hands r (Load q k b n f g x) P h = rw h (other-let_go q r (hands P) h)
other-hands r (Take q v m k) P h = rw h (other-let_go q r (hands P) h)
other-hands r (TakeBlock f x q v m k b n g) P h = rw h (other-let_go q r (hands P) h)
other-hands r (Save q v m k g) P h = rw h (other-let_go q r (hands P) h)
other-hands r (Issue q k) P h = other-let_go q r (hands P) h
other-hands r (Put q v m k f) P h = other-let_go q r (hands P) h
other-hands r (Saved q v m k) P h = other-let_go q r (hands P) h
other-hands r (Reclaim q) P h = other-let_go q r (hands P) h
other-hands r _ P h = refl

named-hands : (r : ℕ) (P : Past) → filter (takes_up r) (hands P) ≡ filter (takes_up r) (hands (filter (names r) P))
named-hands r [] = refl
named-hands r (e ∷ P) =
    elim (cases_Bool (names r e)) [
      | inl own ↦ rw own (same-hands r e P (filter (names r) P) (named-hands r P))
      | inr other ↦ rw other (other-hands r e P other ∙ named-hands r P)
    ]

find-filtered : (p : Entry → Bool) (hs : List Entry) → find p hs ≡ find p (filter p hs)
find-filtered p [] = refl
find-filtered p (e ∷ hs) =
    elim (cases_Bool (p e)) [
      | inl here ↦ rw (here, here) refl
      | inr away ↦ rw away (find-filtered p hs)
    ]

-- logs with the same entries of a role leave it the same hand
same-hand : (r : ℕ) (P Q : Past) → filter (names r) P ≡ filter (names r) Q → hand r P ≡ hand r Q
same-hand r P Q h =
    let hs : filter (takes_up r) (hands P) ≡ filter (takes_up r) (hands Q) =
    named-hands r P ∙ (ap (λ (R : Past). filter (takes_up r) (hands R)) h ∙ sym (named-hands r Q)) in
    find-filtered (takes_up r) (hands P) ∙ (ap (λ (ds : List Entry). find (takes_up r) ds) hs ∙ sym (find-filtered (takes_up r) (hands Q)))

-- OWN MOVES

nameless : (r : ℕ) (e : Entry) → not (begins e) ≡ true → names r e ≡ false
nameless r (Tick t) h = refl
nameless r (Emit v m k why) h = refl
nameless r (Accept v m k) h = refl
nameless r (Full v m k) h = refl
nameless r (SortDrop v m k) h = refl
nameless r _ h = absurd (false≢true h)

no_names : (r : ℕ) (es : List Entry) → list_all (λ d. not (begins d)) es ≡ true → filter (names r) es ≡ []
no_names r [] h = refl
no_names r (e ∷ es) h =
    let p = and_parts (not (begins e)) (list_all (λ d. not (begins d)) es) h in
    rw (nameless r e p.0) (no_names r es p.1)

-- only the first entry of each may begin a move
abbrev AreTails : List (List Entry) → Type 0
AreTails [] = Unit {0}
AreTails ([] ∷ ms) = AreTails ms
AreTails ((e ∷ es) ∷ ms) = (list_all (λ d. not (begins d)) es ≡ true) × AreTails ms

tails-joined : (e : Entry) (ms : List (List Entry)) → AreTails ms → AreTails (joined e ms)
tails-joined e [] h = (refl, tt)
tails-joined e ([] ∷ ms) h = (refl, h)
tails-joined e ((d ∷ m) ∷ ms) h =
    elim (cases_Bool (begins d)) [
      | inl apart ↦ rw apart (refl, h)
      | inr on ↦ rw on (and_from _ _ (ap not on) h.0, h.1)
    ]

tails-cut : (es : List Entry) → AreTails (cut es)
tails-cut [] = tt
tails-cut (e ∷ es) = tails-joined e (cut es) (tails-cut es)

own-entries : (r : ℕ) (ms : List (List Entry)) → AreTails ms
    → filter (names r) (all_of (filter (λ m. is_some_of r (move_role m)) ms)) ≡ filter (names r) (all_of ms)
own-entries r [] h = refl
own-entries r ([] ∷ ms) h = own-entries r ms h
own-entries r ((e ∷ es) ∷ ms) h =
    let rest = own-entries r ms h.1 in
    let ours : List (List Entry) = filter (λ m. is_some_of r (move_role m)) ms in
    let keep : Bool → List (List Entry) = λ b. cond b ((e ∷ es) ∷ ours) ours in
    elim (cases_Bool (names r e)) [
      | inl own ↦
          let is : keep (names r e) ≡ (e ∷ es) ∷ ours = ap keep own in
          ap (λ (ns : List (List Entry)). filter (names r) (all_of ns)) is
          ∙ (filter-append (names r) (e ∷ es) (all_of ours)
          ∙ (ap (λ (ds : List Entry). filter (names r) (e ∷ es) ++ ds) rest ∙ sym (filter-append (names r) (e ∷ es) (all_of ms))))
      | inr other ↦
          let is : keep (names r e) ≡ ours = ap keep other in
          let none : filter (names r) (e ∷ es) ≡ [] = ap (λ (b : Bool). cond b (e ∷ filter (names r) es) (filter (names r) es)) other ∙ no_names r es h.0 in
          ap (λ (ns : List (List Entry)). filter (names r) (all_of ns)) is
          ∙ (rest ∙ sym (filter-append (names r) (e ∷ es) (all_of ms) ∙ ap (λ (ds : List Entry). ds ++ filter (names r) (all_of ms)) none))
    ]

filter-reverse : (p : Entry → Bool) (es : List Entry) → filter p (reverse es) ≡ reverse (filter p es)
filter-reverse p [] = refl
filter-reverse p (e ∷ es) =
    ap (λ (ds : List Entry). filter p ds) (reverse-append (e ∷ []) es)
    ∙ (filter-append p (reverse es) (e ∷ []) ∙ (ap (λ (ds : List Entry). ds ++ filter p (e ∷ [])) (filter-reverse p es) ∙ last (p e)))
  where
    last : (b : Bool) → reverse (filter p es) ++ cond b (e ∷ []) [] ≡ reverse (cond b (e ∷ filter p es) (filter p es))
    last true = sym (reverse-append (e ∷ []) (filter p es))
    last false = append-nil (reverse (filter p es))

pub own_hand : (P : Past) (r : ℕ) → hand r P ≡ hand r (onto (all_of (role_moves r P)) [])
own_hand P r =
    let ours : List Entry = all_of (role_moves r P) in
    let entries : filter (names r) ours ≡ filter (names r) (reverse P) =
    own-entries r (moves P) (tails-cut (reverse P)) ∙ ap (λ (es : List Entry). filter (names r) es) (all_of-cut (reverse P)) in
    let same : filter (names r) (onto ours []) ≡ filter (names r) P =
    ap (λ (Q : Past). filter (names r) Q) (onto-nil ours) ∙ (filter-reverse (names r) ours ∙ (ap (λ (es : List Entry). reverse es) entries
    ∙ (sym (filter-reverse (names r) (reverse P)) ∙ ap (λ (Q : Past). filter (names r) Q) (reverse-reverse P)))) in
    same-hand r P (onto ours []) (sym same)
