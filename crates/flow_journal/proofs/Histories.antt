-- A legal history grows by moves, and each front of it is legal.
use Rattle.std.proofs.Common.{◌≡◌, true, not, ◌&&◌, List, [], ◌∷◌, ◌++◌, refl, subst}
use Rattle.flow_journal.specs.HistoryLaws.{IsListOfMoves}
use Rattle.std.proofs.lemmas.Bool.{and_parts, and_from, false≢true}
use Rattle.flow_journal.specs.declared.entry.Entry.{Entry}
use Rattle.flow_journal.specs.FirstEntries.{first}
use Rattle.flow_journal.specs.Following.{owed}
use Rattle.flow_journal.specs.Histories.{next, is_legal, is_history, is_nothing}
use Rattle.flow_journal.specs.Pushes.{is_nothing-true}
use Rattle.flow_journal.specs.Moves.{onto, follow, is_move, are_moves, all_of}
use Rattle.flow_journal.specs.Pasts.{Past}
use Rattle.flow_journal.specs.Setting.{Setting}

-- one more entry, in its place
pub legal-more : (s : Setting) (P : Past) (e : Entry) → is_legal s P ≡ true → next s P e (owed s P) ≡ true → is_legal s (e ∷ P) ≡ true
legal-more s P e h n = and_from _ _ h n

-- where nothing is owed a first entry may come
pub legal-first : (s : Setting) (P : Past) (e : Entry) → is_history s P ≡ true → first s P e ≡ true → is_legal s (e ∷ P) ≡ true
legal-first s P e h f =
    let p = and_parts (is_legal s P) (is_nothing (owed s P)) h in
    and_from _ _ p.0 (rw (is_nothing-true (owed s P) p.1) f)

legal-follow : (s : Setting) (P : Past) (es : List Entry) → is_legal s P ≡ true → follow s P es ≡ true → is_history s (onto es P) ≡ true
legal-follow s P [] h f = and_from _ _ h f
legal-follow s P (e ∷ es) h f =
    let p = and_parts (not (is_nothing (owed s P)) && next s P e (owed s P)) (follow s (e ∷ P) es) f in
    legal-follow s (e ∷ P) es (legal-more s P e h (and_parts _ _ p.0).1) p.1

-- a legal move after a legal history makes a legal history
pub history-move : (s : Setting) (P : Past) (m : List Entry) → is_history s P ≡ true → is_move s P m ≡ true → is_history s (onto m P) ≡ true
history-move s P [] h f = absurd (false≢true f)
history-move s P (e ∷ es) h f =
    let p = and_parts (first s P e) (follow s (e ∷ P) es) f in
    legal-follow s (e ∷ P) es (legal-first s P e h p.0) p.1

-- each front of a legal history is legal, but for what its last move still owes; newer: what came after it
pub legal-front : (s : Setting) (newer P : Past) → is_legal s (newer ++ P) ≡ true → is_legal s P ≡ true
legal-front s [] P h = h
legal-front s (e ∷ newer) P h = legal-front s newer P (and_parts _ _ h).0

-- cut at a move's end it is a legal history
pub history-front : (s : Setting) (newer P : Past) → is_history s (newer ++ P) ≡ true → owed s P ≡ [] → is_history s P ≡ true
history-front s newer P h o = and_from _ _ (legal-front s newer P (and_parts _ _ h).0) (rw o refl)

pub onto-append : (m n : List Entry) (P : Past) → onto (m ++ n) P ≡ onto n (onto m P)
onto-append [] n P = refl
onto-append (e ∷ m) n P = onto-append m n (e ∷ P)

-- lists of moves are legal histories
pub history-moves : (s : Setting) (P : Past) (ms : List (List Entry)) → is_history s P ≡ true → are_moves s P ms ≡ true
    → is_history s (onto (all_of ms) P) ≡ true
history-moves s P [] h f = h
history-moves s P (m ∷ ms) h f =
    let p = and_parts (is_move s P m) (are_moves s (onto m P) ms) f in
    rw onto-append (history-moves s (onto m P) ms (history-move s P m h p.0) p.1)

pub moves-history : (s : Setting) (P : Past) → IsListOfMoves s P → is_history s P ≡ true
moves-history s P h = subst (λ (Q : Past). is_history s Q ≡ true) h.2 (history-moves s [] h.0 refl h.1)
