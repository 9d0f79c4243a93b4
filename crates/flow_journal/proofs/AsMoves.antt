-- A legal history is a list of moves: the other direction of `history-moves`.
use Rattle.std.proofs.Common.{◌≡◌, Bool, true, false, not, ◌&&◌, List, [], ◌∷◌, ◌++◌, refl, sym, ap, ◌∙◌, subst, inl, inr}
use Rattle.std.proofs.lemmas.Bool.{and_parts, and_from, true≢false, cases_Bool}
use Rattle.std.proofs.lemmas.List.{append-nil}
use Rattle.flow_journal.specs.declared.entry.Entry.{Entry}
use Rattle.flow_journal.specs.Pushes.{is_nothing-true}
use Rattle.flow_journal.proofs.Histories.{onto-append, history-moves}
use Rattle.flow_journal.specs.FirstEntries.{first}
use Rattle.flow_journal.specs.Following.{owed}
use Rattle.flow_journal.specs.Histories.{next, is_legal, is_history, is_nothing}
use Rattle.flow_journal.specs.Moves.{onto, follow, is_move, are_moves, all_of}
use Rattle.flow_journal.specs.Pasts.{Past}
use Rattle.flow_journal.specs.Setting.{Setting}

-- each of these followed while something was owed
abbrev going : Setting → Past → List Entry → Bool
going s P [] = true
going s P (e ∷ es) = (not (is_nothing (owed s P)) && next s P e (owed s P)) && going s (e ∷ P) es

-- a move that may lack entries at its end
abbrev begun : Setting → Past → List Entry → Bool
begun s P [] = true
begun s P (e ∷ es) = first s P e && going s (e ∷ P) es

follow-whole : (s : Setting) (P : Past) (es : List Entry) → going s P es ≡ true → is_nothing (owed s (onto es P)) ≡ true → follow s P es ≡ true
follow-whole s P [] g n = n
follow-whole s P (e ∷ es) g n =
    let p = and_parts (not (is_nothing (owed s P)) && next s P e (owed s P)) (going s (e ∷ P) es) g in
    and_from _ _ p.0 (follow-whole s (e ∷ P) es p.1 n)

move-whole : (s : Setting) (P : Past) (e : Entry) (es : List Entry) → begun s P (e ∷ es) ≡ true
    → is_nothing (owed s (onto (e ∷ es) P)) ≡ true → is_move s P (e ∷ es) ≡ true
move-whole s P e es b n =
    let p = and_parts (first s P e) (going s (e ∷ P) es) b in
    and_from _ _ p.0 (follow-whole s (e ∷ P) es p.1 n)

going-more : (s : Setting) (P : Past) (es : List Entry) (e : Entry) → going s P es ≡ true → is_nothing (owed s (onto es P)) ≡ false
    → next s (onto es P) e (owed s (onto es P)) ≡ true → going s P (es ++ e ∷ []) ≡ true
going-more s P [] e g o n = and_from _ _ (and_from _ _ (ap not o) n) refl
going-more s P (x ∷ es) e g o n =
    let p = and_parts (not (is_nothing (owed s P)) && next s P x (owed s P)) (going s (x ∷ P) es) g in
    and_from _ _ p.0 (going-more s (x ∷ P) es e p.1 o n)

moves-more : (s : Setting) (P : Past) (ms : List (List Entry)) (m : List Entry) → are_moves s P ms ≡ true → is_move s (onto (all_of ms) P) m ≡ true
    → are_moves s P (ms ++ m ∷ []) ≡ true
moves-more s P [] m h f = and_from _ _ f refl
moves-more s P (x ∷ ms) m h f =
    let p = and_parts (is_move s P x) (are_moves s (onto x P) ms) h in
    and_from _ _ p.0 (moves-more s (onto x P) ms m p.1 (subst (λ (Q : Past). is_move s Q m ≡ true) (onto-append x (all_of ms) P) f))

all_of-more : (ms : List (List Entry)) (m : List Entry) (P : Past) → onto (all_of (ms ++ m ∷ [])) P ≡ onto m (onto (all_of ms) P)
all_of-more [] m P = ap (λ (es : List Entry). onto es P) (append-nil m)
all_of-more (x ∷ ms) m P = onto-append x (all_of (ms ++ m ∷ [])) P ∙ (all_of-more ms m (onto x P) ∙ ap (onto m) (sym (onto-append x (all_of ms) P)))

-- whole moves, and then what there is of the next one
pub record Split (s : Setting) (P : Past) : Type 0 where
  pub moves : List (List Entry)
  pub last : List Entry
  pub each : are_moves s [] moves ≡ true
  pub part : begun s (onto (all_of moves) []) last ≡ true
  pub same : onto last (onto (all_of moves) []) ≡ P
  pub owing : is_nothing (owed s P) ≡ true → last ≡ []

-- the last move as it is after one more entry
closed : (s : Setting) (P : Past) (ms : List (List Entry)) (e : Entry) (es : List Entry) → are_moves s [] ms ≡ true
    → begun s (onto (all_of ms) []) (e ∷ es) ≡ true → onto (e ∷ es) (onto (all_of ms) []) ≡ P → Split s P
closed s P ms e es h b same =
    elim (cases_Bool (is_nothing (owed s P))) [
      | inl whole ↦
          record {
            moves = ms ++ (e ∷ es) ∷ [];
            last = [];
            each =
                moves-more s [] ms (e ∷ es) h (move-whole s (onto (all_of ms) []) e es b (subst (λ (Q : Past). is_nothing (owed s Q) ≡ true) (sym same) whole));
            part = refl;
            same = all_of-more ms (e ∷ es) [] ∙ same;
            owing = λ _. refl;
          }
      | inr more ↦ record { moves = ms; last = e ∷ es; each = h; part = b; same = same; owing = λ n. absurd (true≢false (sym n ∙ more)) }
    ]

onto-last : (es : List Entry) (e : Entry) (P : Past) → onto (es ++ e ∷ []) P ≡ e ∷ onto es P
onto-last es e P = onto-append es (e ∷ []) P

one_more : (s : Setting) (P : Past) (e : Entry) (ms : List (List Entry)) (last : List Entry) → are_moves s [] ms ≡ true
    → begun s (onto (all_of ms) []) last ≡ true → onto last (onto (all_of ms) []) ≡ P → (is_nothing (owed s P) ≡ true → last ≡ [])
    → next s P e (owed s P) ≡ true → Split s (e ∷ P)
one_more s P e ms [] h b same o n =
    let Q : Past = onto (all_of ms) [] in
    let whole : is_history s Q ≡ true = history-moves s [] ms refl h in
    let none : owed s Q ≡ [] = is_nothing-true (owed s Q) (and_parts (is_legal s Q) (is_nothing (owed s Q)) whole).1 in
    let fits : next s Q e (owed s Q) ≡ true = subst (λ (R : Past). next s R e (owed s R) ≡ true) (sym same) n in
    let row : first s Q e ≡ true = subst (λ (ds : List Entry). next s Q e ds ≡ true) none fits in
    closed s (e ∷ P) ms e [] h (and_from _ _ row refl) (ap (λ (R : Past). e ∷ R) same)
one_more s P e ms (x ∷ es) h b same o n =
    elim (cases_Bool (is_nothing (owed s P))) [
      | inl whole ↦ let never : x ∷ es ≡ [] = o whole in cc
      | inr more ↦
          let Q : Past = onto (all_of ms) [] in
          let p = and_parts (first s Q x) (going s (x ∷ Q) es) b in
          let still : is_nothing (owed s (onto es (x ∷ Q))) ≡ false = subst (λ (R : Past). is_nothing (owed s R) ≡ false) (sym same) more in
          let fits : next s (onto es (x ∷ Q)) e (owed s (onto es (x ∷ Q))) ≡ true = subst (λ (R : Past). next s R e (owed s R) ≡ true) (sym same) n in
          closed s (e ∷ P) ms x (es ++ e ∷ []) h (and_from _ _ p.0 (going-more s (x ∷ Q) es e p.1 still fits))
          (onto-last es e (x ∷ Q) ∙ ap (λ (R : Past). e ∷ R) same)
    ]

pub split : (s : Setting) (P : Past) → is_legal s P ≡ true → Split s P
split s [] h = record { moves = []; last = []; each = refl; part = refl; same = refl; owing = λ _. refl }
split s (e ∷ P) h =
    let p = and_parts (is_legal s P) (next s P e (owed s P)) h in
    let t = split s P p.0 in
    one_more s P e t.moves t.last t.each t.part t.same t.owing p.1

-- a legal history is a list of moves
pub moves_of : (s : Setting) (P : Past) → is_history s P ≡ true → (ms : List (List Entry)) × (are_moves s [] ms ≡ true) × (onto (all_of ms) [] ≡ P)
moves_of s P h =
    let p = and_parts (is_legal s P) (is_nothing (owed s P)) h in
    let t = split s P p.0 in
    (t.moves, t.each, subst (λ (es : List Entry). onto es (onto (all_of t.moves) []) ≡ P) (t.owing p.1) t.same)
