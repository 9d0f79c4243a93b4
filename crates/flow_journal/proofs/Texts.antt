-- The text of one more entry.
use Rattle.std.proofs.Common.{◌≡◌, ℕ, ◌+◌, ◌≤◌, List, [], ◌∷◌, ◌++◌, length, sym, ap, ◌∙◌, arith, append_assoc, length-append, All, zero, suc}
use Rattle.std.proofs.lemmas.Grind.{flat_map-append}
use Rattle.std.proofs.lemmas.List.{append-nil}
use Rattle.std.proofs.lemmas.List.Elements.{All-append}
use Rattle.flow_journal.specs.declared.entry.Entry.{Entry}
use Rattle.flow_journal.specs.Spelling.{spelling, line, text_of}

pub text_of-more : (es : List Entry) (e : Entry) → text_of (es ++ e ∷ []) ≡ text_of es ++ line e
text_of-more es e = flat_map-append line es (e ∷ []) ∙ ap (λ (xs : List ℕ). text_of es ++ xs) (append-nil (line e))

-- the rest of a text begins with one more line
pub whole-more : (text rest after : List ℕ) (es : List Entry) (e : Entry) → text ≡ text_of es ++ rest → rest ≡ line e ++ after
    → text ≡ text_of (es ++ e ∷ []) ++ after
whole-more text rest after es e whole first =
    whole
    ∙ (ap (λ (xs : List ℕ). text_of es ++ xs) first
    ∙ (sym (append_assoc (text_of es) (line e) after) ∙ ap (λ (xs : List ℕ). xs ++ after) (sym (text_of-more es e))))

All-one : (P : Entry → Type 0) (e : Entry) → P e → All P (e ∷ [])
All-one P e h zero d lt = h
All-one P e h (suc k) d lt = absurd (omega arith)

pub All-more : (P : Entry → Type 0) (es : List Entry) (e : Entry) → All P es → P e → All P (es ++ e ∷ [])
All-more P es e h g = All-append P es (e ∷ []) h (All-one P e g)

-- a line has a byte at least
pub fewer : (rest after : List ℕ) (e : Entry) → rest ≡ line e ++ after → length after + 1 ≤ length rest
fewer rest after e first =
    omega (arith, ap length first, length-append (line e) after, length-append (spelling e) (10 ∷ []))
