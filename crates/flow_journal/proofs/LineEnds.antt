-- Where the line of an entry ends.
use Rattle.std.proofs.Common.{◌≡◌, ℕ, suc, ◌+◌, ◌<◌, true, not, eqb, List, [], ◌∷◌, ◌++◌, length, take, drop, get_or, refl, sym, ap, subst, ◌∙◌, arith}
use Rattle.std.proofs.Common.{append_assoc, length-append, Some}
use Rattle.std.specs.Prelude.{position}
use Rattle.std.specs.List.{position_or_len}
use Rattle.std.proofs.lemmas.Bool.{and_parts, not-true, lt-ltb, eqb-true}
use Rattle.std.proofs.lemmas.List.{take-append-drop}
use Rattle.std.proofs.lemmas.List.Quantifiers.{position-Some}
use Rattle.std.proofs.Math.Seq.{drop-cons, take-append_seam}
use Rattle.flow_journal.specs.declared.entry.Entry.{Entry}
use Rattle.flow_journal.specs.Spelling.{spelling, line}
use Rattle.flow_journal.specs.TextFaults.{Fits}
use Rattle.flow_journal.proofs.Spelled.{has_no_newline, no_newline-spelling}

first_newline : (xs back : List ℕ) → has_no_newline xs ≡ true → position_or_len (λ c. eqb c 10) (xs ++ 10 ∷ back) ≡ length xs
first_newline [] back h = refl
first_newline (c ∷ xs) back h =
    let p = and_parts (not (eqb c 10)) (has_no_newline xs) h in
    rw (not-true (eqb c 10) p.0)
    (let e : 1 + position_or_len (λ d. eqb d 10) (xs ++ 10 ∷ back) ≡ suc (length xs) = omega (arith, first_newline xs back p.1) in e)

-- in a text that begins with the line of an entry, the first newline ends that line
pub line_end-line : (text : List ℕ) (e : Entry) (back : List ℕ) → Fits e → text ≡ line e ++ back → position (λ c. eqb c 10) text ≡ Some (length (spelling e))
line_end-line text e back fits same =
    let whole : text ≡ spelling e ++ 10 ∷ back = same ∙ append_assoc (spelling e) (10 ∷ []) back in
    let at : position_or_len (λ c. eqb c 10) text ≡ length (spelling e) =
    ap (position_or_len (λ c. eqb c 10)) whole ∙ first_newline (spelling e) back (no_newline-spelling e fits) in
    let within : length (spelling e) < length text = omega (arith, ap length whole, length-append (spelling e) (10 ∷ back)) in
    rw at (rw (lt-ltb (length (spelling e)) (length text) within) refl)

-- and what stands before it is the spelling
pub taken-line : (text : List ℕ) (end : ℕ) (e : Entry) (back : List ℕ) → Fits e → position (λ c. eqb c 10) text ≡ Some end
    → text ≡ line e ++ back → take end text ≡ spelling e
taken-line text end e back fits ends same =
    let both : Some (length (spelling e)) ≡ Some end = sym (line_end-line text e back fits same) ∙ ends in
    let here : length (spelling e) ≡ end = cc in
    let whole : text ≡ spelling e ++ 10 ∷ back = same ∙ append_assoc (spelling e) (10 ∷ []) back in
    subst (λ (n : ℕ). take n text ≡ spelling e) here (ap (take (length (spelling e))) whole ∙ take-append_seam (spelling e) (10 ∷ back))

-- a text is its first line and the rest
pub line-parts : (text : List ℕ) (end : ℕ) (e : Entry) → position (λ c. eqb c 10) text ≡ Some end → take end text ≡ spelling e
    → text ≡ line e ++ drop (end + 1) text
line-parts text end e ends same =
    let p = position-Some (λ c. eqb c 10) text end 0 ends in
    let within : end < length text = p.0 in
    let newline : get_or text end 0 ≡ 10 = eqb-true (get_or text end 0) 10 p.1 in
    let rest : drop end text ≡ 10 ∷ drop (end + 1) text =
    drop-cons text end 0 within
    ∙ (ap (λ (c : ℕ). c ∷ drop (suc end) text) newline ∙ ap (λ (n : ℕ). 10 ∷ drop n text) (let e : suc end ≡ end + 1 = omega arith in e)) in
    sym (take-append-drop end text)
    ∙ (ap (λ (ys : List ℕ). take end text ++ ys) rest
    ∙ (ap (λ (xs : List ℕ). xs ++ 10 ∷ drop (end + 1) text) same ∙ sym (append_assoc (spelling e) (10 ∷ []) (drop (end + 1) text))))
