-- The symbols of what is left of a text.
use Rattle.std.proofs.Common.{◌≡◌, ◌≢◌, ℕ, zero, suc, ◌+◌, ◌-◌, ◌<◌, ◌≤◌, ◌==◌, List, [], ◌∷◌, ◌++◌, length, drop, get_or, if◌then◌else◌, subst, ap, sym}
use Rattle.std.proofs.Common.{◌∙◌, refl, arith}
use Rattle.std.proofs.lemmas.Bool.{eq-eqb, ne_eqb, cond-true, cond-false}
use Rattle.std.proofs.lemmas.List.{drop_more, drop-drop, drop_all, append_assoc}
use Rattle.trig_window.specs.Marks.{Symbol}
use Rattle.trig_window.specs.Marks.{Token}
use Rattle.trig_window.specs.Symbols.{tokens_from, symbol_at}

-- what belongs to the symbol before is skipped
tokens_from-joined : (at joined : ℕ) (text : List ℕ) → joined ≤ length text → tokens_from at joined text ≡ tokens_from (at + joined) 0 (drop joined text)
unfolding tokens_from
tokens_from-joined at zero text h = ap (λ n. tokens_from n 0 text) (let e : at ≡ at + 0 = omega arith in e)
tokens_from-joined at (suc joined) [] h = absurd (omega arith)
tokens_from-joined at (suc joined) (c ∷ cs) h =
    let e : at + 1 + joined ≡ at + suc joined = omega arith in
    tokens_from-joined (at + 1) joined cs (omega arith) ∙ ap (λ n. tokens_from n 0 (drop joined cs)) e

-- at a symbol's first byte
step : (at : ℕ) (c : ℕ) (cs : List ℕ)
    → tokens_from at 0 (c ∷ cs) ≡ (if c == 32 then [] else record { symbol = (symbol_at (c ∷ cs)).0; at = at } ∷ [])
    ++ tokens_from (at + 1) ((symbol_at (c ∷ cs)).1 - 1) cs
unfolding tokens_from
step at c cs = refl

step-at : (at c : ℕ) (cs : List ℕ) → 1 ≤ (symbol_at (c ∷ cs)).1 → (symbol_at (c ∷ cs)).1 ≤ length (c ∷ cs)
    → tokens_from at 0 (c ∷ cs) ≡ (if c == 32 then [] else record { symbol = (symbol_at (c ∷ cs)).0; at = at } ∷ [])
    ++ tokens_from (at + (symbol_at (c ∷ cs)).1) 0 (drop (symbol_at (c ∷ cs)).1 (c ∷ cs))
step-at at c cs positive within =
    let w : ℕ = (symbol_at (c ∷ cs)).1 in
    let e : at + 1 + (w - 1) ≡ at + w = omega arith in
    let f : suc (w - 1) ≡ w = omega arith in
    step at c cs
    ∙ ap (λ ts. (if c == 32 then [] else record { symbol = (symbol_at (c ∷ cs)).0; at = at } ∷ []) ++ ts)
    (tokens_from-joined (at + 1) (w - 1) cs (omega arith) ∙ ap (λ n. tokens_from n 0 (drop (w - 1) cs)) e
    ∙ ap (λ n. tokens_from (at + w) 0 (drop n (c ∷ cs))) f)

-- the symbols of a rest: the next one, unless it is a space, and those behind it
pub tokens_from-step : (at : ℕ) (text : List ℕ) → at < length text → 1 ≤ (symbol_at (drop at text)).1 → (symbol_at (drop at text)).1 ≤ length (drop at text)
    → tokens_from at 0 (drop at text) ≡ (if get_or text at 0 == 32 then [] else record { symbol = (symbol_at (drop at text)).0; at = at } ∷ [])
    ++ tokens_from (at + (symbol_at (drop at text)).1) 0 (drop (at + (symbol_at (drop at text)).1) text)
tokens_from-step at text h positive within =
    subst (λ d. 1 ≤ (symbol_at d).1 → (symbol_at d).1 ≤ length d
    → tokens_from at 0 d ≡ (if get_or text at 0 == 32 then [] else record { symbol = (symbol_at d).0; at = at } ∷ []) ++ tokens_from (at + (symbol_at d).1) 0
    (drop (symbol_at d).1 d)) (sym (drop_more text at 0 h)) (step-at at (get_or text at 0) (drop (at + 1) text)) positive within
    ∙ ap (λ d. (if get_or text at 0 == 32 then [] else record { symbol = (symbol_at (drop at text)).0; at = at } ∷ [])
    ++ tokens_from (at + (symbol_at (drop at text)).1) 0 d) (drop-drop (symbol_at (drop at text)).1 at text)

-- the symbols so far and those of the rest are all of them
pub at_space : (at : ℕ) (text : List ℕ) (all : List Token) (done : List Token) (found : Symbol × ℕ) → at < length text → found ≡ symbol_at (drop at text)
    → 1 ≤ found.1 → found.1 ≤ length (drop at text) → get_or text at 0 ≡ 32 → done ++ tokens_from at 0 (drop at text) ≡ all
    → done ++ tokens_from (at + found.1) 0 (drop (at + found.1) text) ≡ all
at_space at text all done found h e positive within space before =
    let p : 1 ≤ (symbol_at (drop at text)).1 = subst (λ (f : Symbol × ℕ). 1 ≤ f.1) e positive in
    let q : (symbol_at (drop at text)).1 ≤ length (drop at text) = subst (λ (f : Symbol × ℕ). f.1 ≤ length (drop at text)) e within in
    ap (λ (f : Symbol × ℕ). done ++ tokens_from (at + f.1) 0 (drop (at + f.1) text)) e
    ∙ ap (λ ts. done ++ ts) (sym (tokens_from-step at text h p q ∙ ap
    (λ ts. ts ++ tokens_from (at + (symbol_at (drop at text)).1) 0 (drop (at + (symbol_at (drop at text)).1) text)) (cond-true _ [] _ (eq-eqb _ 32 space))))
    ∙ before

pub at_symbol : (at : ℕ) (text : List ℕ) (all : List Token) (done : List Token) (found : Symbol × ℕ) → at < length text → found ≡ symbol_at (drop at text)
    → 1 ≤ found.1 → found.1 ≤ length (drop at text) → get_or text at 0 ≢ 32 → done ++ tokens_from at 0 (drop at text) ≡ all
    → (done ++ record { symbol = found.0; at = at } ∷ []) ++ tokens_from (at + found.1) 0 (drop (at + found.1) text) ≡ all
at_symbol at text all done found h e positive within mark before =
    let p : 1 ≤ (symbol_at (drop at text)).1 = subst (λ (f : Symbol × ℕ). 1 ≤ f.1) e positive in
    let q : (symbol_at (drop at text)).1 ≤ length (drop at text) = subst (λ (f : Symbol × ℕ). f.1 ≤ length (drop at text)) e within in
    ap (λ (f : Symbol × ℕ). (done ++ record { symbol = f.0; at = at } ∷ []) ++ tokens_from (at + f.1) 0 (drop (at + f.1) text)) e
    ∙ append_assoc done (record { symbol = (symbol_at (drop at text)).0; at = at } ∷ [])
    (tokens_from (at + (symbol_at (drop at text)).1) 0 (drop (at + (symbol_at (drop at text)).1) text))
    ∙ ap (λ ts. done ++ ts) (sym (tokens_from-step at text h p q ∙ ap
    (λ ts. ts ++ tokens_from (at + (symbol_at (drop at text)).1) 0 (drop (at + (symbol_at (drop at text)).1) text)) (cond-false _ [] _ (ne_eqb _ 32 mark))))
    ∙ before

pub tokens_from-end : (at : ℕ) (text : List ℕ) → length text ≤ at → tokens_from at 0 (drop at text) ≡ []
unfolding tokens_from
tokens_from-end at text h = ap (tokens_from at 0) (drop_all at text h)
