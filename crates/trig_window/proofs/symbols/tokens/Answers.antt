use Rattle.std.proofs.Common.{◌≡◌, ℕ, ◌+◌, ◌≤◌, ◌-◌, List, ◌++◌, length, take, drop, ap, sym, ◌∙◌, arith, length-drop}
use Rattle.std.proofs.lemmas.List.{append-nil, take_rest}
use Rattle.trig_window.specs.Coded.{symbol_of}
use Rattle.trig_window.specs.Marks.{Symbol, Token}
use Rattle.trig_window.specs.Symbols.{tokens, tokens_from, symbol_at}
use Rattle.trig_window.proofs.Tokens.{at_space, at_symbol, tokens_from-end}
use Rattle.trig_window.proofs.symbols.tokens.Goals as goal
use Rattle.trig_window.proofs.symbols.tokens.Goals.{then-text-at-ne32+in_ok-push, else-text-at-ne32}

pub loop-at-preserved : goal.loop-at-preserved
loop-at-preserved c =
    let at = c.loop-at.at in
    let text = c.args.text.now in
    let found : Symbol × ℕ = (symbol_of c.symbol_at-symbol.result.0, c.symbol_at-symbol.result.1) in
    let left : length (drop at text) ≡ length text - at = length-drop at text in
    let rest = take_rest text at in
    let symbol : found ≡ symbol_at (drop at text) = c.symbol_at-symbol.ensures.symbol ∙ ap symbol_at rest in
    let same : length (take (length text - at) (drop at text)) ≡ length (drop at text) = ap length rest in
    let fits : found.1 ≤ length (take (length text - at) (drop at text)) = c.symbol_at-symbol.ensures.within (omega (arith, c.loop-at-test.true)) in
    let within : found.1 ≤ length (drop at text) = omega arith in (
      omega arith,
      elim c.if-text-at-ne32.branch [
        | then-text-at-ne32+in_ok-push w ↦
            ap (λ v. v.items ++ tokens_from (at + found.1) 0 (drop (at + found.1) text)) w.tokens-is
            ∙ ap (λ (xs : List Token). xs ++ tokens_from (at + found.1) 0 (drop (at + found.1) text)) w.in_ok-push.ensures.items
            ∙ at_symbol at text (tokens text) c.loop-at.tokens.items found c.loop-at-test.true symbol c.symbol_at-symbol.ensures.positive within
            w.if-text-at-ne32.true c.loop-at.invariant.1
        | else-text-at-ne32 w ↦
            ap (λ v. v.items ++ tokens_from (at + found.1) 0 (drop (at + found.1) text)) w.tokens-is
            ∙ at_space at text (tokens text) c.loop-at.tokens.items found c.loop-at-test.true symbol c.symbol_at-symbol.ensures.positive within
            w.if-text-at-ne32.false c.loop-at.invariant.1
      ],
    )

pub returns : goal.returns
returns c =
    sym (append-nil c.loop-at.tokens.items)
    ∙ ap (λ (ts : List Token). c.loop-at.tokens.items ++ ts) (sym (tokens_from-end c.loop-at.at c.args.text.now c.loop-at-test.false)) ∙ c.loop-at.invariant.1
