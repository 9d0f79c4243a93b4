use Rattle.std.proofs.Common.{◌≡◌, ◌≤◌, ◌-◌, ◌++◌, length, drop}
use Rattle.trig_window.specs.Symbols.{tokens, tokens_from}
use Rattle.trig_window.proofs.symbols.tokens.Given as goal

abbrev pub invariant-loop-at : goal.invariant-loop-at
invariant-loop-at l = (l.at ≤ length l.text) × (l.tokens.items ++ tokens_from l.at 0 (drop l.at l.text) ≡ tokens l.text)

abbrev pub decreases-loop-at : goal.decreases-loop-at
decreases-loop-at l = length l.text - l.at
