use Rattle.std.proofs.Common.{◌≡◌, [], length}
use Rattle.std.specs.Prelude.{All}
use Rattle.plain_saver.proofs.texts.Texts.new.Given as goal

-- so many texts, which are empty
abbrev pub invariant-loop-node : goal.invariant-loop-node
invariant-loop-node l = (length l.texts.items ≡ l._node-index) × All (λ text. text ≡ []) l.texts.items
