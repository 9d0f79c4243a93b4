use Rattle.std.proofs.Common.{◌≡◌, ℕ, ◌≤◌, length}
use Rattle.chain_plain.specs.PlainRun.{passed}
use Rattle.plain_saver.specs.Passes.{pass_at}
use Rattle.plain_saver.proofs.passes.passes.Given as goal

-- the positions of the nodes so far
abbrev pub invariant-loop-place : goal.invariant-loop-place
invariant-loop-place l =
    record {
      count : length l.passes.items ≡ l.place;
      positions : (v : ℕ) → 1 ≤ v → v ≤ l.place → (pass_at l.passes.items v).positions ≡ passed l.source.graph l.source.stack v;
      none : (v : ℕ) → (pass_at l.passes.items v).gone ≡ 0;
    }
