-- Counts of faults over several calls.
use Rattle.std.specs.Prelude.{ℕ, ◌+◌, ◌-◌, ◌^◌, ◌≤◌, min, List, Result, Ok, Err}
use Rattle.std.proofs.Common.{arith}
use Rattle.edge_traits.specs.Faults.{LibraryCall, Rose, Counts, CountsAt}

-- a rise after calls that did not lower the count is a rise over all of them
pub Rose-after : (before middle now : ℕ) → before ≤ middle → Rose middle now → Rose before now
Rose-after before middle now stands rose = omega arith

-- calls that do not lower the count keep a rise
pub Rose-before : (before middle now : ℕ) → Rose before middle → middle ≤ now → Rose before now
Rose-before before middle now rose stands = omega arith

-- one more, up to the greatest `u64`, is a rise
pub Rose-one_more : (before : ℕ) → Rose before (min (before + 1) (2 ^ 64 - 1))
Rose-one_more before = omega arith

-- below the greatest `u64` a count that rose is a greater one
pub Rose-strict : (before now : ℕ) → now ≤ 2 ^ 64 - 2 → Rose before now → before + 1 ≤ now
Rose-strict before now small rose = omega arith

-- no call lowers the count
pub Counts-stands : {T E : Type 0} (before now : ℕ) (r : Result T E) → Counts before now r → before ≤ now
Counts-stands before now (Ok x) same = omega arith
Counts-stands before now (Err e) counted = counted.0

-- an object that counts all its failed calls together tells that count of each call and name
pub Counts-at : {T E : Type 0} (call : LibraryCall) (name : List ℕ) (before now : ℕ) (r : Result T E) → Counts before now r
    → CountsAt call name (λ _ _. before) (λ _ _. now) r
Counts-at call name before now (Ok x) same = λ each other. same
Counts-at call name before now (Err e) counted = (λ each other. counted.0, counted.1)
