use Rattle.std.proofs.Common.{◌≡◌, ℕ, ◌-◌, ◌<◌, ◌≤◌}
use Rattle.nd_orient.specs.Walk.{cell}
use Rattle.nd_orient.proofs.reverse.reverse_rest.Given as goal

abbrev pub invariant-loop-k : goal.invariant-loop-k
invariant-loop-k l = record {
  rest : (i : ℕ) → l.done ≤ i → i < l.k → cell l.width l.out i ≡ cell l.width l.input (l.samples - 1 - i);
  before : (i : ℕ) → i < l.done → cell l.width l.out i ≡ cell l.width l.initial.out i;
}
