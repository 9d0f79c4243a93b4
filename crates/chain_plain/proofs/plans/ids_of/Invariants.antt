use Rattle.std.proofs.Common.{◌≡◌, map, take}
use Rattle.chain_plain.proofs.plans.ids_of.Given as goal

-- the ids of the frames so far
abbrev pub invariant-loop-k : goal.invariant-loop-k
invariant-loop-k l = l.ids.items ≡ map (λ a. a.id) (take l.k l.stack.arrays)
