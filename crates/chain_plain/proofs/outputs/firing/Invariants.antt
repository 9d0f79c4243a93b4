use Rattle.std.proofs.Common.{◌≡◌, map, take}
use Rattle.chain_plain.specs.OneThread.{fires_at}
use Rattle.chain_plain.proofs.outputs.firing.Given as goal

abbrev pub invariant-loop-position : goal.invariant-loop-position
invariant-loop-position l = l.fired.items ≡ map (fires_at l.rule l.stack.arrays) (take l.position-index l.accepted)
