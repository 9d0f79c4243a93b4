use Rattle.std.proofs.Common.{◌≡◌, ◌<◌, ◌≤◌, ◌+◌, ◌^◌, All, vec_len}
use Rattle.std.specs.Prelude.{vec_capacity}
use Rattle.turn_lock.specs.Passes.{new_passes}
use Rattle.turn_lock.specs.Counting.{IsReady}
use Rattle.turn_lock.proofs.crowd.jobs.Given as goal

abbrev pub invariant-loop-pass : goal.invariant-loop-pass
invariant-loop-pass l = (l.passes.items ≡ new_passes l.lock.id 0 (vec_len l.passes)) × (vec_len l.passes < 2 ^ 32) × All (λ j. IsReady l.lock.id j) l.jobs.items
    × (vec_len l.passes + vec_len l.jobs ≤ vec_capacity l.jobs) × (vec_len l.passes + vec_len l.jobs ≡ vec_len l.initial.passes)

abbrev pub decreases-loop-pass : goal.decreases-loop-pass
decreases-loop-pass l = goal.left-loop-pass l
