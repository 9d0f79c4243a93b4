use Rattle.std.proofs.Common.{◌≡◌, ℕ, ◌<◌}
use Rattle.nd_base.specs.Samples.{width, sample_bytes}
use Rattle.nd_orient.specs.Correction.{corrected_sample}
use Rattle.nd_orient.specs.Walk.{cell, stored}
use Rattle.nd_orient.proofs.correction.correct_each.Given as goal

-- the samples so far
abbrev pub invariant-loop-k : goal.invariant-loop-k
invariant-loop-k l = (k : ℕ) → k < l.k → cell (width l.input.kind) l.out k
    ≡ sample_bytes l.input.kind
    (corrected_sample l.scale.rule l.input.kind (stored l.input.kind l.input.bytes.now k) (stored l.dark.kind l.dark.bytes.now k))
