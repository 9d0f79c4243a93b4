use Rattle.std.proofs.Common.{◌≡◌, ℕ, ◌+◌, ◌-◌, ◌*◌, ◌<◌, ◌≤◌, inl, inr, length, drop, pos, ◌+ℤ◌, ℤ, arith, ap, ◌∙◌}
use Rattle.std.proofs.lemmas.List.{length-take-le, length-drop}
use Rattle.std.proofs.lemmas.Bool.{cases_lt}
use Rattle.std.specs.Int.{w64, int_wrap}
use Rattle.nd_base.specs.declared.array.SampleType.TheVariants.{UInt8}
use Rattle.lane_kernels.specs.Plain.{run}
use Rattle.lane_kernels.proofs.Blocks.{in_part, with_part-before, with_part-behind, with_part-added}
use Rattle.lane_kernels.proofs.binned.add_byte_pairs.Goals as goal

pub add_lanes-requires-clause-fit : goal.add_lanes-requires-clause-fit
add_lanes-requires-clause-fit c = λ k h.
    let done = c.loop-sums.done in
    let sums = c.loop-sums.sums in
    let n = done + 8 - done in
    let left : n ≤ length (drop done sums) = simp length-drop (omega arith) in
    let long = length-take-le n (drop done sums) left in
    let here : k < n = omega (arith, long, h) in
    let same = in_part done n sums k (pos 0) here ∙ c.loop-sums.invariant.rest (done + k) (omega arith) in
    rw same (c.requires.fit (done + k) (omega arith))

pub loop-sums-preserved : goal.loop-sums-preserved
loop-sums-preserved c =
    let done = c.loop-sums.done in
    let sums = c.loop-sums.sums in
    let part = c.add_lanes.new.sums in
    let n = done + 8 - done in
    let more : ℕ → ℤ = run UInt8 c.args.input.now 2 in
    let within : done ≤ length sums = omega arith in
    let same : length part ≡ n = omega arith in
    record {
      done = omega arith;
      added = λ i h. elim (cases_lt i done) [
        | inl b ↦ with_part-before done n sums part (pos 0) within same i b ∙ c.loop-sums.invariant.added i b
        | inr b ↦ with_part-added done n sums part (pos 0) within same w64 (λ z. z) more c.args.place 2 c.add_lanes.ensures i b (omega arith)
            ∙ ap (λ z. int_wrap w64 (z +ℤ more (c.args.place + i * 2))) (c.loop-sums.invariant.rest i b)
      ];
      rest = λ i h. with_part-behind done n sums part (pos 0) within same i (omega arith) ∙ c.loop-sums.invariant.rest i (omega arith);
    }

pub returns : goal.returns
returns c = λ i h.
    let done = c.loop-sums.done in
    let sums = c.loop-sums.sums in
    let part = c.add_each.new.sums in
    let n = length sums - done in
    let more : ℕ → ℤ = run UInt8 c.args.input.now 2 in
    let within : done ≤ length sums = omega arith in
    let same : length part ≡ n = omega arith in
    elim (cases_lt i done) [
      | inl b ↦ with_part-before done n sums part (pos 0) within same i b ∙ c.loop-sums.invariant.added i b
      | inr b ↦ with_part-added done n sums part (pos 0) within same w64 (λ z. z) more c.args.place 2 c.add_each.ensures i b (omega arith)
          ∙ ap (λ z. int_wrap w64 (z +ℤ more (c.args.place + i * 2))) (c.loop-sums.invariant.rest i b)
    ]
