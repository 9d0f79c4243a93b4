use Rattle.std.proofs.Common.{◌≡◌, ℕ, ◌+◌, ◌-◌, ◌*◌, ◌<◌, ◌≤◌, inl, inr, List, length, drop, take, get_or, pos, ◌+ℤ◌, ℤ, arith, ap, ◌∙◌}
use Rattle.std.proofs.lemmas.Bool.{cases_lt}
use Rattle.std.specs.Int.{w32, int_wrap}
use Rattle.nd_base.specs.declared.array.SampleType.{SampleType}
use Rattle.nd_base.specs.Samples.{width}
use Rattle.lane_kernels.specs.Plain.{run, stored}
use Rattle.lane_kernels.proofs.Blocks.{with_part-before, with_part-behind, with_part-added}
use Rattle.lane_kernels.proofs.Slices.{slice_behind, stored_behind}
use Rattle.lane_kernels.proofs.binned.add_low_pairs.Goals as goal

-- the samples of a line from a place on
run_behind : (kind : SampleType) (p q : ℕ) (line : List ℕ) → run kind (drop (p * width kind) line) 2 q ≡ run kind line 2 (p + q)
run_behind kind p q line =
    let sample : (j : ℕ) → stored kind (drop (p * width kind) line) (q + j) ≡ stored kind line (p + q + j) = λ j.
    stored_behind kind p (q + j) line ∙ ap (stored kind line) (omega arith) in
    λ i. pos 0 +ℤ sample 0 i +ℤ sample 1 i

pub loop-sums-preserved : goal.loop-sums-preserved
loop-sums-preserved c =
    let done = c.loop-sums.done in
    let sums = c.loop-sums.sums in
    let part = c.add_low_lanes.new.sums in
    let n = done + 8 - done in
    let more : ℕ → ℤ = run c.args.kind c.args.line.now 2 in
    let within : done ≤ length sums = omega arith in
    let same : length part ≡ n = omega arith in
    let at : (i : ℕ) → done * 2 + i * 2 ≡ 0 + done * 2 + i * 2 = λ i. omega arith in
    let each = λ (i : ℕ) (h : i < length part). c.add_low_lanes.ensures i h ∙ ap (λ p. int_wrap w32 (get_or (take n (drop done sums)) i (pos 0) +ℤ more p)) (at i) in
    record {
      done = omega arith;
      added = λ i h. elim (cases_lt i done) [
        | inl b ↦ with_part-before done n sums part (pos 0) within same i b ∙ c.loop-sums.invariant.added i b
        | inr b ↦ with_part-added done n sums part (pos 0) within same w32 (λ z. z) more 0 2 each i b (omega arith)
            ∙ ap (λ z. int_wrap w32 (z +ℤ more (0 + i * 2))) (c.loop-sums.invariant.rest i b)
      ];
      rest = λ i h. with_part-behind done n sums part (pos 0) within same i (omega arith) ∙ c.loop-sums.invariant.rest i (omega arith);
    }

pub returns : goal.returns
returns c = λ i h.
    let kind = c.args.kind in
    let line = c.args.line.now in
    let done = c.loop-sums.done in
    let sums = c.loop-sums.sums in
    let part = c.add_low_each.new.sums in
    let n = length sums - done in
    let more : ℕ → ℤ = run kind line 2 in
    let within : done ≤ length sums = omega arith in
    let same : length part ≡ n = omega arith in
    let at : (i : ℕ) → done * 2 + i * 2 ≡ 0 + done * 2 + i * 2 = λ i. omega arith in
    let each = λ (i : ℕ) (h : i < length part). c.add_low_each.ensures i h
    ∙ ap (λ z. int_wrap w32 (get_or (take n (drop done sums)) i (pos 0) +ℤ z)) (ap (λ l. run kind l 2 (i * 2)) (slice_behind (done * 2 * c.width.result) line
    ∙ ap (λ w. drop (done * 2 * w) line) c.width.ensures) ∙ run_behind kind (done * 2) (i * 2) line ∙ ap more (at i)) in
    let here : 0 + i * 2 ≡ i * 2 = omega arith in
    elim (cases_lt i done) [
      | inl b ↦ with_part-before done n sums part (pos 0) within same i b ∙ c.loop-sums.invariant.added i b
      | inr b ↦ with_part-added done n sums part (pos 0) within same w32 (λ z. z) more 0 2 each i b (omega arith)
          ∙ ap (λ z. int_wrap w32 (z +ℤ more (0 + i * 2))) (c.loop-sums.invariant.rest i b)
    ] ∙ ap (λ p. int_wrap w32 (get_or c.args.sums.now i (pos 0) +ℤ more p)) here
