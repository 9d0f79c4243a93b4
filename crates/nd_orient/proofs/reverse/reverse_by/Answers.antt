use Rattle.std.proofs.Common.{◌≡◌, ◌+◌, ◌-◌, ◌<◌, inl, inr, ap, sym, ◌∙◌, arith}
use Rattle.std.proofs.lemmas.Bool.{cases_lt}
use Rattle.nd_orient.specs.Walk.{cell}
use Rattle.nd_orient.proofs.reverse.reverse_by.Goals as goal

pub loop-done-preserved : goal.loop-done-preserved
loop-done-preserved c = record {
  within = omega (arith, c.loop-done-test.true, c.loop-done.invariant.within);
  cells = λ k h. elim (cases_lt k c.loop-done.done) [
    | inl before ↦ c.copy_reversed.ensures.others k (inl before) ∙ c.loop-done.invariant.cells k before
    | inr from ↦
        let w = c.args.width in
        let done = c.loop-done.done in
        let j = k - done in
        let inside : j < c.args.count = omega arith in
        let here : done + j ≡ k = omega arith in
        let last : c.args.samples - done - c.args.count + (c.args.count - 1 - j) ≡ c.args.samples - 1 - k =
        omega (arith, c.loop-done-test.true, c.loop-done.invariant.within) in
        ap (cell w c.copy_reversed.new.out) (sym here) ∙ c.copy_reversed.ensures.copied j inside ∙ ap (cell w c.args.input.now) last
  ];
}
