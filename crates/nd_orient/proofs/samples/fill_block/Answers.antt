use Rattle.std.proofs.Common.{◌≡◌, ◌+◌, ◌*◌, inl, inr, subst, arith}
use Rattle.std.proofs.lemmas.Bool.{cases_lt}
use Rattle.nd_orient.specs.Walk.{line_size, IsFilled}
use Rattle.nd_orient.proofs.samples.fill_block.Goals as goal

pub loop-y-preserved : goal.loop-y-preserved
loop-y-preserved c = record {
  block = λ x y left right top bottom. elim (cases_lt y c.loop-y.y) [
    | inl before ↦ c.fill_line.ensures.keeps _ (c.loop-y.invariant.block x y left right top before)
    | inr last ↦
        let job = c.args.job.now in
        let same : c.loop-y.y ≡ y = omega arith in
        subst (λ n. IsFilled job.width job.plane job.input.now c.fill_line.new.out (n * line_size job.plane + x)) same (c.fill_line.ensures.line x left right)
  ];
  keeps = λ k h. c.fill_line.ensures.keeps k (c.loop-y.invariant.keeps k h);
}
